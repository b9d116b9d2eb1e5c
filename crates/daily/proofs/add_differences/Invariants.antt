-- `add_differences` meets its contract: the loop has the dues with what the first j products add (`part-more`), within range by `part_in`. Assumes nothing.
use mathlib.Core.Path.{◌≡◌}
use Rattle.whole.specs.Counting.{listed}
use Rattle.places.specs.Place.{get, dues}
use Rattle.places.specs.ByAccount.{by_account}
use Rattle.daily.specs.DueLaws.{part}
use Rattle.daily.proofs.add_differences.Given as goal

abbrev pub invariant-loop-j : goal.invariant-loop-j
invariant-loop-j l = l.new ≡ listed dues (part l.fn.figures.prices.now l.fn.figures.lags.now (get by_account l.s l.words) l.a l.j)

-- `close_products` meets its contract: the first j products are walked, and what the next one relies on still holds (`named_then`, `column_then`).
-- Assumes nothing.
use mathlib.Core.Path.{◌≡◌}
use Rattle.places.specs.ByAccount.{by_account}
use Rattle.daily.specs.Given.{of_lists}
use Rattle.closing.specs.Walk.{walked}
use Rattle.closing.proofs.close_products.Given as goal

abbrev pub invariant-loop-j : goal.invariant-loop-j
invariant-loop-j l = l.words ≡ of_lists l.fn.figures (walked by_account l.s) l.j l.initial.words

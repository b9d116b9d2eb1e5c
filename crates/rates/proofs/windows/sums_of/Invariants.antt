-- `sums_of` meets its contract: the sums of the figures passed, four more a turn. Assumes nothing.
use Rattle.std.proofs.Common.{◌≡◌, ◌*◌, Some}
use Rattle.rates.specs.SumsLaws.{sums_to}
use Rattle.rates.proofs.windows.sums_of.Given as goal

abbrev pub invariant-loop-four : goal.invariant-loop-four
invariant-loop-four l = Some l.sums ≡ sums_to l.window (l.four-index * 4)

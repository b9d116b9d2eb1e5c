-- `others_added` meets its contract: the sums of the figures passed. Assumes nothing.
use Rattle.std.proofs.Common.{◌≡◌, ◌+◌, Some}
use Rattle.rates.specs.SumsLaws.{sums_to}
use Rattle.rates.proofs.windows.others_added.Given as goal

abbrev pub invariant-loop-x : goal.invariant-loop-x
invariant-loop-x l = Some l.sums ≡ sums_to l.window (l.from + l.x-index)

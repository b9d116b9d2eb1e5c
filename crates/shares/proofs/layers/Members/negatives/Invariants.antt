-- `negatives` meets its contract: what the members passed count for is added. Assumes nothing.
use mathlib.Core.Path.{◌≡◌}
use Rattle.whole.specs.Counting.{total}
use Rattle.shares.specs.Loss.{negative}
use Rattle.shares.proofs.layers.Members.negatives.Given as goal

abbrev pub invariant-loop-i : goal.invariant-loop-i
invariant-loop-i l = l.sum ≡ total l.i (negative l.self.marks.now l.self.figures.now)

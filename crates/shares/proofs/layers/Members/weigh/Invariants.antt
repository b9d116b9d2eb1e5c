-- `weigh` meets its contract: the members passed have their weights, and these are added. Assumes nothing.
use mathlib.Core.Path.{◌≡◌}
use lib.ListN.{length}
use Rattle.whole.specs.Counting.{total}
use Rattle.whole.specs.Listed.{filled}
use Rattle.shares.specs.Loss.{weight}
use Rattle.shares.proofs.layers.Members.weigh.Given as goal

abbrev pub invariant-loop-i : goal.invariant-loop-i
invariant-loop-i l =
    let f = weight l.self.marks.now l.self.figures.now in
    (length l.weights ≡ length l.self.figures.now) × (l.weights ≡ filled l.i f l.initial.weights) × (l.sum ≡ total l.i f)

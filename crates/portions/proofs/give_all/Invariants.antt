-- `give_all` meets its contract: the words passed are the weights, which fit. Assumes nothing.
use mathlib.Core.Path.{◌≡◌}
use lib.IntN.{pos}
use lib.ListN.{length}
use Rattle.whole.specs.Listed.{filled}
use Rattle.portions.specs.Share.{of_member}
use Rattle.portions.proofs.give_all.Given as goal

abbrev pub invariant-loop-i : goal.invariant-loop-i
invariant-loop-i l = (length l.out ≡ length l.weights) × (l.out ≡ filled l.i (λ k. pos (of_member l.weights k)) l.initial.out)

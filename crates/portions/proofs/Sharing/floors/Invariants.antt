-- `floors` meets its contract: the floors and remainders of the members passed are written, and the floors added. Assumes nothing.
use mathlib.Core.Path.{◌≡◌}
use lib.IntN.{pos}
use lib.ListN.{length}
use Rattle.whole.specs.Counting.{total}
use Rattle.whole.specs.Listed.{filled}
use Rattle.portions.specs.Share.{of_member, floor_of, remainder_of}
use Rattle.portions.proofs.Sharing.floors.Given as goal

abbrev pub invariant-loop-i : goal.invariant-loop-i
invariant-loop-i l =
    let n = length l.self.weights.now in
    let w = of_member l.self.weights.now in
    let amount = l.self.amount in
    (length l.out ≡ n)
    × (length l.remainders ≡ n)
    × (l.remainders ≡ filled l.i (remainder_of n w amount) l.initial.remainders)
    × (l.out ≡ filled l.i (λ k. pos (floor_of n w amount k)) l.initial.out)
    × (l.given ≡ total l.i (floor_of n w amount))

-- `hand_out` meets its contract: the members passed have their yen. Assumes nothing.
use mathlib.Core.Path.{◌≡◌}
use mathlib.Core.Bool.{not}
use mathlib.Core.List.{List}
use Prim.Native.Nat.{ℕ}
use lib.IntN.{ℤ, pos, ◌+ℤ◌}
use lib.ListN.{length, get_or}
use Rattle.whole.specs.Counting.{one_if}
use Rattle.whole.specs.Listed.{filled}
use Rattle.portions.specs.Share.{of_member, comes_before}
use Rattle.portions.proofs.hand_out.Given as goal

-- what member k has afterwards
abbrev pub after : ℕ → ℕ → List ℕ → List ℤ → ℕ → ℤ
after last owner remainders out k = get_or out k (pos 0) +ℤ pos (one_if (not (comes_before last owner (of_member remainders k) k)))

abbrev pub invariant-loop-number : goal.invariant-loop-number
invariant-loop-number l =
    (length l.out ≡ length l.initial.out) × (l.out ≡ filled l.number (after l.last.remainder l.last.number l.remainders l.initial.out) l.initial.out)

-- `altered` meets its contract: of the words passed as many differ as were counted. Assumes nothing.
use Rattle.std.specs.Prelude.{◌≡◌, ◌≤◌, Bool, List, ℕ, ℤ, pos, length, get_or}
use Rattle.whole.specs.Counting.{how_many}
use Rattle.tally.specs.Tally.{other}
use Rattle.tally.proofs.altered.Given as goal

abbrev pub others : List ℤ → List ℤ → ℕ → Bool
others a b i = other (get_or a i (pos 0)) (get_or b i (pos 0))

abbrev pub invariant-loop-x : goal.invariant-loop-x
invariant-loop-x l = (l.count ≤ length l.yielded) × (l.count ≡ how_many (length l.yielded) (others l.a l.b))

-- How many words of two lists differ. What a reader of the gate's programs believes.
use Rattle.std.specs.Prelude.{Bool, cond, not, List, ℕ, eqb, ℤ, pos, length, get_or}
use Rattle.whole.specs.Number.{between}
use Rattle.whole.specs.Counting.{how_many}

-- x is another number than y
abbrev pub other : ℤ → ℤ → Bool
other x y = not (between y y x)

-- of two lists of one length; 1 where they have not one length
abbrev pub differing : List ℤ → List ℤ → ℕ
differing a b = cond (eqb (length a) (length b)) (how_many (length a) (λ i. other (get_or a i (pos 0)) (get_or b i (pos 0)))) 1

-- The house rule on shares (document 01, "Sharing a default loss"): "layer × weight / sum, rounded down; the yen left go one each to the largest
-- remainders, the lower account first on a tie". Nothing is sorted and nothing is handed out in turn: who gets a yen is said by counting.
-- What a reader believes.
use Rattle.std.specs.Prelude.{Bool, cond, ◌&&◌, ◌||◌, List, ℕ, ◌+◌, ◌*◌, ◌-◌, ◌/◌, ◌%◌, ltb, eqb, ℤ, pos, length, get_or}
use Rattle.whole.specs.Counting.{total, how_many, one_if, listed}

-- member j with the remainder x comes before member i with the remainder y: his remainder is larger, or the two are the same and his number is lower
abbrev pub comes_before : ℕ → ℕ → ℕ → ℕ → Bool
comes_before x j y i = ltb y x || (eqb x y && ltb j i)

-- the same of two of the members, by the remainder of each
unfoldable pub before : (ℕ → ℕ) → ℕ → ℕ → Bool
before remainder j i = comes_before (remainder j) j (remainder i) i

-- how many of n members come before i
unfoldable pub how_many_before : ℕ → (ℕ → ℕ) → ℕ → ℕ
how_many_before n remainder i = how_many n (λ j. before remainder j i)

-- n members, their weights, and the amount to share among them
module _ (n : ℕ) (weight : ℕ → ℕ) (amount : ℕ) where
  -- amount × weight / sum, rounded down
  unfoldable pub floor_of : ℕ → ℕ
  floor_of i = amount * weight i / total n weight

  -- what the rounding leaves of amount × weight
  unfoldable pub remainder_of : ℕ → ℕ
  remainder_of i = amount * weight i % total n weight

  -- the yen left when each member has his floor
  unfoldable pub left : ℕ
  left = amount - total n floor_of

  -- where somebody has a weight: i gets one of them exactly if fewer members come before him than there are yen left
  abbrev pub gets_yen : ℕ → Bool
  gets_yen i = ltb (how_many_before n remainder_of i) left

  -- a member's share; where nobody has a weight nobody gets anything
  unfoldable pub share_of : ℕ → ℕ
  share_of i = cond (eqb (total n weight) 0) 0 (floor_of i + one_if (gets_yen i))

-- member i's figure in a list, members counted from 0; 0 past its end
abbrev pub of_member : List ℕ → ℕ → ℕ
of_member l i = get_or l i 0

-- the sum of a list of weights
abbrev pub sum_of : List ℕ → ℕ
sum_of weights = total (length weights) (of_member weights)

-- every member's floor, where somebody has a weight
abbrev pub floors : ℕ → List ℕ → List ℤ
floors amount weights = listed (length weights) (λ i. pos (floor_of (length weights) (of_member weights) amount i))

-- every member's share
abbrev pub shares : ℕ → List ℕ → List ℤ
shares amount weights = listed (length weights) (λ i. pos (share_of (length weights) (of_member weights) amount i))

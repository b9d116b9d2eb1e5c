-- The whole numbers of document 01: ranges, the lesser and the greater, the parts above and below 0, and the two ways of rounding. What a reader believes.
use Rattle.std.specs.Prelude.{Bool, true, false, cond, ◌&&◌, ℕ, suc, ◌+◌, ◌-◌, ◌/◌, leb, ltb, ℤ, pos, negsuc, neg_ℤ, nat_abs}
use Rattle.std.specs.Int.Signed.{le_z}

-- |z| ≤ b
abbrev pub within : ℕ → ℤ → Bool
within b z = leb (nat_abs z) b

-- lo ≤ z ≤ hi
abbrev pub between : ℤ → ℤ → ℤ → Bool
between lo hi z = le_z lo z && le_z z hi

-- z is k
abbrev pub is : ℕ → ℤ → Bool
is k z = between (pos k) (pos k) z

-- 0 ≤ z < n: z is the number of one of n things, counted from 0
abbrev pub is_one_of : ℕ → ℤ → Bool
is_one_of n z = le_z (pos 0) z && ltb (nat_abs z) n

-- the answer o, unless the test fails: then the refusal
abbrev pub unless : {A : Type 0} → Bool → A → A → A
unless true refusal o = o
unless false refusal o = refusal

-- the lesser and the greater of two
unfoldable pub min_z : ℤ → ℤ → ℤ
min_z a b = cond (le_z a b) a b

unfoldable pub max_z : ℤ → ℤ → ℤ
max_z a b = cond (le_z a b) b a

-- the part of z above 0, and the part below it: one of the two is 0
abbrev pub pp : ℤ → ℕ
pp (pos n) = n
pp (negsuc n) = 0

abbrev pub nn : ℤ → ℕ
nn (pos n) = 0
nn (negsuc n) = suc n

-- how far z is below 0
unfoldable pub takes_away : ℤ → ℤ
takes_away z = max_z (pos 0) (neg_ℤ z)

-- z / k rounded down, toward minus infinity: -(a + 1) by k is -(a / k + 1)
unfoldable pub floor_div : ℤ → ℕ → ℤ
floor_div (pos a) k = pos (a / k)
floor_div (negsuc a) k = negsuc (a / k)

-- a / k rounded up
abbrev pub ceil_div : ℕ → ℕ → ℕ
ceil_div a k = (a + (k - 1)) / k

-- The numbers 0 .. n - 1 (accounts, products, dues, members count from 0): tests, sums, counts, a search and a list over them. What a
-- reader believes; the laws are in `CountingLaws`.
use Rattle.std.specs.Prelude.{Bool, true, cond, ◌&&◌, List, [], ◌∷◌, ◌++◌, ℕ, zero, suc, ◌+◌, ℤ, pos, ◌+ℤ◌, get_or}

-- f holds of each number below n
abbrev pub all : ℕ → (ℕ → Bool) → Bool
all zero f = true
all (suc i) f = all i f && f i

-- f 0 + .. + f (n - 1), of whole numbers and of naturals
abbrev pub sum : ℕ → (ℕ → ℤ) → ℤ
sum zero f = pos 0
sum (suc i) f = sum i f +ℤ f i

abbrev pub total : ℕ → (ℕ → ℕ) → ℕ
total zero f = 0
total (suc i) f = total i f + f i

abbrev pub one_if : Bool → ℕ
one_if t = cond t 1 0

-- how many numbers below n pass the test f
abbrev pub how_many : ℕ → (ℕ → Bool) → ℕ
how_many n f = total n (λ i. one_if (f i))

-- the lowest number below n of which f holds, or n
abbrev pub least : ℕ → (ℕ → Bool) → ℕ
least zero f = 0
least (suc n) f = cond (f 0) 0 (suc (least n (λ k. f (suc k))))

-- the figure i of a list, counted from 0; 0 past its end
abbrev pub figure_at : List ℤ → ℕ → ℤ
figure_at figures i = get_or figures i (pos 0)

-- the list f 0, f 1, .. f (n - 1)
unfoldable pub listed : {A : Type 0} → ℕ → (ℕ → A) → List A
listed zero f = []
listed (suc n) f = listed n f ++ (f n ∷ [])

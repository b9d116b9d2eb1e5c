-- What stands under the root, the spread of a window, is never below 0, whatever the figures; and it is the schoolbook's standard deviation. Assumes nothing.
use Rattle.std.specs.Prelude.{◌≡◌, List, ℕ, zero, suc, ◌*◌, ℤ, pos, negsuc, ◌+ℤ◌, ◌-ℤ◌, ◌*ℤ◌, length, ◌≤ℤ◌}
use Rattle.std.proofs.Common.{sym, ap, subst, ◌∙◌}
use Rattle.whole.specs.Counting.{sum, figure_at}
use Rattle.whole.specs.CountingLaws.{sum_same}
use Rattle.whole.specs.Reps.{leaf}
use Rattle.whole.specs.Whole.{whole, facts, by}
use Rattle.rates.specs.MarginRate.{sum_of, squares_of, spread_of}

-- a square is not below 0
pub square_not-below : (x : ℤ) → pos 0 ≤ℤ (x *ℤ x)
square_not-below (pos n) = by (search whole depth 20) (omega facts)
square_not-below (negsuc n) = by (search whole depth 20) (omega facts)

-- a sum of two numbers that are not below 0
both-not-below : (a b : ℤ) → pos 0 ≤ℤ a → pos 0 ≤ℤ b → pos 0 ≤ℤ (a +ℤ b)
both-not-below a b h i = let k = leaf a in let l = leaf b in by (search whole depth 20) (omega facts)

-- Σ(f i - x)², multiplied out
abbrev away : ℕ → (ℕ → ℤ) → ℤ → ℤ
away n f x = sum n (λ i. f i *ℤ f i) -ℤ (x +ℤ x) *ℤ sum n f +ℤ pos n *ℤ (x *ℤ x)

away-more : (n : ℕ) (a b x y : ℤ)
    → (a +ℤ y *ℤ y) -ℤ (x +ℤ x) *ℤ (b +ℤ y) +ℤ pos (suc n) *ℤ (x *ℤ x)
    ≡ (a -ℤ (x +ℤ x) *ℤ b +ℤ pos n *ℤ (x *ℤ x)) +ℤ (y -ℤ x) *ℤ (y -ℤ x)
away-more n a b x y = let k = leaf a in let l = leaf b in let m = leaf x in let o = leaf y in by (search whole depth 20) (omega facts)

away-not-below : (n : ℕ) (f : ℕ → ℤ) (x : ℤ) → pos 0 ≤ℤ away n f x
away-not-below zero f x = let m = leaf x in by (search whole depth 20) (omega facts)
away-not-below (suc n) f x =
    subst (λ z. pos 0 ≤ℤ z) (sym (away-more n (sum n (λ i. f i *ℤ f i)) (sum n f) x (f n)))
    (both-not-below (away n f x) ((f n -ℤ x) *ℤ (f n -ℤ x)) (away-not-below n f x) (square_not-below (f n -ℤ x)))

-- n × Σf² - (Σf)² grows by Σ(f i - f n)² with the next number
spread_more : (n : ℕ) (a b y : ℤ)
    → pos (suc n) *ℤ (a +ℤ y *ℤ y) -ℤ (b +ℤ y) *ℤ (b +ℤ y) ≡ (pos n *ℤ a -ℤ b *ℤ b) +ℤ (a -ℤ (y +ℤ y) *ℤ b +ℤ pos n *ℤ (y *ℤ y))
spread_more n a b y = let k = leaf a in let l = leaf b in let o = leaf y in by (search whole depth 20) (omega facts)

not-below : (n : ℕ) (f : ℕ → ℤ) → pos 0 ≤ℤ (pos n *ℤ sum n (λ i. f i *ℤ f i) -ℤ sum n f *ℤ sum n f)
not-below zero f = by (search whole depth 20) (omega facts)
not-below (suc n) f =
    subst (λ z. pos 0 ≤ℤ z) (sym (spread_more n (sum n (λ i. f i *ℤ f i)) (sum n f) (f n)))
    (both-not-below (pos n *ℤ sum n (λ i. f i *ℤ f i) -ℤ sum n f *ℤ sum n f) (away n f (f n)) (not-below n f) (away-not-below n f (f n)))

-- ---- of a window

pub spread_not-below : (window : List ℤ) → pos 0 ≤ℤ spread_of window
unfolding spread_of sum_of squares_of
spread_not-below window = not-below (length window) (figure_at window)

-- ---- the schoolbook's standard deviation: with the mean x̄ = Σx / m, m × (m - 1) × s² is m × Σ(x - x̄)², and m times that is Σ(m × x - Σx)²

away-is : (n : ℕ) (f : ℕ → ℤ) (x : ℤ) → sum n (λ i. (f i -ℤ x) *ℤ (f i -ℤ x)) ≡ away n f x
away-is zero f x = let m = leaf x in by (search whole depth 20) (omega facts)
away-is (suc n) f x = ap (λ z. z +ℤ (f n -ℤ x) *ℤ (f n -ℤ x)) (away-is n f x) ∙ sym (away-more n (sum n (λ i. f i *ℤ f i)) (sum n f) x (f n))

-- a factor of every number is one of their sum, and its square one of their squares'
sum_times : (n m : ℕ) (f : ℕ → ℤ) → sum n (λ i. pos m *ℤ f i) ≡ pos m *ℤ sum n f
sum_times zero m f = by (search whole depth 20) (omega facts)
sum_times (suc n) m f = ap (λ z. z +ℤ pos m *ℤ f n) (sum_times n m f) ∙ more (sum n f) (f n)
  where
    more : (a y : ℤ) → pos m *ℤ a +ℤ pos m *ℤ y ≡ pos m *ℤ (a +ℤ y)
    more a y = let k = leaf a in let l = leaf y in by (search whole depth 20) (omega facts)

squares_times : (n m : ℕ) (f : ℕ → ℤ) → sum n (λ i. (pos m *ℤ f i) *ℤ (pos m *ℤ f i)) ≡ pos (m * m) *ℤ sum n (λ i. f i *ℤ f i)
squares_times n m f = sum_same n _ _ (λ i b. square (f i)) ∙ sum_times n (m * m) (λ i. f i *ℤ f i)
  where
    square : (y : ℤ) → (pos m *ℤ y) *ℤ (pos m *ℤ y) ≡ pos (m * m) *ℤ (y *ℤ y)
    square y = let l = leaf y in by (search whole depth 20) (omega facts)

gathered : (m : ℕ) (a b : ℤ) → pos (m * m) *ℤ a -ℤ (b +ℤ b) *ℤ (pos m *ℤ b) +ℤ pos m *ℤ (b *ℤ b) ≡ pos m *ℤ ((pos m *ℤ a) -ℤ (b *ℤ b))
gathered m a b = let k = leaf a in let l = leaf b in by (search whole depth 20) (omega facts)

pub as_at_school : (window : List ℤ) → let m = pos (length window) in
    m *ℤ spread_of window ≡ sum (length window) (λ i. (m *ℤ figure_at window i -ℤ sum_of window) *ℤ (m *ℤ figure_at window i -ℤ sum_of window))
unfolding spread_of sum_of squares_of
as_at_school window =
    let n = length window in let f = figure_at window in let b = sum n f in
    sym
    (away-is n (λ i. pos n *ℤ f i) b
    ∙ (λ k. squares_times n n f k -ℤ (b +ℤ b) *ℤ sum_times n n f k +ℤ pos n *ℤ (b *ℤ b))
    ∙ gathered n (sum n (λ i. f i *ℤ f i)) b)

-- The rate of a window by a root: r is enough exactly where r² is not below a whole number, the least square. The code finds the rate so. Assumes nothing.
use Rattle.std.specs.Prelude.{◌≡◌, refl, true, false, ◌&&◌, List, ℕ, zero, suc, ◌+◌, ◌*◌, ◌-◌, ◌/◌, ◌≤◌, ◌<◌, max, ℤ, pos, negsuc, nat_abs, ◌-ℤ◌, ◌*ℤ◌, length, ◌≤ℤ◌}
use Rattle.std.proofs.Common.{sym, ap, ◌∙◌, ⊎_elim, le_trans, mul-le-mul, div-lt_iff_lt-mul, arith}
use Rattle.std.proofs.Math.Nat.{le-max_left, max-le}
use Rattle.std.proofs.Math.Dec.{leb}
use Rattle.std.specs.Int.Signed.{le_z}
use borrow.Author.Tests.{leb-true, leb-false, le-leb, lt-leb}
use Rattle.whole.specs.Number.{pp, nn, ceil_div}
use Rattle.whole.specs.Counting.{least}
use Rattle.whole.specs.CountingLaws.{least-is, least_at, least-found}
use Rattle.whole.specs.Reps.{leaf}
use Rattle.whole.specs.Signs.{abs_is, pn_mul, le-zero, is_true}
use Rattle.whole.specs.Tests.{both, true_or_false}
use Rattle.whole.specs.Whole.{whole, known, facts, by, told}
use Rattle.rules.specs.Sizes.{most_rate}
use Rattle.rates.specs.MarginRate.{most_count, sum_of, squares_of, spread_of, enough, window_rate}
use Rattle.rates.specs.SpreadLaws.{square_not-below, spread_not-below}
use Rattle.rates.specs.SumsLaws.{Accepted, squares-of}

-- ---- the spread is a natural number, at most m × squares

-- what is not below 0 is its size, and is not made larger by what is taken from it
natural-of : (z : ℤ) → pos 0 ≤ℤ z → z ≡ pos (nat_abs z)
natural-of (pos n) h = refl
natural-of (negsuc n) h = absurd (omega (arith, le-zero (negsuc n) h))

less-taken : (x c : ℤ) → pos 0 ≤ℤ c → pos 0 ≤ℤ (x -ℤ c) → nat_abs (x -ℤ c) ≤ nat_abs x
less-taken x c h i =
    let k = leaf x in let l = leaf c in let j = is_true (le_z (pos 0) (x -ℤ c)) i.le in
    by (search whole depth 20) (omega (facts, told j (search known depth 20) (omega facts)))

abs_most : (z : ℤ) (p n : ℕ) → pp z + n ≡ nn z + p → nat_abs z ≤ p + n
abs_most (pos k) p n e = omega (arith, e)
abs_most (negsuc k) p n e = omega (arith, e)

times_most : (m b : ℕ) (a : ℤ) → nat_abs a ≤ b → nat_abs (pos m *ℤ a) ≤ m * b
times_most m b a h =
    let i : m ≤ m = omega arith in
    let e : nat_abs a ≡ pp a + nn a = abs_is a in
    let j : pp a + nn a ≤ b = omega arith in
    omega (arith, abs_most (pos m *ℤ a) (m * pp a) (m * nn a) (omega (arith, pn_mul (pos m) a)), mul-le-mul i j)

spread_natural : (window : List ℤ) → spread_of window ≡ pos (nat_abs (spread_of window))
spread_natural window = natural-of (spread_of window) (spread_not-below window)

spread_most : (window : List ℤ) → Accepted window → nat_abs (spread_of window) ≤ length window * (length window * 400000000)
unfolding spread_of
spread_most window a =
    le_trans
    (less-taken (pos (length window) *ℤ squares_of window) (sum_of window *ℤ sum_of window) (square_not-below (sum_of window)) (spread_not-below window))
    (times_most (length window) (length window * 400000000) (squares_of window) (squares-of window a))

-- 520 × 520 × 20,000²
abbrev pub most_spread : ℕ
most_spread = 108160000000000

pub spread_in : (window : List ℤ) → Accepted window → nat_abs (spread_of window) ≤ most_spread
spread_in window a = let h = a.few in omega (arith, spread_most window a, mul-le-mul h h)

-- ---- a quotient rounded up

pub ceil_most : (a k q : ℕ) → 0 < k → a ≤ q * k → ceil_div a k ≤ q
ceil_most a k q h i = let l : (a + (k - 1)) / k < q + 1 = (div-lt_iff_lt-mul h).1 (omega arith) in omega arith

pub ceil_covers : (a k q : ℕ) → 0 < k → ceil_div a k ≤ q → a ≤ q * k
ceil_covers a k q h i = let l : a + (k - 1) < (q + 1) * k = (div-lt_iff_lt-mul h).0 (omega arith) in omega arith

-- ---- the least square

-- 233² × spread / (10^6 × m × (m - 1)) rounded up, and at least 1
abbrev pub least_square : ℕ → ℕ → ℕ
least_square m spread = max 1 (ceil_div (233 * 233 * spread) (1000000 * (m * (m - 1))))

unfoldable pub square_of : List ℤ → ℕ
square_of window = least_square (length window) (nat_abs (spread_of window))

-- what it is divided by, of m and k = m - 1
pub base-some : (m k : ℕ) → 1 ≤ m → 1 ≤ k → 0 < 1000000 * (m * k)
base-some m k h i = omega (arith, mul-le-mul h i)

pub base-most : (m k : ℕ) → m ≤ most_count → k ≤ most_count → 1000000 * (m * k) ≤ 270400000000
base-most m k h i = omega (arith, mul-le-mul h i)

-- at most 43,431,200: m is at most twice m - 1
square_in : (m s : ℕ) → 2 ≤ m → s ≤ m * (m * 400000000) → 233 * 233 * s ≤ 43431200 * (1000000 * (m * (m - 1)))
square_in m s h i = let j : m ≤ m = omega arith in let k : m ≤ 2 * (m - 1) = omega arith in omega (arith, mul-le-mul j k)

base-of : (window : List ℤ) → Accepted window → 0 < 1000000 * (length window * (length window - 1))
base-of window a = let h = a.two in base-some (length window) (length window - 1) (omega arith) (omega arith)

pub square_of-most : (window : List ℤ) → Accepted window → square_of window ≤ 43431200
unfolding square_of
square_of-most window a =
    let m = length window in let s = nat_abs (spread_of window) in
    max-le (omega arith) (ceil_most (233 * 233 * s) (1000000 * (m * (m - 1))) 43431200 (base-of window a) (square_in m s a.two (spread_most window a)))

pub square_of-some : (window : List ℤ) → 1 ≤ square_of window
unfolding square_of
square_of-some window = le-max_left 1 (ceil_div (233 * 233 * nat_abs (spread_of window)) (1000000 * (length window * (length window - 1))))

pub root_some : (r : ℕ) → 1 ≤ r * r → 1 ≤ r
root_some zero h = absurd (omega arith)
root_some (suc r) h = omega arith

-- ---- the root of a square: the least number, up to 6,591, whose square is not below it

unfoldable pub root_of : ℕ → ℕ
root_of q = least 6592 (λ r. leb q (r * r))

-- it is the one whose square is not below q while the square of one less is
pub root_is : (q r : ℕ) → r ≤ 6591 → q ≤ r * r → (r - 1) * (r - 1) < q → r ≡ root_of q
unfolding root_of
root_is q r h i l = sym (least-is 6592 (λ k. leb q (k * k)) r (omega arith) below (λ _. le-leb q (r * r) i))
  where
    below : (k : ℕ) → k < r → leb q (k * k) ≡ false
    below k b = let m : k ≤ r - 1 = omega arith in lt-leb q (k * k) (omega (arith, mul-le-mul m m))

module _ (q : ℕ) (some : 1 ≤ q) (in_reach : q ≤ 6591 * 6591) where
  pub root_most : root_of q ≤ 6591
  unfolding root_of
  root_most = least_at 6592 (λ r. leb q (r * r)) 6591 (omega arith) (le-leb q (6591 * 6591) in_reach)

  root_reached : root_of q < 6592
  root_reached = omega (arith, root_most)

  pub root_covers : q ≤ root_of q * root_of q
  unfolding root_of
  root_covers = leb-true q _ (least-found 6592 (λ r. leb q (r * r)) root_reached)

  pub root_one : 1 ≤ root_of q
  root_one = root_some (root_of q) (omega (arith, root_covers))

  root_before : (k : ℕ) → k < 6592 → leb q (k * k) ≡ true → root_of q ≤ k
  unfolding root_of
  root_before k b e = least_at 6592 (λ r. leb q (r * r)) k b e

  pub root_least : (root_of q - 1) * (root_of q - 1) < q
  root_least =
      ⊎_elim
      (λ e. absurd (omega (arith, root_one, root_before (root_of q - 1) (omega (arith, root_most)) e)))
      (λ e. leb-false q ((root_of q - 1) * (root_of q - 1)) e)
      (true_or_false (leb q ((root_of q - 1) * (root_of q - 1))))

-- r is enough exactly where 233² × spread is not above r² × 10^6 × m × (m - 1), in natural numbers
enough-natural : (window : List ℤ) (r : ℕ) → let m = length window in enough window r ≡ leb (233 * 233 * nat_abs (spread_of window)) (r * r * 1000000 * (m * (m - 1)))
unfolding enough
enough-natural window r = let m = length window in ap (λ z. le_z (pos (233 * 233) *ℤ z) (pos (r * r * 1000000 * (m * (m - 1))))) (spread_natural window)

times_base : (q k : ℕ) → q * (1000000 * k) ≡ q * 1000000 * k
times_base q k = omega arith

-- and so, if it is at least 1, where its square is not below the least square
same_test : (a k q : ℕ) → 0 < k → 1 ≤ q → leb a (q * k) ≡ leb (max 1 (ceil_div a k)) q
same_test a k q h i = ⊎_elim
    (λ e. e ∙ sym (le-leb (max 1 (ceil_div a k)) q (max-le i (ceil_most a k q h (leb-true a (q * k) e)))))
    (λ e. e ∙ sym (lt-leb (max 1 (ceil_div a k)) q (above e)))
    (true_or_false (leb a (q * k)))
  where
    above : leb a (q * k) ≡ false → q < max 1 (ceil_div a k)
    above e =
        ⊎_elim
        (λ l. absurd (omega (arith, leb-false a (q * k) e, ceil_covers a k q h (leb-true (ceil_div a k) q l))))
        (λ l. omega (arith, leb-false (ceil_div a k) q l))
        (true_or_false (leb (ceil_div a k) q))

pub enough-is : (window : List ℤ) → Accepted window → (r : ℕ) → 1 ≤ r → enough window r ≡ leb (square_of window) (r * r)
unfolding square_of
enough-is window a r h =
    let m = length window in let s = nat_abs (spread_of window) in
    enough-natural window r
    ∙ ap (leb (233 * 233 * s)) (sym (times_base (r * r) (m * (m - 1))))
    ∙ same_test (233 * 233 * s) (1000000 * (m * (m - 1))) (r * r) (base-of window a) (omega (arith, mul-le-mul h h))

-- ---- the rate, by the least square

module _ (window : List ℤ) (a : Accepted window) where
  -- r, at least 1, is at or above the rate where its square is not below the least square
  pub rate_at-most : (r : ℕ) → 1 ≤ r → r ≤ most_rate → square_of window ≤ r * r → window_rate window ≤ r
  unfolding window_rate
  rate_at-most r h i l =
      least_at (most_rate + 1) (λ k. leb 1 k && enough window k) r (omega arith)
      (rw (le-leb 1 r h) (enough-is window a r h ∙ le-leb (square_of window) (r * r) l))

  pub rate_most : window_rate window ≤ 6591
  rate_most = rate_at-most 6591 (omega arith) (omega arith) (omega (arith, square_of-most window a))

  in_reach : window_rate window < most_rate + 1
  in_reach = omega (arith, rate_most)

  found : (leb 1 (window_rate window) && enough window (window_rate window)) ≡ true
  unfolding window_rate
  found = least-found (most_rate + 1) (λ k. leb 1 k && enough window k) in_reach

  pub rate_some : 1 ≤ window_rate window
  rate_some = leb-true 1 (window_rate window) (both (leb 1 (window_rate window)) (enough window (window_rate window)) found).0

  pub rate_enough : enough window (window_rate window) ≡ true
  rate_enough = (both (leb 1 (window_rate window)) (enough window (window_rate window)) found).1

  rate_covers : square_of window ≤ window_rate window * window_rate window
  rate_covers = leb-true (square_of window) (window_rate window * window_rate window) (sym (enough-is window a (window_rate window) rate_some) ∙ rate_enough)

  -- and below it where its square is below the least square
  pub rate_above : (r : ℕ) → r * r < square_of window → r < window_rate window
  rate_above r h =
      ⊎_elim
      (λ e. let l = leb-true (window_rate window) r e in absurd (omega (arith, rate_covers, mul-le-mul l l)))
      (λ e. leb-false (window_rate window) r e)
      (true_or_false (leb (window_rate window) r))

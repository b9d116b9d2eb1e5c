-- How a root is found: a number from 2^24 up to below 2^26 by a line near its root and one step of Heron's, any smaller one by moving it up there and its root
-- back. Words for contracts behind the call. Assumes nothing.
use Rattle.std.specs.Prelude.{◌≡◌, ℕ, suc, ◌+◌, ◌*◌, ◌-◌, ◌/◌, ◌%◌, ◌^◌, ◌≤◌, ◌<◌, leb}
use Rattle.std.proofs.Common.{subst, ap, ◌∙◌, ⊎_elim, mul-le-mul, le_trans, le_of_eq, one-mul, mod-eq_of_lt, div-mul-le_self, div-lt_iff_lt-mul, arith, pow-add, pow_mono, shl_lt, shl_exact, leb-true, leb-false}
use Rattle.std.specs.Int.Count.{count_leading_zeros}
use Rattle.std.proofs.lemmas.Nat.{leading_top}
use Rattle.whole.specs.Number.{ceil_div}
use Rattle.whole.specs.Tests.{true_or_false}
use Rattle.rates.specs.RateLaws.{ceil_most, ceil_covers, root_of, root_is}

-- r is the root of s: its square is not below s, that of one less is
pub record Root (s r : ℕ) : Type 0 where
  pub covers : s ≤ r * r
  pub less : (r - 1) * (r - 1) < s

-- 4^k times q lies from 2^24 up to below 2^26
pub record Moved (q k : ℕ) : Type 0 where
  pub few : k ≤ 12
  pub from : 16777216 ≤ q * 2 ^ (2 * k)
  pub below : q * 2 ^ (2 * k) < 67108864

-- x is less than 64 from the root of s, which is a large one
pub record Near (s x : ℕ) : Type 0 where
  pub large : 4032 ≤ x
  pub most : x ≤ 8300
  pub below : (x - 64) * (x - 64) < s
  pub above : s < (x + 64) * (x + 64)

either : (a b : ℕ) {P : Type 0} → (a ≤ b → P) → (b < a → P) → P
either a b f g = ⊎_elim (λ e. f (leb-true a b e)) (λ e. g (leb-false a b e)) (true_or_false (leb a b))

-- ---- as many times up as the binary digits of q ask for

module _ (q : ℕ) (some : 1 ≤ q) (few : q < 67108864) where
  digits : (j : ℕ) × (count_leading_zeros 32 q + suc j ≡ 32) × (2 ^ j ≤ q) × (q < 2 ^ suc j)
  digits = leading_top 32 q some (omega arith)

  at_most : digits.0 ≤ 25
  at_most = either digits.0 25 (λ h. h) (λ h. let i : 2 ^ 26 ≤ 2 ^ digits.0 = pow_mono h in absurd (omega (arith, digits.2)))

  pub six_zeros : 6 ≤ count_leading_zeros 32 q
  six_zeros = omega (arith, digits.1, at_most)

  pub moved_up : Moved q ((count_leading_zeros 32 q - 6) / 2)
  moved_up = at digits.0 digits.1 at_most digits.2 digits.3
    where
      at : (j : ℕ) → count_leading_zeros 32 q + suc j ≡ 32 → j ≤ 25 → 2 ^ j ≤ q → q < 2 ^ suc j → Moved q ((count_leading_zeros 32 q - 6) / 2)
      at j e low l m =
          let k = (count_leading_zeros 32 q - 6) / 2 in
          let same : 2 ^ (2 * k) ≤ 2 ^ (2 * k) = omega arith in
          let first : 24 ≤ j + 2 * k = omega arith in
          let last : suc j + 2 * k ≤ 26 = omega arith in
          record {
            few = omega arith;
            from = le_trans (pow_mono first) (le_trans (le_of_eq (pow-add 2 j (2 * k))) (mul-le-mul l same));
            below = le_trans (shl_lt (suc j) (2 * k) m) (pow_mono last);
          }

-- ---- two lines near the root

-- twice a product is not above the two squares
two_squares : (a b : ℕ) → 2 * (a * b) ≤ a * a + b * b
two_squares a b = either a b
    (λ h. let e : a + (b - a) ≡ b = omega arith in subst (λ z. 2 * (a * z) ≤ a * a + z * z) e (omega arith))
    (λ h. let e : b + (a - b) ≡ a = omega arith in subst (λ z. 2 * (z * b) ≤ z * z + b * b) e (omega arith))

-- the line of either half, of m = s / 4096: 106 m / 256 is 1,600 + u, 75 m / 256 is 2,350 + u, each rounded down. What it gives is above
-- the root by less than 64, since u² is at most so many u, and below it by less than 64, since a square is not below 0.
span : (u most : ℕ) → u ≤ most → u * u ≤ u * most
span u most h = let i : u ≤ u = omega arith in mul-le-mul i h

lower-near : (s m u : ℕ) → 4096 * m ≤ s → s ≤ 4096 * m + 4095 → 4096 ≤ m → m < 8192
    → 256 * (1600 + u) ≤ 106 * m → 106 * m ≤ 256 * (1600 + u) + 255 → Near s (2436 + (1600 + u))
lower-near s m u a b c d e f =
    let i : u ≤ 1900 = omega arith in let k : 2436 + (1600 + u) - 64 ≡ 3972 + u = omega arith in
    record {
      large = omega arith;
      most = omega arith;
      below = rw k (omega (arith, span u 1900 i));
      above = omega (arith, two_squares (1600 + u) 2446);
    }

upper_near : (s m u : ℕ) → 4096 * m ≤ s → s ≤ 4096 * m + 4095 → 8192 ≤ m → m < 16384
    → 256 * (2350 + u) ≤ 75 * m → 75 * m ≤ 256 * (2350 + u) + 255 → Near s (3445 + (2350 + u))
upper_near s m u a b c d e f =
    let i : u ≤ 2500 = omega arith in let k : 3445 + (2350 + u) - 64 ≡ 5731 + u = omega arith in
    record {
      large = omega arith;
      most = omega arith;
      below = rw k (omega (arith, span u 2500 i));
      above = omega (arith, two_squares (2350 + u) 3481);
    }

-- the two lines, of s / 4096
pub near-below : (s : ℕ) → 16777216 ≤ s → s / 4096 < 8192 → Near s (2436 + 106 * (s / 4096) / 256)
near-below s h i =
    let t = 106 * (s / 4096) / 256 in let e : 1600 + (t - 1600) ≡ t = omega arith in
    subst (λ z. Near s (2436 + z)) e
    (lower-near s (s / 4096) (t - 1600) (omega arith) (omega arith) (omega arith) i (omega arith) (omega arith))

pub near-above : (s : ℕ) → s < 67108864 → 8192 ≤ s / 4096 → Near s (3445 + 75 * (s / 4096) / 256)
near-above s h i =
    let t = 75 * (s / 4096) / 256 in let e : 2350 + (t - 2350) ≡ t = omega arith in
    subst (λ z. Near s (3445 + z)) e
    (upper_near s (s / 4096) (t - 2350) (omega arith) (omega arith) i (omega arith) (omega arith) (omega arith))

-- ---- one step of Heron's from there

-- h is the root of s or one less
pub record Step (s h : ℕ) : Type 0 where
  pub before : (h - 1) * (h - 1) < s
  pub after : s < (h + 1) * (h + 1)
  pub small : h ≤ 8364

step_up : (a b d : ℕ) → b ≤ a + 2 * d → a * b ≤ (a + d) * (a + d)
step_up a b d h = let i : a ≤ a = omega arith in omega (arith, mul-le-mul i h)

-- a product is not above the square of half the sum
half_squared : (a b h : ℕ) → a + b ≤ 2 * h → a * b ≤ h * h
half_squared a b h i = either a h
    (λ j. let e : a + (h - a) ≡ h = omega arith in subst (λ z. a * b ≤ z * z) e (step_up a b (h - a) (omega arith)))
    (λ j. let e : b + (h - b) ≡ h = omega arith in subst (λ z. a * b ≤ z * z) e (omega (arith, step_up b a (h - b) (omega arith))))

-- y as s / x: if half of x + y were above a number whose square covers s, x would be farther from the root than it is
module _ (s x y k : ℕ) (n : Near s x) (a : x * y ≤ s) (b : 2 * k + 2 ≤ x + y) (c : s ≤ k * k) where
  far_above : x + 64 ≤ k → ⊥
  far_above h =
      let i : x ≤ x = omega arith in let j : x + 130 ≤ y = omega arith in
      omega (arith, n.large, n.above, mul-le-mul i j)

  just_above : (e : ℕ) → k ≡ x + e → e ≤ 63 → ⊥
  just_above e q h =
      let i : x ≤ x = omega arith in let j : x + 2 * e + 2 ≤ y = omega arith in
      let c' : s ≤ (x + e) * (x + e) = subst (λ z. s ≤ z * z) q c in
      omega (arith, n.large, mul-le-mul i j, mul-le-mul h h)

  just_below : (d : ℕ) → x ≡ k + d → d ≤ 63 → ⊥
  just_below d q h =
      let i : k + d ≤ k + d = omega arith in let j : k + 2 ≤ y + d = omega arith in
      let a' : (k + d) * y ≤ s = subst (λ z. z * y ≤ s) q a in
      omega (arith, n.large, mul-le-mul i j, mul-le-mul h h)

  far_below : k + 64 ≤ x → ⊥
  far_below h = let i : k ≤ x - 64 = omega arith in omega (arith, n.below, mul-le-mul i i)

  too_far : ⊥
  too_far = either x k
      (λ h. either (x + 64) k far_above (λ l. just_above (k - x) (omega arith) (omega arith)))
      (λ h. either (k + 64) x far_below (λ l. just_below (x - k) (omega arith) (omega arith)))

-- the step gives the root or one less
module _ (s x y h : ℕ) (n : Near s x) (a : x * y ≤ s) (b : s < x * (y + 1)) (c : 2 * h ≤ x + y) (d : x + y ≤ 2 * h + 1) where
  one-more-covers : s < (h + 1) * (h + 1)
  one-more-covers = omega (arith, half_squared x (y + 1) (h + 1) (omega arith))

  not_above : (h - 1) * (h - 1) < s
  not_above = either s ((h - 1) * (h - 1)) (λ i. absurd (too_far s x y (h - 1) n a (omega (arith, n.large)) i)) (λ i. i)

  step_small : h ≤ 8364
  step_small =
      either h 8364 (λ i. i)
      (λ i. let j : 8364 ≤ h - 1 = omega arith in let k = n.most in let l : x + 64 ≤ 8364 = omega arith in
      absurd (omega (arith, not_above, n.above, mul-le-mul j j, mul-le-mul l l)))

  stepped : Step s h
  stepped = record { before = not_above; after = one-more-covers; small = step_small }

pub heron : (s x : ℕ) → Near s x → Step s ((x + s / x) / 2)
heron s x n =
    let p : 0 < x = omega (arith, n.large) in
    let q : s / x < s / x + 1 = omega arith in
    let a : s < (s / x + 1) * x = (div-lt_iff_lt-mul p).0 q in
    stepped s x (s / x) ((x + s / x) / 2) n (omega (arith, div-mul-le_self s x)) (omega arith) (omega arith) (omega arith)

-- ---- moved up by w² and back by w

moved_back : (q w r : ℕ) → 1 ≤ w → Root (q * (w * w)) r → Root q (ceil_div r w)
moved_back q w r h m = at (ceil_div r w) (ceil_covers r w (ceil_div r w) (omega arith) (omega arith)) not-less
  where
    square : 1 * 1 ≤ w * w
    square = mul-le-mul h h

    some : 1 ≤ r
    some = either 1 r (λ i. i) (λ i. let j : r ≤ 0 = omega arith in absurd (omega (arith, m.covers, m.less, mul-le-mul j j)))

    some_back : 1 ≤ ceil_div r w
    some_back =
        either 1 (ceil_div r w) (λ i. i)
        (λ i. let j : ceil_div r w ≤ 0 = omega arith in absurd (omega (arith, some, ceil_covers r w 0 (omega arith) j)))

    not-less : (ceil_div r w - 1) * w < r
    not-less =
        either r ((ceil_div r w - 1) * w)
        (λ i. absurd (omega (arith, some_back, ceil_most r w (ceil_div r w - 1) (omega arith) i)))
        (λ i. i)

    at : (c : ℕ) → r ≤ c * w → (c - 1) * w < r → Root q c
    at c e f =
        record {
          covers =
              either q (c * c) (λ i. i)
              (λ i. let j : c * c + 1 ≤ q = omega arith in let k : w * w ≤ w * w = omega arith in
              absurd (omega (arith, square, m.covers, mul-le-mul e e, mul-le-mul j k)));
          less =
              either q ((c - 1) * (c - 1))
              (λ i. let j : (c - 1) * w ≤ r - 1 = omega arith in let k : w * w ≤ w * w = omega arith in
              absurd (omega (arith, m.less, mul-le-mul j j, mul-le-mul i k)))
              (λ i. i);
        }

-- as the code moves, by binary digits in a word of 32
pub times_is : (k : ℕ) → k ≤ 12 → (1 * 2 ^ k) % 4294967296 ≡ 2 ^ k
times_is k h = shl_exact 1 k 32 (omega arith) (omega arith) ∙ one-mul (2 ^ k)

pub times_some : (k : ℕ) → 1 ≤ 2 ^ k
times_some k = let h : 0 ≤ k = omega arith in let i : 2 ^ 0 ≤ 2 ^ k = pow_mono h in i

pub times_most : (k : ℕ) → k ≤ 12 → 2 ^ k ≤ 4096
times_most k h = let i : 2 ^ k ≤ 2 ^ 12 = pow_mono h in i

module _ (q k r : ℕ) (in_reach : q ≤ 6591 * 6591) (m : Moved q k) (e : Root ((q * 2 ^ (2 * k)) % 4294967296) r) where
  moved : (q * 2 ^ (2 * k)) % 4294967296 ≡ q * (2 ^ k * 2 ^ k)
  moved =
      let d : 2 * k ≡ k + k = omega arith in
      mod-eq_of_lt (omega (arith, m.below)) ∙ ap (λ z. q * 2 ^ z) d ∙ ap (λ z. q * z) (pow-add 2 k k)

  pub large-most : r ≤ 8192
  large-most =
      either r 8192 (λ h. h)
      (λ h. let i : 8192 ≤ r - 1 = omega arith in
      let l : (q * 2 ^ (2 * k)) % 4294967296 ≡ q * 2 ^ (2 * k) = mod-eq_of_lt (omega (arith, m.below)) in
      absurd (omega (arith, l, m.below, e.less, mul-le-mul i i)))

  back : Root q (ceil_div r (2 ^ k))
  back = moved_back q (2 ^ k) r (times_some k) (subst (λ z. Root z r) moved e)

  root_small : ceil_div r (2 ^ k) ≤ 6591
  root_small =
      either (ceil_div r (2 ^ k)) 6591 (λ h. h)
      (λ h. let i : 6591 ≤ ceil_div r (2 ^ k) - 1 = omega arith in absurd (omega (arith, in_reach, back.less, mul-le-mul i i)))

  pub root_back : ceil_div r (2 ^ k) ≡ root_of q
  root_back = root_is q (ceil_div r (2 ^ k)) root_small back.covers back.less

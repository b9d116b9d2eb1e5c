-- To round down by whole units: what was moved up by some units is divided, and the units are taken off again. Assumes nothing.
use Rattle.std.specs.Prelude.{◌≡◌, ℕ, suc, ◌+◌, ◌-◌, ◌*◌, ◌/◌, ◌%◌, ◌^◌, ◌≤◌, ◌<◌, ℤ, pos, negsuc, nat_abs, ◌+ℤ◌, ◌-ℤ◌}
use Rattle.std.proofs.Common.{arith, ap, sym, ◌∙◌, to_z, of_z, w64}
use Rattle.std.proofs.lemmas.Nat.{div-mul-add, div-add-mod'}
use Rattle.std.proofs.Math.Nat.{mod-lt, add-mul-div_right, div-le_self}
use native.Mathlib.Nat.{lt_of_not-le, mul-le-mul_right, add-mul, suc-mul}
use Rattle.whole.specs.Number.{floor_div}
use Rattle.whole.specs.Reps.{leaf}
use Rattle.whole.specs.Whole.{whole, facts, by}

-- m is a whole number of units u
module _ (m u a : ℕ) (h : 0 < u) (e : m % u ≡ 0) where
  units : m / u * u ≡ m
  units = let d = div-add-mod' m u in omega arith

  pub above : (a + m) / u ≡ a / u + m / u
  above = ap (λ z. (a + z) / u) (sym units) ∙ add-mul-div_right a (m / u) h

  pub fewer : a < m → a / u < m / u
  fewer i = lt_of_not-le (λ k. let l : m / u * u ≤ a / u * u = mul-le-mul_right u k in let d = div-add-mod' a u in let q = units in absurd (omega arith))

  pub below : a < m → (m - suc a) / u + suc (a / u) ≡ m / u
  below i =
      let k = m / u - suc (a / u) in
      let f = fewer i in
      let s : k + suc (a / u) ≡ m / u = omega arith in
      let f1 = add-mul k (suc (a / u)) u in let f2 = suc-mul (a / u) u in let f3 : (k + suc (a / u)) * u ≡ m / u * u = ap (λ z. z * u) s in
      let d = div-add-mod' a u in let r = mod-lt a h in let n = units in
      let p : m - suc a ≡ k * u + (u - suc (a % u)) = omega arith in
      let v = div-mul-add k u (u - suc (a % u)) (omega arith) in
      let w : (m - suc a) / u ≡ k = ap (λ z. z / u) p ∙ v in
      omega arith

-- raw moved up by m, as the code holds it
abbrev lifted : ℤ → ℕ → ℕ
lifted raw m = nat_abs (to_z w64 (of_z w64 (to_z w64 (of_z w64 raw) +ℤ pos m)))

-- the sum fits
sum-is : (raw : ℤ) (m : ℕ) → nat_abs raw ≤ m → m < 2 ^ 62 → to_z w64 (of_z w64 (to_z w64 (of_z w64 raw) +ℤ pos m)) ≡ raw +ℤ pos m
sum-is raw m b s = let l = leaf raw in by (search whole depth 20) (omega facts)

over : (a m : ℕ) → suc a ≤ m → negsuc a +ℤ pos m ≡ pos (m - suc a)
over a m b = by (search whole depth 20) (omega facts)

-- the quotient d, from which that of m is taken off again
lowered : (d m : ℕ) → d < 2 ^ 63 → m < 2 ^ 63 → to_z w64 (of_z w64 (to_z w64 d -ℤ to_z w64 m)) ≡ pos d -ℤ pos m
lowered d m h i = by (search whole depth 20) (omega facts)

past : (d m k : ℕ) → d ≡ k + m → pos d -ℤ pos m ≡ pos k
past d m k e = by (search whole depth 20) (omega facts)

short : (d m k : ℕ) → d + suc k ≡ m → pos d -ℤ pos m ≡ negsuc k
short d m k e = by (search whole depth 20) (omega facts)

-- Of any number m of whole units u: it must be whole, and the units that are taken off must be its own.
moved : (raw : ℤ) (u m : ℕ) → 0 < u → nat_abs raw ≤ m → m < 2 ^ 62 → m % u ≡ 0
    → to_z w64 (of_z w64 (to_z w64 (lifted raw m / u) -ℤ to_z w64 (m / u))) ≡ floor_div raw u
unfolding floor_div
moved (pos a) u m h b s e =
    let l : lifted (pos a) m ≡ a + m = ap nat_abs (sum-is (pos a) m b s) in
    let q = ap (λ z. z / u) l ∙ above m u a h e in
    let d = div-le_self a u in let f = div-le_self m u in
    lowered (lifted (pos a) m / u) (m / u) (omega arith) (omega arith) ∙ past (lifted (pos a) m / u) (m / u) (a / u) q
moved (negsuc a) u m h b s e =
    let l : lifted (negsuc a) m ≡ m - suc a = ap nat_abs (sum-is (negsuc a) m b s ∙ over a m b) in
    let q = ap (λ z. z / u + suc (a / u)) l ∙ below m u a h e (omega arith) in
    let f = div-le_self m u in
    lowered (lifted (negsuc a) m / u) (m / u) (omega arith) (omega arith) ∙ short (lifted (negsuc a) m / u) (m / u) (a / u) q

-- n is what the code takes off again
pub floored : (raw : ℤ) (u m n : ℕ) → 0 < u → nat_abs raw ≤ m → m < 2 ^ 62 → m % u ≡ 0 → n ≡ m
    → to_z w64 (of_z w64 (to_z w64 (lifted raw m / u) -ℤ to_z w64 (n / u))) ≡ floor_div raw u
floored raw u m n h b s e f = rw f (moved raw u m h b s e)

-- What is kept of an amount and a sum so that amount × weight / sum takes one division for each weight. Words for contracts inside this crate: no
-- reader of the shares needs them.
use Rattle.std.specs.Prelude.{◌≡◌, Option, Some, None, cond, ◌&&◌, ℕ, ◌+◌, ◌*◌, ◌/◌, ◌%◌, ◌^◌, ◌≤◌, ◌<◌, leb}
use Rattle.std.proofs.Common.{sym, ap, subst, div-add-mod', mod-lt, mul-le-mul, le_of_mul-le-mul_right, arith, leb-true}
use Rattle.std.proofs.Math.Arith.{digits_div, digits_mod}
use Rattle.std.proofs.lemmas.Option.{cond_some}
use Rattle.whole.specs.Tests.{both}
use Rattle.portions.specs.declared.divide.Ready.{Ready}

-- 2^15 and 2^30 times the amount, divided by the sum
abbrev pub divided : ℕ → ℕ → Ready
divided amount sum =
    record {
      quotient15 = amount * 2 ^ 15 / sum;
      remainder15 = amount * 2 ^ 15 % sum;
      quotient30 = amount * 2 ^ 30 / sum;
      remainder30 = amount * 2 ^ 30 % sum;
    }

-- the ratio is narrow where the amount is at most the sum and the sum at most 2^46; where it is not, nothing is divided
unfoldable pub ratio_of : ℕ → ℕ → Option Ready
ratio_of amount sum = cond (leb amount sum && leb sum (2 ^ 46)) (Some (divided amount sum)) None

-- what the four numbers of a narrow ratio are good for
pub record Ratio (amount sum q15 r15 q30 r30 : ℕ) : Type 0 where
  pub part : amount ≤ sum
  pub narrow : sum ≤ 2 ^ 46
  pub once : q15 * sum + r15 ≡ amount * 2 ^ 15
  pub once_less : r15 < sum
  pub twice : q30 * sum + r30 ≡ amount * 2 ^ 30
  pub twice_less : r30 < sum

-- ---- laws

divided_ratio : (amount sum : ℕ) → amount ≤ sum → sum ≤ 2 ^ 46 → 0 < sum
    → Ratio amount sum (amount * 2 ^ 15 / sum) (amount * 2 ^ 15 % sum) (amount * 2 ^ 30 / sum) (amount * 2 ^ 30 % sum)
divided_ratio amount sum part narrow some =
    record {
      part = part;
      narrow = narrow;
      once = div-add-mod' (amount * 2 ^ 15) sum;
      once_less = mod-lt (amount * 2 ^ 15) some;
      twice = div-add-mod' (amount * 2 ^ 30) sum;
      twice_less = mod-lt (amount * 2 ^ 30) some;
    }

-- a narrow one has a `Ratio`
pub ratio_narrow : (amount sum : ℕ) (r : Ready) → 0 < sum → ratio_of amount sum ≡ Some r → Ratio amount sum r.quotient15 r.remainder15 r.quotient30 r.remainder30
unfolding ratio_of
ratio_narrow amount sum r some e =
    let h = cond_some (leb amount sum && leb sum (2 ^ 46)) (divided amount sum) r e in
    let t = both (leb amount sum) (leb sum (2 ^ 46)) h.0 in
    subst (λ z. Ratio amount sum z.quotient15 z.remainder15 z.quotient30 z.remainder30) h.1
    (divided_ratio amount sum (leb-true amount sum t.0) (leb-true sum (2 ^ 46) t.1) some)

module _ {amount sum q15 r15 q30 r30 : ℕ} (r : Ratio amount sum q15 r15 q30 r30) where
  pub once-most : q15 ≤ 2 ^ 15
  once-most = le_of_mul-le-mul_right {k = sum} (omega (arith, r.once, r.part)) (omega (arith, r.once_less))

  pub twice_most : q30 ≤ 2 ^ 30
  twice_most = le_of_mul-le-mul_right {k = sum} (omega (arith, r.twice, r.part)) (omega (arith, r.twice_less))

  module _ (weight : ℕ) (le : weight ≤ sum) where
    abbrev high : ℕ
    high = weight / 32768 / 32768

    abbrev middle : ℕ
    middle = weight / 32768 % 32768

    abbrev low : ℕ
    low = weight % 32768

    digits : weight ≡ (high * 32768 + middle) * 32768 + low
    digits = omega (arith, div-add-mod' weight 32768, ap (λ x. x * 32768) (div-add-mod' (weight / 32768) 32768))

    high-most : high ≤ 2 ^ 16
    high-most = omega (arith, digits, r.narrow)

    middle-less : middle < 2 ^ 15
    middle-less = mod-lt (weight / 32768) (omega arith)

    low-less : low < 2 ^ 15
    low-less = mod-lt weight (omega arith)

    -- what the digits come to, each product
    pub record Sizes : Type 0 where
      pub rest_high : high * r30 ≤ 2 ^ 62
      pub rest_middle : middle * r15 ≤ 2 ^ 61
      pub rest_low : low * amount ≤ 2 ^ 61
      pub times_high : high * q30 ≤ 2 ^ 46
      pub times_middle : middle * q15 ≤ 2 ^ 30

    pub sizes : Sizes
    sizes =
        record {
          rest_high = mul-le-mul {n₁ = high} {m₁ = r30} {n₂ = 2 ^ 16} {m₂ = 2 ^ 46} high-most (omega (arith, r.twice_less, r.narrow));
          rest_middle = mul-le-mul {n₁ = middle} {m₁ = r15} {n₂ = 2 ^ 15} {m₂ = 2 ^ 46} (omega (arith, middle-less)) (omega (arith, r.once_less, r.narrow));
          rest_low = mul-le-mul {n₁ = low} {m₁ = amount} {n₂ = 2 ^ 15} {m₂ = 2 ^ 46} (omega (arith, low-less)) (omega (arith, r.part, r.narrow));
          times_high = mul-le-mul {n₁ = high} {m₁ = q30} {n₂ = 2 ^ 16} {m₂ = 2 ^ 30} high-most twice_most;
          times_middle = mul-le-mul {n₁ = middle} {m₁ = q15} {n₂ = 2 ^ 15} {m₂ = 2 ^ 15} (omega (arith, middle-less)) once-most;
        }

    abbrev pub rest : ℕ
    rest = high * r30 + middle * r15 + low * amount

    product : (high * q30 + middle * q15) * sum + rest ≡ amount * weight
    product = omega (arith, ap (λ x. high * x) r.twice, ap (λ x. middle * x) r.once, ap (λ x. amount * x) digits)

    -- one division
    pub parted : (high * q30 + middle * q15 + rest / sum ≡ amount * weight / sum) × (rest % sum ≡ amount * weight % sum)
    parted =
        let less : rest % sum < sum = mod-lt rest (omega (arith, r.once_less)) in
        let e : amount * weight ≡ (high * q30 + middle * q15 + rest / sum) * sum + rest % sum = omega (arith, product, div-add-mod' rest sum) in
        (rw e (sym (digits_div (high * q30 + middle * q15 + rest / sum) less)), rw e (sym (digits_mod (high * q30 + middle * q15 + rest / sum) less)))

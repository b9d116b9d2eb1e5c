-- `least_square` meets its contract: the quotient rounded up is the definition's. Assumes nothing.
use Rattle.std.proofs.Common.{◌≡◌, ◌∙◌, sym, ap, ℕ, ◌+◌, ◌-◌, ◌*◌, ◌/◌, ◌%◌, ◌<◌, min, ltb, ⊎_elim, arith, div-add-mod', mod-lt, ltb-true, ltb-false}
use lib.Arith.{digits_div}
use Rattle.whole.specs.Number.{ceil_div}
use Rattle.whole.specs.Tests.{true_or_false}
use Rattle.rates.specs.RateLaws.{base-some}
use Rattle.rates.proofs.windows.least_square.Goals as goal

-- a quotient and one more for a remainder is the quotient rounded up
rounded : (x y : ℕ) → 0 < y → x / y + min 1 (x % y) ≡ ceil_div x y
rounded x y h = ⊎_elim (λ e. some (ltb-true 0 (x % y) e)) (λ e. none (omega (arith, ltb-false 0 (x % y) e))) (true_or_false (ltb 0 (x % y)))
  where
    none : x % y ≡ 0 → x / y + min 1 (x % y) ≡ ceil_div x y
    none z =
        let less : y - 1 < y = omega arith in
        let e : x + (y - 1) ≡ x / y * y + (y - 1) = omega (arith, div-add-mod' x y) in
        let q : x / y + min 1 (x % y) ≡ x / y = omega arith in
        q ∙ sym (ap (λ n. n / y) e ∙ digits_div (x / y) less)

    some : 0 < x % y → x / y + min 1 (x % y) ≡ ceil_div x y
    some p =
        let less : x % y - 1 < y = omega (arith, mod-lt x h) in
        let e : x + (y - 1) ≡ (x / y + 1) * y + (x % y - 1) = omega (arith, div-add-mod' x y) in
        let q : x / y + min 1 (x % y) ≡ x / y + 1 = omega arith in
        q ∙ sym (ap (λ n. n / y) e ∙ digits_div (x / y + 1) less)

pub returns : goal.returns
returns c =
    let m = c.args.m in
    omega (arith, c.max.ensures, c.div_ceil.ensures, rounded (54289 * c.args.spread) (1000000 * (m * (m - 1))) (base-some m (m - 1) (omega (arith, c.requires.fact_1)) (omega (arith, c.requires.fact_1))))

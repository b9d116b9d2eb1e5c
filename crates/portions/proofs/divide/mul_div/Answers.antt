-- `mul_div` meets its contract: the two digits are those of the product moved up, and what was moved up is moved down again. Assumes nothing.
use mathlib.Core.Path.{◌≡◌, sym, ap}
use Prim.Native.Nat.{ℕ, suc, ◌+◌, ◌*◌, ◌-◌, ◌/◌, ◌%◌, ◌^◌, ◌≤◌, ◌<◌}
use native.Mathlib.Nat.{div-add-mod', mod-lt, mul-le-mul, mul-le-mul_right, lt_of_mul-lt-mul_right}
use native.Mathlib.Omega.{arith}
use lib.Arith.{digits_div, digits_mod}
use lib.Count.{count_leading_zeros}
use Rattle.std.proofs.lemmas.Nat.{leading_top, pow-add, pow_pos, shl_whole, div_below, same_from_place}
use Rattle.portions.specs.declared.divide.Quot.{Quot}
use Rattle.portions.proofs.divide.mul_div.Goals.{Start, After-divide_digit-upper, After-divide_digit-lower}
use Rattle.portions.proofs.divide.mul_div.Goals as goal

-- moved up by c's leading zeros, c has its highest bit set, and neither c nor a number no larger loses a bit
record MovedUp (b c up : ℕ) : Type 0 where
  pub part : (b * 2 ^ up) % 2 ^ 64 ≡ b * 2 ^ up
  pub whole : (c * 2 ^ up) % 2 ^ 64 ≡ c * 2 ^ up
  pub part_in : b * 2 ^ up ≤ c * 2 ^ up
  pub highest_bit : 2 ^ 63 ≤ c * 2 ^ up

moved_up : (b c : ℕ) → b ≤ c → 0 < c → c < 2 ^ 64 → MovedUp b c (count_leading_zeros 64 c)
moved_up b c part some small =
    let up = count_leading_zeros 64 c in
    let top = leading_top 64 c some small in
    let j = top.0 in
    let e : up + suc j ≡ 64 = top.1 in
    let f : j + up ≡ 63 = omega arith in
    record {
      part = shl_whole b (suc j) up 64 (omega (arith, top.3)) (omega arith);
      whole = shl_whole c (suc j) up 64 top.3 (omega arith);
      part_in = mul-le-mul_right (2 ^ up) part;
      highest_bit = rw f at (rw (sym (pow-add 2 j up)) at (mul-le-mul_right (2 ^ up) top.2));
    }

-- the product's upper half is less than what divides it
high_in : (a p w : ℕ) → a < 2 ^ 64 → p ≤ w → 0 < w → a * p / 2 ^ 64 < w
high_in a p w h part some = div_below (a * p) (2 ^ 64) w (omega arith) (omega (arith, mul-le-mul {n₁ = a} {m₁ = p} {n₂ = 2 ^ 64 - 1} {m₂ = w} (omega arith) part))

-- a digit's quotient is a digit
digit_in : (q r left digit w : ℕ) → q * w + r ≡ left * 2 ^ 32 + digit → left < w → digit < 2 ^ 32 → q < 2 ^ 32
digit_in q r left digit w e h d = lt_of_mul-lt-mul_right w (omega arith)

-- two digits, one after the other, divide the product
two_digits : (n w q r p s : ℕ) → q * w + r ≡ n / 2 ^ 64 * 2 ^ 32 + n % 2 ^ 64 / 2 ^ 32 → p * w + s ≡ r * 2 ^ 32 + n % 2 ^ 64 % 2 ^ 32 → (q * 2 ^ 32 + p) * w + s ≡ n
two_digits n w q r p s e f = omega (arith, div-add-mod' n (2 ^ 64), div-add-mod' (n % 2 ^ 64) (2 ^ 32), ap (λ x. x * 2 ^ 32) e)

-- the quotient of what was moved up, and its remainder moved down
moved_down : (a b c s q r : ℕ) → 0 < s → q * (c * s) + r ≡ a * (b * s) → r < c * s → (q ≡ a * b / c) × (r / s ≡ a * b % c)
moved_down a b c s q r some e less =
    let t = r / s in
    let h : t < c = div_below r s c some less in
    let same = same_from_place (q * c + t) (r % s) (a * b) 0 s (mod-lt r some) some (omega (arith, div-add-mod' r s)) in
    (rw (← same.0) (sym (digits_div q h)), rw (← same.0) (sym (digits_mod q h)))

up : (c : Start) → MovedUp c.args.b c.args.c (count_leading_zeros 64 c.args.c)
up c = moved_up c.args.b c.args.c c.requires.part c.requires.some (omega arith)

pub divide_digit-upper-requires-clause-left_in : goal.divide_digit-upper-requires-clause-left_in
divide_digit-upper-requires-clause-left_in c =
    let u = up (goal.at.divide_digit-upper-requires-clause-left_in c).Start in
    rw (c.from.ensures, c.from-2.ensures, u.part, u.whole) (high_in c.args.a _ _ (omega arith) u.part_in (omega (arith, u)))

pub divide_digit-upper-requires-clause-highest_bit : goal.divide_digit-upper-requires-clause-highest_bit
divide_digit-upper-requires-clause-highest_bit c = let u = up (goal.at.divide_digit-upper-requires-clause-highest_bit c).Start in omega (arith, u)

pub divide_digit-lower-requires-clause-highest_bit : goal.divide_digit-lower-requires-clause-highest_bit
divide_digit-lower-requires-clause-highest_bit c = let u = up (goal.at.divide_digit-lower-requires-clause-highest_bit c).Start in omega (arith, u)

-- what the two digits are
record Digits (a p w : ℕ) (upper lower : Quot) : Type 0 where
  pub whole : (upper.quotient * 2 ^ 32 + lower.quotient) * w + lower.remainder ≡ a * p
  pub less : lower.remainder < w
  pub upper_in : upper.quotient < 2 ^ 32
  pub lower_in : lower.quotient < 2 ^ 32

digits : (c : After-divide_digit-lower) →
    let up = count_leading_zeros 64 c.args.c in
    Digits c.args.a (c.args.b * 2 ^ up) (c.args.c * 2 ^ up) c.divide_digit-upper.result c.divide_digit-lower.result
digits c =
    let u = up (goal.at.After-divide_digit-lower c).Start in
    let n = c.args.a * (c.args.b * 2 ^ count_leading_zeros 64 c.args.c) in
    let w = c.args.c * 2 ^ count_leading_zeros 64 c.args.c in
    let x = c.divide_digit-upper.result in
    let y = c.divide_digit-lower.result in
    let e = rw (u.whole, c.from.ensures, c.from-2.ensures, u.part) at c.divide_digit-upper.ensures in
    let f = rw (u.whole, c.from.ensures, c.from-2.ensures, u.part) at c.divide_digit-lower.ensures in
    record {
      whole = two_digits n w x.quotient x.remainder y.quotient y.remainder e.0 f.0;
      less = f.1;
      upper_in = digit_in x.quotient x.remainder (n / 2 ^ 64) (n % 2 ^ 64 / 2 ^ 32) w e.0 (high_in c.args.a _ w (omega arith) u.part_in (omega (arith, u))) (omega (arith, mod-lt n {m = 2 ^ 64} (omega arith)));
      lower_in = digit_in y.quotient y.remainder x.remainder (n % 2 ^ 64 % 2 ^ 32) w f.0 e.1 (mod-lt (n % 2 ^ 64) (omega arith));
    }

pub overflow_mul-result : goal.overflow_mul-result
overflow_mul-result c = let d = digits (goal.at.overflow_mul-result c).After-divide_digit-lower in omega (arith, d)

pub overflow_add-result : goal.overflow_add-result
overflow_add-result c = let d = digits (goal.at.overflow_add-result c).After-divide_digit-lower in omega (arith, d)

pub returns : goal.returns
returns c =
    let d = digits (goal.at.returns c).After-divide_digit-lower in
    let up = count_leading_zeros 64 c.args.c in
    moved_down c.args.a c.args.b c.args.c (2 ^ up) _ _ (pow_pos up) d.whole d.less

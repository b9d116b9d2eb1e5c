-- The figures of one product stay within 64 bits: rates, lots at a price, the raw difference and the difference in yen. Assumes nothing.
use Rattle.std.specs.Prelude.{Bool, true, false, cond, ◌≡◌, refl, ℕ, zero, suc, ◌+◌, ◌*◌, ◌^◌, ◌≤◌, ℤ, pos, negsuc, neg_ℤ, nat_abs, ◌*ℤ◌, ◌≤ℤ◌}
use Rattle.std.proofs.Common.{⊎_elim, ap, mul-le-mul, mul_assoc, arith}
use Rattle.std.specs.Int.Signed.{le_z}
use Rattle.whole.specs.Number.{is, max_z, nn, ceil_div}
use Rattle.whole.specs.Signs.{abs_is, le_true}
use Rattle.whole.specs.Whole.{whole, facts, by}
use Rattle.whole.specs.Tests.{InRange, abs_sub, true_or_false}
use Rattle.rules.specs.Sizes.{is_yen, most_price, most_book, most_lots, most_rate}
use Rattle.rules.specs.Product.{least_rate, rate_of, margin_of, raw_difference, difference_of}

-- ---- products of two numbers

pub abs_neg : (z : ℤ) → nat_abs (neg_ℤ z) ≡ nat_abs z
abs_neg (pos zero) = refl
abs_neg (pos (suc n)) = refl
abs_neg (negsuc n) = refl

pub abs_mul : (x y : ℤ) → nat_abs (x *ℤ y) ≤ nat_abs x * nat_abs y
abs_mul (pos a) (pos b) = omega arith
abs_mul (pos a) (negsuc b) = omega (arith, abs_neg (pos (a * suc b)))
abs_mul (negsuc a) (pos b) = omega (arith, abs_neg (pos (suc a * b)))
abs_mul (negsuc a) (negsuc b) = omega arith

-- lots at a price
pub times_in : (x y : ℤ) → nat_abs x ≤ most_lots → nat_abs y ≤ 5000000 → nat_abs (x *ℤ y) ≤ 5000000000000
times_in x y h i = omega (arith, abs_mul x y, mul-le-mul h i)

-- ---- the ranges by kind

pub price-most : (kind : ℤ) → most_price kind ≤ 5000000
price-most kind = go (is_yen kind)
  where
    go : (t : Bool) → cond t 5000000 200000 ≤ 5000000
    go true = omega arith
    go false = omega arith

pub book-most : (kind : ℤ) → most_book kind ≤ 10 ^ 13
book-most kind = go (is_yen kind)
  where
    go : (t : Bool) → cond t (10 ^ 13) (4 * 10 ^ 11) ≤ 10 ^ 13
    go true = omega arith
    go false = omega arith

-- ---- the daily difference

-- what is known of a position of a sound ledger, at a close whose prices are in range
pub record Fair (kind lots book price quoted : ℤ) : Type 0 where
  pub lots_in : nat_abs lots ≤ most_lots
  pub price_in : nat_abs price ≤ most_price kind
  pub book_in : nat_abs book ≤ most_book kind
  pub quoted_in : nat_abs quoted ≤ 5000000

module _ (kind lots book price quoted : ℤ) (f : Fair kind lots book price quoted) where
  raw_of : (t b : ℕ) → nat_abs price ≤ t → nat_abs book ≤ b → nat_abs (raw_difference lots book price) ≤ 1000000 * t + b
  raw_of t b h i =
      let m : nat_abs (lots *ℤ price) ≤ 1000000 * t = omega (arith, abs_mul lots price, mul-le-mul f.lots_in h) in
      omega (arith, abs_sub (lots *ℤ price) book)

  pub raw_in : nat_abs (raw_difference lots book price) ≤ 15000000000000
  raw_in = raw_of 5000000 (10 ^ 13) (omega (arith, f.price_in, price-most kind)) (omega (arith, f.book_in, book-most kind))

  pub raw_cross : is_yen kind ≡ false → nat_abs (raw_difference lots book price) ≤ 600000000000
  raw_cross e = raw_of 200000 (4 * 10 ^ 11) (rw e at f.price_in) (rw e at f.book_in)

  pub quoted_cross : is_yen kind ≡ false → nat_abs (raw_difference lots book price *ℤ quoted) ≤ 3000000000000000000
  quoted_cross e = omega (arith, abs_mul (raw_difference lots book price) quoted, mul-le-mul (raw_cross e) f.quoted_in)

-- a difference is at most 3 × 10^13
pub fair_in : (kind lots book price quoted : ℤ) → Fair kind lots book price quoted → nat_abs (difference_of kind lots book price quoted) ≤ 30000000000000
unfolding difference_of
fair_in kind lots book price quoted f =
    ⊎_elim
    (λ e. let r = raw_in kind lots book price quoted f in by (search whole depth 20) (omega facts))
    (λ e. let q = quoted_cross kind lots book price quoted f e in by (search whole depth 20) (omega facts))
    (true_or_false (is_yen kind))

-- ---- the rate and the margin

pub max_in : (lo hi : ℕ) (a b : ℤ) → InRange lo hi a → InRange 0 hi b → InRange lo hi (max_z a b)
unfolding max_z
max_in lo hi a b x y = go (le_z a b) refl
  where
    go : (t : Bool) → le_z a b ≡ t → InRange lo hi (cond t b a)
    go true e = record { low = omega (arith, le_true a b e, ap nn x.nat, ap nn y.nat, abs_is a, abs_is b); high = y.high; nat = y.nat }
    go false e = x

-- both rates in 1..10,000, the floor at work or not
pub rate_in : (mark rate8 rate104 : ℤ) → InRange 1 most_rate rate8 → InRange 1 most_rate rate104 → InRange 1 most_rate (rate_of mark rate8 rate104)
unfolding rate_of
rate_in mark rate8 rate104 h i = max_in 1 most_rate (max_z rate8 rate104) (least_rate mark) (max_in 1 most_rate rate8 rate104 h (record { low = omega arith; high = i.high; nat = i.nat })) (go (is 0 mark))
  where
    go : (t : Bool) → InRange 0 most_rate (cond t (pos 0) (pos 400))
    go true = record { low = omega arith; high = omega arith; nat = refl }
    go false = record { low = omega arith; high = omega arith; nat = refl }

-- a margin is at most 5 × 10^11
pub margin_in : (lots y rate : ℤ) → nat_abs lots ≤ most_lots → nat_abs y ≤ 5000000 → nat_abs rate ≤ most_rate → margin_of lots y rate ≤ 500000000000
margin_in lots y rate h i j =
    let m : nat_abs lots * nat_abs y * nat_abs rate ≤ 50000000000000000 = mul-le-mul (mul-le-mul h i) j in
    omega arith

-- ---- the margin by the margin of a lot

-- Y × rate, what a lot's margin is before the division by 100,000
abbrev pub lot_margin : ℤ → ℤ → ℕ
lot_margin y rate = nat_abs y * nat_abs rate

abbrev pub most_lot_margin : ℕ
most_lot_margin = 5 * 10 ^ 10

abbrev pub margin_at : ℤ → ℕ → ℕ
margin_at lots single = ceil_div (nat_abs lots * single) 100000

pub margin_by : (lots y rate : ℤ) → margin_of lots y rate ≡ margin_at lots (lot_margin y rate)
margin_by lots y rate = ap (λ z. ceil_div z 100000) (mul_assoc (nat_abs lots) (nat_abs y) (nat_abs rate))

pub lot_margin_in : (y rate : ℤ) → nat_abs y ≤ 5000000 → nat_abs rate ≤ most_rate → lot_margin y rate ≤ most_lot_margin
lot_margin_in y rate h i = mul-le-mul h i

pub margin-at_in : (lots : ℤ) (single : ℕ) → nat_abs lots ≤ most_lots → single ≤ most_lot_margin → margin_at lots single ≤ 500000000000
margin-at_in lots single h i = let m : nat_abs lots * single ≤ 50000000000000000 = mul-le-mul h i in omega arith

-- as the contracts ask a range
pub at_least : (lo hi : ℕ) (z : ℤ) → InRange lo hi z → pos lo ≤ℤ z
at_least lo hi z r = rw r.nat (by (search whole depth 20) (omega facts))

pub at_most : (lo hi : ℕ) (z : ℤ) → InRange lo hi z → z ≤ℤ pos hi
at_most lo hi z r = rw r.nat (by (search whole depth 20) (omega facts))

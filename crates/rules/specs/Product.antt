-- 01, "The margin rules" and "The day", on one product: its rate, the product whose price is Y, the margin of a position in it, and the
-- daily difference of a position in yen.
use Rattle.std.specs.Prelude.{cond, ℕ, ◌*◌, ℤ, pos, nat_abs, ◌-ℤ◌, ◌*ℤ◌}
use Rattle.whole.specs.Number.{is, max_z, floor_div, ceil_div}
use Rattle.rules.specs.Sizes.{is_yen}
use Rattle.rules.specs.declared.Product.{Product}

-- Source 001, article 4: the larger of the 8-week and the 104-week rate, and at least 400 where the floor mark stands.
abbrev pub least_rate : ℤ → ℤ
least_rate mark = cond (is 0 mark) (pos 0) (pos 400)

unfoldable pub rate_of : ℤ → ℤ → ℤ → ℤ
rate_of mark rate8 rate104 = max_z (max_z rate8 rate104) (least_rate mark)

-- Source 001, 2(13): Y is the price of the principal currency against yen: the product's own if yen, else that of its principal's yen product.
-- The number of the product whose price is Y, for the product j.
abbrev pub yen_product : Product → ℕ → ℕ
yen_product product j = cond (is_yen product.kind) j (nat_abs product.principal)

-- Source 001, 2(13): |lots| × Y × rate / 100,000, rounded up (house).
abbrev pub margin_of : ℤ → ℤ → ℤ → ℕ
margin_of lots y rate = ceil_div (nat_abs lots * nat_abs y * nat_abs rate) 100000

-- 01, "Close": the raw difference is lots × price - book; in yen, raw / 10 for a yen product, raw × (quote's new yen price) / 100,000 for a
-- cross, rounded down toward minus infinity (house).
abbrev pub raw_difference : ℤ → ℤ → ℤ → ℤ
raw_difference lots book price = lots *ℤ price -ℤ book

unfoldable pub difference_of : ℤ → ℤ → ℤ → ℤ → ℤ → ℤ
difference_of kind lots book price quoted =
    cond (is_yen kind) (floor_div (raw_difference lots book price) 10) (floor_div (raw_difference lots book price *ℤ quoted) 100000)

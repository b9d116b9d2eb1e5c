-- 01, "Units and sizes": the ranges of an account, a product, a call and the house, by name. All limits are inclusive. (How many accounts and products:
-- `places/specs/Act`; the ranges of a loss and its members: `shares/specs/Loss`.)
use Rattle.std.specs.Prelude.{Bool, cond, ℕ, ◌*◌, ◌^◌, ℤ, pos}
use Rattle.whole.specs.Number.{is, between}

-- a product's kind: 0 yen, 1 cross
abbrev pub is_yen : ℤ → Bool
is_yen kind = is 0 kind

-- yen price 1..5,000,000; cross price 1..200,000
abbrev pub most_price : ℤ → ℕ
most_price kind = cond (is_yen kind) 5000000 200000

-- book of a yen product ±10^13; of a cross ±4×10^11
abbrev pub most_book : ℤ → ℕ
most_book kind = cond (is_yen kind) (10 ^ 13) (4 * 10 ^ 11)

-- position in lots -1,000,000..1,000,000; lots in a trade 1..1,000,000
abbrev pub most_lots : ℕ
most_lots = 10 ^ 6

-- rate 1..10,000
abbrev pub most_rate : ℕ
most_rate = 10000

-- deposit, withdrawal 1..10^12
abbrev pub most_amount : ℕ
most_amount = 10 ^ 12

abbrev pub amount_ok : ℤ → Bool
amount_ok x = between (pos 1) (pos most_amount) x

-- guarantee, its cap 0..10^12
abbrev pub most_guarantee : ℕ
most_guarantee = 10 ^ 12

-- gross of an account 0..10^15
abbrev pub most_gross : ℕ
most_gross = 10 ^ 15

-- stored initial margin 0..8×10^12
abbrev pub most_margin : ℕ
most_margin = 8 * 10 ^ 12

-- house ±10^17
abbrev pub most_house : ℕ
most_house = 10 ^ 17

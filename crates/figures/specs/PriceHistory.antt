-- M-105, margin rates from price history: figures worked from its rule, as one list beside R1 to R12 (the request has none). A rate is in hundredths of a percent, a figure of a window in
-- hundred-thousandths. Each proof is two tests, computed: the rate is enough, and one less is not. Assumes nothing.
use Rattle.std.specs.Prelude.{◌≡◌, refl, List, [], ◌∷◌, ◌*◌, ℤ, pos, neg_ℤ, ◌*ℤ◌}
use Rattle.std.proofs.Common.{arith}
use Rattle.rates.specs.MarginRate.{sum_of, squares_of, spread_of, enough, window_rate}
use Rattle.rates.specs.RateTheorems.{by_two_tests, widest, most-reached}

-- -1000, 1000, -1000, and the last two
abbrev pub five : ℤ → ℤ → List ℤ
five fourth fifth = neg_ℤ (pos 1000) ∷ pos 1000 ∷ neg_ℤ (pos 1000) ∷ fourth ∷ fifth ∷ []

pub record PriceHistory : Type 0 where
  -- 0, 100: 17; 0, 200: 33, and not twice 17
  pub hundred : window_rate (pos 0 ∷ pos 100 ∷ []) ≡ 17
  pub two_hundred : window_rate (pos 0 ∷ pos 200 ∷ []) ≡ 33
  -- -1000, 1000, -1000, 1000, 0: 233, and that exactly: both sides of the inequality are one number
  pub whole_figure : window_rate (five (pos 1000) (pos 0)) ≡ 233
  pub exactly : pos (233 * 233) *ℤ spread_of (five (pos 1000) (pos 0)) ≡ pos (233 * 233 * 1000000 * (5 * 4))
  -- with 1001 in place of the last 1000: 234
  pub one_more : window_rate (five (pos 1001) (pos 0)) ≡ 234
  -- 5, 5, 5: 1, though nothing moves
  pub unmoved : window_rate (pos 5 ∷ pos 5 ∷ pos 5 ∷ []) ≡ 1
  -- -20,000, 20,000: 6,591, the most that there is
  pub most : window_rate widest ≡ 6591

pub price_history : PriceHistory
unfolding sum_of squares_of spread_of enough
price_history =
    record {
      hundred = by_two_tests (pos 0 ∷ pos 100 ∷ []) refl refl 17 (omega arith) refl refl;
      two_hundred = by_two_tests (pos 0 ∷ pos 200 ∷ []) refl refl 33 (omega arith) refl refl;
      whole_figure = by_two_tests (five (pos 1000) (pos 0)) refl refl 233 (omega arith) refl refl;
      exactly = refl;
      one_more = by_two_tests (five (pos 1001) (pos 0)) refl refl 234 (omega arith) refl refl;
      unmoved = by_two_tests (pos 5 ∷ pos 5 ∷ pos 5 ∷ []) refl refl 1 (omega arith) refl refl;
      most = most-reached;
    }

-- Worked examples, run by the rule itself: the daily differences R3 to R6 of 01, and a close of two accounts in three products, one of them a
-- cross, with each of its refusals; that by 12 is in proofs/CloseLaws.
use Rattle.std.specs.Prelude.{◌≡◌, refl, List, [], ◌∷◌, ℤ, pos, negsuc}
use Rattle.whole.specs.Number.{floor_div, max_z}
use Rattle.rules.specs.Product.{rate_of, difference_of}
use Rattle.rules.specs.Account.{account_ok}
use Rattle.places.specs.ByAccount.{by_account}
use Rattle.places.specs.Act.{sound_by, perform_by}
use Rattle.soundness.specs.Perform.{replies, perform}
use Rattle.daily.specs.DailyFigures.{new_due, new_margin}
use Rattle.closing.specs.Close.{account_puts, close_puts, close_rule}

-- 7 lots, a move of 3, for the buyer and the seller
r3 : difference_of (pos 0) (pos 7) (pos 10500000) (pos 1500003) (pos 0) ≡ pos 2
unfolding difference_of floor_div
r3 = refl

r4 : difference_of (pos 0) (negsuc 6) (negsuc 10499999) (pos 1500003) (pos 0) ≡ negsuc 2
unfolding difference_of floor_div
r4 = refl

-- a cross, 10 lots bought at 10,850, close 10,873, the quote's yen price 1,502,500, for the buyer and the seller
r5 : difference_of (pos 1) (pos 10) (pos 108500) (pos 10873) (pos 1502500) ≡ pos 3455
unfolding difference_of floor_div
r5 = refl

r6 : difference_of (pos 1) (negsuc 9) (negsuc 108499) (pos 10873) (pos 1502500) ≡ negsuc 3455
unfolding difference_of floor_div
r6 = refl

-- two yen products, the first with the floor mark, and a cross of the second's currency against the first's; a broker and a provider, by the
-- phase and the provider's cash
abbrev pub before : ℤ → ℤ → List ℤ
before phase cash =
    pos 2 ∷ pos 3 ∷ phase ∷ pos 0
    ∷ pos 0 ∷ pos 1 ∷ pos 1502400 ∷ pos 0 ∷ pos 0
    ∷ pos 0 ∷ pos 0 ∷ pos 1620000 ∷ pos 0 ∷ pos 0
    ∷ pos 1 ∷ pos 0 ∷ pos 10850 ∷ pos 1 ∷ pos 0
    ∷ pos 0 ∷ pos 1000 ∷ pos 0 ∷ pos 0 ∷ pos 0 ∷ pos 0 ∷ pos 50 ∷ negsuc 6 ∷ pos 30 ∷ pos 45075000 ∷ pos 0 ∷ pos 0 ∷ pos 10 ∷ pos 108500
    ∷ pos 1 ∷ cash ∷ pos 0 ∷ pos 0 ∷ pos 0 ∷ pos 0 ∷ negsuc 49 ∷ pos 7 ∷ negsuc 29 ∷ negsuc 45074999 ∷ pos 0 ∷ pos 0 ∷ negsuc 9 ∷ negsuc 108499
    ∷ []

abbrev pub prices : List ℤ
prices = pos 1502500 ∷ pos 1620000 ∷ pos 10873 ∷ []

abbrev pub rates8 : List ℤ
rates8 = pos 300 ∷ pos 333 ∷ pos 250 ∷ []

abbrev pub rates104 : List ℤ
rates104 = pos 350 ∷ pos 300 ∷ pos 260 ∷ []

abbrev pub lags : List ℤ
lags = pos 0 ∷ pos 1 ∷ pos 2 ∷ []

-- margin: 30 × 1,502,500 × 400 and 10 × 1,620,000 × 260; dues move down, and the cross's difference comes in two days
taken : perform by_account (before (pos 3) (pos 500)) (close_rule prices rates8 rates104 lags)
    ≡ (
      replies 0 (pos 0),
      pos 2 ∷ pos 3 ∷ pos 0 ∷ pos 0
          ∷ pos 0 ∷ pos 1 ∷ pos 1502500 ∷ pos 0 ∷ pos 0
          ∷ pos 0 ∷ pos 0 ∷ pos 1620000 ∷ pos 0 ∷ pos 0
          ∷ pos 1 ∷ pos 0 ∷ pos 10873 ∷ pos 1 ∷ pos 0
          ∷ pos 0 ∷ pos 1000 ∷ pos 0 ∷ pos 0 ∷ pos 222420 ∷ pos 50 ∷ negsuc 6 ∷ pos 3455 ∷ pos 30 ∷ pos 45075000 ∷ pos 0 ∷ pos 0 ∷ pos 10 ∷ pos 108730
          ∷ pos 1 ∷ pos 500 ∷ pos 0 ∷ pos 0 ∷ pos 222420 ∷ negsuc 49 ∷ pos 7 ∷ negsuc 3455 ∷ negsuc 29 ∷ negsuc 45074999 ∷ pos 0 ∷ pos 0 ∷ negsuc 9 ∷ negsuc 108729
          ∷ [],
    )
unfolding sound_by perform_by account_ok by_account close_puts account_puts new_due new_margin rate_of difference_of floor_div max_z
taken = refl

-- a lag of 3
refused_8 : perform by_account (before (pos 3) (pos 500)) (close_rule prices rates8 rates104 (pos 0 ∷ pos 1 ∷ pos 3 ∷ [])) ≡ (replies 8 (pos 0), before (pos 3) (pos 500))
unfolding sound_by perform_by account_ok by_account close_puts account_puts new_due new_margin rate_of difference_of floor_div max_z
refused_8 = refl

-- the run not done
refused_7 : perform by_account (before (pos 2) (pos 500)) (close_rule prices rates8 rates104 lags) ≡ (replies 7 (pos 0), before (pos 2) (pos 500))
unfolding sound_by perform_by account_ok by_account close_puts account_puts new_due new_margin rate_of difference_of floor_div max_z
refused_7 = refl

-- a list too short, and the run not done
refused_2 : perform by_account (before (pos 2) (pos 500)) (close_rule prices rates8 rates104 []) ≡ (replies 2 (pos 0), before (pos 2) (pos 500))
unfolding sound_by perform_by account_ok by_account close_puts account_puts new_due new_margin rate_of difference_of floor_div max_z
refused_2 = refl

-- a phase beyond the run, and a list too short
refused_1 : perform by_account (before (pos 4) (pos 500)) (close_rule prices rates8 rates104 []) ≡ (replies 1 (pos 0), before (pos 4) (pos 500))
unfolding sound_by perform_by account_ok by_account close_puts account_puts new_due new_margin rate_of difference_of floor_div max_z
refused_1 = refl

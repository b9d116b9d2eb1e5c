-- What no empty program could answer, by computation: a call that gets each refusal of 01, "Numbers returned", with its figure and the words as they
-- were; and for each call a sound ledger on which it is accepted, with its figure and the words as it leaves them. Assumes nothing.
use Rattle.std.specs.Prelude.{◌≡◌, refl, List, [], ◌∷◌, ℕ, ℤ, pos, negsuc}
use Rattle.whole.specs.Number.{min_z, max_z, takes_away, floor_div}
use Rattle.rules.specs.declared.Reply.{Reply}
use Rattle.rules.specs.Product.{rate_of, difference_of}
use Rattle.rules.specs.Account.{lg_value, deposit_of, required_of, first_shortfall, next_day_need, second_shortfall, excess_one, excess_two, limit_of, account_ok}
use Rattle.rules.specs.AccountCalls.{deposited, withdrawn, guaranteed, standing_of}
use Rattle.places.specs.ByAccount.{by_account}
use Rattle.places.specs.Act.{Rule, sound_by, perform_by}
use Rattle.soundness.specs.Perform.{replies, perform, ask}
use Rattle.acts.specs.Requests.{deposit_rule, withdraw_rule, guarantee_rule, question_rule}
use Rattle.acts.specs.Trade.{trade_rule}
use Rattle.acts.specs.Run.{begin_rule, step_rule}
use Rattle.daily.specs.DailyFigures.{new_due, new_margin}
use Rattle.closing.specs.Close.{account_puts, close_puts, close_rule}
use Rattle.tight.specs.Small.{ledger, account, broker, provider, opening, settled, full, holding, short, with_guarantee, owing, receiving, overdrawn, brim}

-- the rule on the words W is refused with the number k and the figure z, and leaves the words
abbrev pub Refuses : List ℤ → Rule Reply → ℕ → ℤ → Type 0
Refuses W rule k z = perform by_account W rule ≡ (replies k z, W)

-- the rule on the words W is accepted with the figure z, and leaves the words X
abbrev pub Accepts : List ℤ → Rule Reply → ℤ → List ℤ → Type 0
Accepts W rule z X = perform by_account W rule ≡ (replies 0 z, X)

-- a close at a price of 1,502,600, both rates 400, lag 0
abbrev pub close_at : Rule Reply
close_at = close_rule (pos 1502600 ∷ []) (pos 400 ∷ []) (pos 400 ∷ []) (pos 0 ∷ [])

pub record Refusals : Type 0 where
  -- no words; a phase past n+1
  pub one_empty : Refuses [] (deposit_rule (pos 0) (pos 1)) 1 (pos 0)
  pub one_phase : Refuses (opening (pos 4)) (deposit_rule (pos 0) (pos 1)) 1 (pos 0)
  -- in a run, a house in range at its end and not after its first step; on a sound ledger a deposit of 0 gets 5
  pub one_house : Refuses (brim (pos 1)) (deposit_rule (pos 0) (pos 0)) 1 (pos 0)
  -- lists too short
  pub two : Refuses (settled (pos 0) (pos 0)) (close_rule [] [] [] []) 2 (pos 0)
  pub three_above : Refuses (opening (pos 0)) (deposit_rule (pos 2) (pos 1)) 3 (pos 0)
  pub three_below : Refuses (opening (pos 0)) (withdraw_rule (negsuc 0) (pos 1)) 3 (pos 0)
  pub three_question : ask by_account short (question_rule (pos 2)) ≡ (record { number = 3; limit = pos 0; first = pos 0; second = pos 0 }, short)
  pub four : Refuses (opening (pos 0)) (trade_rule (pos 0) (pos 1) (pos 1) (pos 1) (pos 1502500)) 4 (pos 0)
  pub five_deposit : Refuses (opening (pos 0)) (deposit_rule (pos 0) (pos 0)) 5 (pos 0)
  pub five_withdrawal : Refuses (opening (pos 0)) (withdraw_rule (pos 0) (pos 0)) 5 (pos 0)
  -- a guarantee out of range, for an L: the lowest number
  pub five_guarantee : Refuses (opening (pos 0)) (guarantee_rule (pos 1) (pos 1000000000001) (pos 0)) 5 (pos 0)
  -- a guarantee for an L; a trade of an F with itself
  pub six_guarantee : Refuses (opening (pos 0)) (guarantee_rule (pos 1) (pos 1) (pos 1)) 6 (pos 0)
  pub six_trade : Refuses (opening (pos 0)) (trade_rule (pos 0) (pos 0) (pos 0) (pos 1) (pos 1502500)) 6 (pos 0)
  pub seven_step : Refuses (opening (pos 0)) step_rule 7 (pos 0)
  pub seven_begin : Refuses (opening (pos 1)) begin_rule 7 (pos 0)
  pub seven_close : Refuses (opening (pos 0)) close_at 7 (pos 0)
  pub eight : Refuses (opening (pos 0)) (trade_rule (pos 0) (pos 1) (pos 0) (pos 0) (pos 1502500)) 8 (pos 0)
  -- 999,999 lots and 2 more
  pub nine : Refuses full (trade_rule (pos 0) (pos 1) (pos 0) (pos 2) (pos 1)) 9 (pos 0)
  -- one yen more than a gross of 10^15
  pub ten : Refuses (holding (pos 999999999999990)) (deposit_rule (pos 0) (pos 11)) 10 (pos 0)
  -- the figure is the limit
  pub eleven : Refuses (opening (pos 0)) (withdraw_rule (pos 0) (pos 60000)) 11 (pos 50000)
  -- the figure is the lowest account: of the second alone, and of both
  pub twelve_second : Refuses (settled (pos 0) (pos 999999999999900)) close_at 12 (pos 1)
  pub twelve_both : Refuses (settled (pos 999999999999900) (pos 999999999999900)) close_at 12 (pos 0)
  -- house in range at the end and not after the first step
  pub thirteen : Refuses (brim (pos 0)) begin_rule 13 (pos 0)

pub refusals : Refusals
unfolding sound_by perform_by by_account account_ok limit_of excess_one excess_two deposit_of lg_value required_of deposited withdrawn guaranteed takes_away min_z max_z floor_div close_puts account_puts new_due new_margin rate_of difference_of
refusals =
    record {
      one_empty = refl;
      one_phase = refl;
      one_house = refl;
      two = refl;
      three_above = refl;
      three_below = refl;
      three_question = refl;
      four = refl;
      five_deposit = refl;
      five_withdrawal = refl;
      five_guarantee = refl;
      six_guarantee = refl;
      six_trade = refl;
      seven_step = refl;
      seven_begin = refl;
      seven_close = refl;
      eight = refl;
      nine = refl;
      ten = refl;
      eleven = refl;
      twelve_second = refl;
      twelve_both = refl;
      thirteen = refl;
    }

-- the words that change are those that differ between the two ledgers of a line
pub record Acceptances : Type 0 where
  -- the broker's cash, to a gross of 10^15 and no further
  pub deposit : Accepts (holding (pos 999999999999990)) (deposit_rule (pos 0) (pos 10)) (pos 1000000000000000) (holding (pos 1000000000000000))
  -- the broker's cash
  pub withdrawal : Accepts (holding (pos 50000)) (withdraw_rule (pos 0) (pos 50000)) (pos 0) (holding (pos 0))
  -- its guarantee and cap; the figure is the LG value of R7
  pub guarantee : Accepts (holding (pos 5)) (guarantee_rule (pos 0) (pos 1000001) (pos 1000001)) (pos 990000)
      (ledger (pos 0) (pos 0) (pos 1502500) (account (pos 0) (pos 5) (pos 1000001) (pos 1000001) (pos 0) (pos 0) (pos 0) (pos 0) (provider (pos 0) (pos 0) (pos 0) (pos 0) [])))
  -- lots and book of both
  pub trade : Accepts (holding (pos 5)) (trade_rule (pos 0) (pos 1) (pos 0) (pos 2) (pos 1502500)) (pos 0)
      (ledger (pos 0) (pos 0) (pos 1502500) (broker (pos 5) (pos 0) (pos 2) (pos 3005000) (provider (pos 0) (pos 0) (negsuc 1) (negsuc 3004999) [])))
  -- the phase
  pub begin : Accepts (opening (pos 0)) begin_rule (pos 0) (opening (pos 1))
  -- phase, house, the broker's cash and due 0; the provider's due 0 stays
  pub step : Accepts (opening (pos 1)) step_rule (pos 0)
      (ledger (pos 2) (negsuc 199999) (pos 1502500) (broker (pos 250000) (pos 0) (pos 0) (pos 0) (provider (pos 300000) (negsuc 199999) (pos 0) (pos 0) [])))
  -- and the second step, the provider's
  pub last_step : Accepts (ledger (pos 2) (negsuc 199999) (pos 1502500) (broker (pos 250000) (pos 0) (pos 0) (pos 0) (provider (pos 300000) (negsuc 199999) (pos 0) (pos 0) []))) step_rule (pos 1)
      (ledger (pos 3) (pos 0) (pos 1502500) (broker (pos 250000) (pos 0) (pos 0) (pos 0) (provider (pos 100000) (pos 0) (pos 0) (pos 0) [])))
  -- phase, price, both margins, dues 0 and books
  pub close : Accepts (settled (pos 5) (pos 6)) close_at (pos 0)
      (ledger (pos 0) (pos 0) (pos 1502600)
      (account (pos 0) (pos 5) (pos 0) (pos 0) (pos 180312) (pos 300) (pos 30) (pos 45078000)
      (account (pos 1) (pos 6) (pos 0) (pos 0) (pos 180312) (negsuc 299) (negsuc 29) (negsuc 45077999) [])))
  -- limit and both shortfalls, by R10
  pub question : ask by_account short (question_rule (pos 0)) ≡ (record { number = 0; limit = pos 0; first = pos 620000; second = pos 20000 }, short)
  pub question_limit : ask by_account (opening (pos 0)) (question_rule (pos 0)) ≡ (record { number = 0; limit = pos 50000; first = pos 0; second = pos 0 }, opening (pos 0))
  -- the LG does not count in excess two, which is 1,000,000 - 100,000 - 600,000; excess one is 845,000
  pub question_guarantee : ask by_account with_guarantee (question_rule (pos 0)) ≡ (record { number = 0; limit = pos 300000; first = pos 0; second = pos 0 }, with_guarantee)
  -- required margin is negative, and is not held at zero: the first shortfall is -50,000 less -100,000
  pub question_negative : ask by_account overdrawn (question_rule (pos 0)) ≡ (record { number = 0; limit = pos 0; first = pos 50000; second = pos 100000 }, overdrawn)
  -- M-101: the need is what due 0 takes, though due 1 takes nothing; the limit counts due 1
  pub question_owing : ask by_account owing (question_rule (pos 1)) ≡ (record { number = 0; limit = pos 80000; first = pos 0; second = pos 20000 }, owing)
  -- what is received today lessens the need, and is not added to it
  pub question_receiving : ask by_account receiving (question_rule (pos 1)) ≡ (record { number = 0; limit = pos 0; first = pos 0; second = pos 0 }, receiving)

pub acceptances : Acceptances
unfolding sound_by perform_by by_account account_ok limit_of excess_one excess_two deposit_of lg_value required_of first_shortfall second_shortfall next_day_need deposited withdrawn guaranteed standing_of takes_away min_z max_z floor_div close_puts account_puts new_due new_margin rate_of difference_of
acceptances =
    record {
      deposit = refl;
      withdrawal = refl;
      guarantee = refl;
      trade = refl;
      begin = refl;
      step = refl;
      last_step = refl;
      close = refl;
      question = refl;
      question_limit = refl;
      question_guarantee = refl;
      question_negative = refl;
      question_owing = refl;
      question_receiving = refl;
    }

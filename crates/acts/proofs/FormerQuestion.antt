-- M-101 on the ledger: on any words a question gets the number, the limit and the first shortfall that it got by document 01's need, and about an F the whole
-- answer. No other call asks for a shortfall. Assumes nothing.
use Rattle.std.specs.Prelude.{◌≡◌, List, [], Bool, true, false, ℤ, nat_abs}
use Rattle.std.proofs.Math.Path.{refl, ap}
use Rattle.whole.specs.Number.{is_one_of, unless}
use Rattle.rules.specs.Account.{is_broker}
use Rattle.rules.specs.FormerNeed.{former_standing}
use Rattle.rules.specs.FormerNeedLaws.{ButForSecond, but_for_second, broker_as_it_was}
use Rattle.rules.specs.declared.Standing.{Standing}
use Rattle.places.specs.Place.{Layout, get}
use Rattle.places.specs.Act.{Act, Rule, shape_of, sound_by, perform_by, finish}
use Rattle.soundness.specs.Sound.{places_ok}
use Rattle.soundness.specs.Perform.{refuse_question, ask}
use Rattle.acts.specs.Requests.{at_account, question_act, question_rule}
use Rattle.acts.specs.WithdrawalLaws.{named}

-- the answer s, and nothing put
abbrev answers : Standing → Act Standing
answers s = record { answer = s; puts = [] }

abbrev pub former_question_rule : ℤ → Rule Standing
former_question_rule a = at_account (refuse_question 3) a (λ _ account. answers (former_standing account))

module _ (P : Act Standing → Act Standing → Type 0) (same : (o : Act Standing) → P o o) where
  -- behind one test, with one refusal
  behind : (t : Bool) (refusal o u : Act Standing) → P o u → P (unless t refusal o) (unless t refusal u)
  behind true refusal o u h = h
  behind false refusal o u h = same refusal

  -- what holds of the two questions on the account's record holds of them on the words
  both-asked : (L : Layout) (W : List ℤ) (a : ℤ) → P (question_act (nat_abs a) (named L W a)) (answers (former_standing (named L W a)))
      → P (unless (sound_by places_ok L W) (refuse_question 1) (question_rule a (shape_of W) (get L (shape_of W) W)))
      (unless (sound_by places_ok L W) (refuse_question 1) (former_question_rule a (shape_of W) (get L (shape_of W) W)))
  both-asked L W a h = behind (sound_by places_ok L W) _ _ _ (behind (is_one_of (shape_of W).n a) _ _ _ h)

module _ (L : Layout) (W : List ℤ) (a : ℤ) where
  -- limit and first shortfall, of F and L, and the number
  pub asked_but_for_second : ButForSecond (ask L W (question_rule a)).0 (ask L W (former_question_rule a)).0
  unfolding perform_by
  asked_but_for_second =
      both-asked (λ o u. ButForSecond o.answer u.answer) (λ o. record { same_number = refl; same_limit = refl; same_first = refl }) L W a
      (but_for_second (named L W a))

  -- everything of an F
  pub asked-of-broker : is_broker (named L W a) ≡ true → ask L W (question_rule a) ≡ ask L W (former_question_rule a)
  unfolding perform_by
  asked-of-broker h =
      ap (finish L (shape_of W) W) (both-asked (λ o u. o ≡ u) (λ o. refl) L W a (ap answers (broker_as_it_was (named L W a) h)))

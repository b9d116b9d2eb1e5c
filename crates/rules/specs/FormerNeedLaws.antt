-- M-101 against document 01, of any account, sound or not: the limit and the first shortfall do not read the need, and everything of an F is as it was. Of an L
-- the second shortfall alone moves, where it is to pay by due 0 and not by due 1, and only up. Assumes nothing.
use Rattle.std.specs.Prelude.{◌≡◌, true, false, ℤ, pos, ◌-ℤ◌, ◌≤ℤ◌}
use Rattle.std.proofs.Math.Path.{refl}
use Rattle.std.proofs.Common.{sym, ◌∙◌}
use Rattle.std.proofs.Math.Logic.{⊎_elim}
use Rattle.std.specs.Int.Signed.{le_z, lt_z}
use Rattle.whole.specs.Number.{max_z, takes_away}
use Rattle.whole.specs.Signs.{is_true}
use Rattle.whole.specs.Reps.{leaf}
use Rattle.whole.specs.Whole.{whole, known, facts, by, told}
use Rattle.whole.specs.Tests.{true_or_false}
use Rattle.rules.specs.Account.{is_broker, account_ok, next_day_need, second_shortfall, limit_of}
use Rattle.rules.specs.AccountCalls.{standing_of}
use Rattle.rules.specs.AccountLaws.{need-of-today}
use Rattle.rules.specs.AccountCallsLaws.{limit_cash}
use Rattle.rules.specs.ShortfallLaws.{same, short-and_free}
use Rattle.rules.specs.FormerNeed.{former_need, former_second_shortfall, former_standing}
use Rattle.rules.specs.declared.Account.{Account}
use Rattle.rules.specs.declared.Standing.{Standing}

-- two answers to a question that agree but for the second shortfall
pub record ButForSecond (s t : Standing) : Type 0 where
  pub same_number : s.number ≡ t.number
  pub same_limit : s.limit ≡ t.limit
  pub same_first : s.first ≡ t.first

-- a larger need, a larger shortfall
short-of : (n m c : ℤ) → n ≤ℤ m → max_z (pos 0) (n -ℤ c) ≤ℤ max_z (pos 0) (m -ℤ c)
short-of n m c h = let k = leaf n in let l = leaf m in let r = leaf c in by (search whole depth 20) (omega facts)

takes_nothing : (z : ℤ) → lt_z z (pos 0) ≡ false → takes_away z ≡ pos 0
unfolding takes_away
takes_nothing z h = let l = leaf z in by (search whole depth 20) (omega (facts, told h (search known depth 20) (omega facts)))

takes_some : (z : ℤ) → pos 0 ≤ℤ takes_away z
unfolding takes_away
takes_some z = let l = leaf z in by (search whole depth 20) (omega facts)

larger : (x y z : ℤ) → x ≤ℤ y → y ≤ℤ z → x ≤ℤ z
larger x y z h i = let k = leaf x in let l = leaf y in let m = leaf z in by (search whole depth 20) (omega facts)

above : (z : ℤ) → lt_z (pos 0) z ≡ true → lt_z z (pos 0) ≡ false
above z h = let l = leaf z in by (search whole depth 20) (omega (facts, told h (search known depth 20) (omega facts)))

none-short : (c : ℤ) → pos 1 ≤ℤ c → pos 1 ≤ℤ max_z (pos 0) (pos 0 -ℤ c) → ⊥
none-short c h i =
    let k = leaf c in let j = is_true (le_z (pos 1) (max_z (pos 0) (pos 0 -ℤ c))) i.le in
    omega (facts, told j (search known depth 20) (omega facts))

module _ (a : Account) where
  -- limit and first shortfall, of F and L
  pub but_for_second : ButForSecond (standing_of a) (former_standing a)
  unfolding standing_of
  but_for_second = record { same_number = refl; same_limit = refl; same_first = refl }

  -- everything of an F
  pub broker_as_it_was : is_broker a ≡ true → standing_of a ≡ former_standing a
  unfolding standing_of second_shortfall former_second_shortfall
  broker_as_it_was h = rw h

  by_need : next_day_need a ≡ former_need a → standing_of a ≡ former_standing a
  unfolding standing_of second_shortfall former_second_shortfall
  by_need h = rw h

  -- the need is as it was where due 1 is to be paid; else it was 0 (and is what due 0 takes away: `need-of-today`)
  pub need_as_it_was : lt_z a.due1 (pos 0) ≡ true → next_day_need a ≡ former_need a
  unfolding next_day_need former_need
  need_as_it_was h = rw h

  pub need_was_none : lt_z a.due1 (pos 0) ≡ false → former_need a ≡ pos 0
  unfolding former_need
  need_was_none h = rw h

  -- everything of an L that is to pay by due 1, or not by due 0
  pub paying_tomorrow_as_it_was : lt_z a.due1 (pos 0) ≡ true → standing_of a ≡ former_standing a
  paying_tomorrow_as_it_was h = by_need (need_as_it_was h)

  pub receiving-today_as_it_was : lt_z a.due0 (pos 0) ≡ false → standing_of a ≡ former_standing a
  receiving-today_as_it_was h =
      ⊎_elim paying_tomorrow_as_it_was (λ i. by_need (need-of-today a i ∙ takes_nothing a.due0 h ∙ sym (need_was_none i)))
      (true_or_false (lt_z a.due1 (pos 0)))

  need-not-less : former_need a ≤ℤ next_day_need a
  need-not-less =
      ⊎_elim (λ h. rw (need_as_it_was h) (same (former_need a))) (λ h. rw (need-of-today a h, need_was_none h) (takes_some a.due0))
      (true_or_false (lt_z a.due1 (pos 0)))

  -- nobody is asked for less than before
  pub second-not-less : former_second_shortfall a ≤ℤ second_shortfall a
  unfolding second_shortfall former_second_shortfall
  second-not-less =
      ⊎_elim (λ h. rw h (same (max_z (pos 0) (takes_away a.due0 -ℤ a.cash)))) (λ h. rw h (short-of (former_need a) (next_day_need a) a.cash need-not-less))
      (true_or_false (is_broker a))

  by_cash : is_broker a ≡ false → former_need a ≡ pos 0 → former_second_shortfall a ≡ max_z (pos 0) (pos 0 -ℤ a.cash)
  unfolding former_second_shortfall
  by_cash h i = rw (h, i)

  -- by the former need nobody had a second shortfall and a limit above 0 (by the present one only such an L can: `ShortfallLaws`)
  pub formerly_not-both : account_ok a ≡ true → pos 1 ≤ℤ limit_of a → pos 1 ≤ℤ former_second_shortfall a → ⊥
  formerly_not-both ok free short =
      let c = limit_cash a (pos 1) (same (pos 1)) free in
      let t = short-and_free a ok free (larger (pos 1) (former_second_shortfall a) (second_shortfall a) short second-not-less) in
      none-short a.cash c (rw (by_cash t.0 (need_was_none (above a.due1 t.2))) at short)

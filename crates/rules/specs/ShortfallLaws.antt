-- What a second shortfall is (source 001, article 6): the least payment that leaves cash at or above 0 now and after the transfer of due 0, and of an L after
-- that of due 1 too, of any account, sound or not. Of sound ones only an L that is to pay by due 0 and receive by due 1 can have both a second shortfall and a
-- limit above 0. Assumes nothing.
use Rattle.std.specs.Prelude.{◌≡◌, true, false, ℤ, pos, ◌+ℤ◌, ◌-ℤ◌, ◌≤ℤ◌}
use Rattle.std.proofs.Math.Logic.{⊎_elim}
use Rattle.std.specs.Int.Signed.{le_z, lt_z}
use Rattle.whole.specs.Number.{max_z, takes_away}
use Rattle.whole.specs.Signs.{is_true}
use Rattle.whole.specs.Reps.{leaf}
use Rattle.whole.specs.Whole.{whole, known, facts, by, told}
use Rattle.whole.specs.Tests.{clash, true_or_false, is_false}
use Rattle.rules.specs.Account.{is_broker, account_ok, next_day_need, second_shortfall, excess_two, limit_of}
use Rattle.rules.specs.AccountLaws.{account_facts}
use Rattle.rules.specs.AccountCallsLaws.{limit_cash, limit_two}
use Rattle.rules.specs.declared.Account.{Account}

-- a payment of x yen is enough
pub record Enough (a : Account) (x : ℤ) : Type 0 where
  pub now : pos 0 ≤ℤ (a.cash +ℤ x)
  pub after_due0 : pos 0 ≤ℤ (a.cash +ℤ x +ℤ a.due0)
  pub after_due1 : is_broker a ≡ false → pos 0 ≤ℤ (a.cash +ℤ x +ℤ a.due0 +ℤ a.due1)

pub same : (z : ℤ) → z ≤ℤ z
same z = let l = leaf z in by (search whole depth 20) (omega facts)

is_le : (y z : ℤ) → y ≤ℤ z → le_z y z ≡ true
is_le y z h = is_true (le_z y z) h.le

-- of an F by cash c and due 0 d, of an L by due 1 e too
module _ (c d : ℤ) where
  F-now : pos 0 ≤ℤ (c +ℤ max_z (pos 0) (takes_away d -ℤ c))
  unfolding takes_away
  F-now = let k = leaf c in let l = leaf d in by (search whole depth 20) (omega facts)

  F-after : pos 0 ≤ℤ (c +ℤ max_z (pos 0) (takes_away d -ℤ c) +ℤ d)
  unfolding takes_away
  F-after = let k = leaf c in let l = leaf d in by (search whole depth 20) (omega facts)

  F-least : (x : ℤ) → pos 0 ≤ℤ x → le_z (pos 0) (c +ℤ x +ℤ d) ≡ true → le_z (pos 0) (c +ℤ x) ≡ true → max_z (pos 0) (takes_away d -ℤ c) ≤ℤ x
  unfolding takes_away
  F-least x h i j =
      let k = leaf c in let l = leaf d in let m = leaf x in
      by (search whole depth 20) (omega (facts, told i (search known depth 20) (omega facts), told j (search known depth 20) (omega facts)))

module _ (c d e : ℤ) where
  L-now : pos 0 ≤ℤ (c +ℤ max_z (pos 0) (max_z (pos 0) (takes_away e -ℤ d) -ℤ c))
  unfolding takes_away
  L-now = let k = leaf c in let l = leaf d in let m = leaf e in by (search whole depth 20) (omega facts)

  L-after : pos 0 ≤ℤ (c +ℤ max_z (pos 0) (max_z (pos 0) (takes_away e -ℤ d) -ℤ c) +ℤ d)
  unfolding takes_away
  L-after = let k = leaf c in let l = leaf d in let m = leaf e in by (search whole depth 20) (omega facts)

  L-last : pos 0 ≤ℤ (c +ℤ max_z (pos 0) (max_z (pos 0) (takes_away e -ℤ d) -ℤ c) +ℤ d +ℤ e)
  unfolding takes_away
  L-last = let k = leaf c in let l = leaf d in let m = leaf e in by (search whole depth 20) (omega facts)

  L-least : (x : ℤ) → pos 0 ≤ℤ x → le_z (pos 0) (c +ℤ x) ≡ true → le_z (pos 0) (c +ℤ x +ℤ d) ≡ true → le_z (pos 0) (c +ℤ x +ℤ d +ℤ e) ≡ true
      → max_z (pos 0) (max_z (pos 0) (takes_away e -ℤ d) -ℤ c) ≤ℤ x
  unfolding takes_away
  L-least x h i j o =
      let k = leaf c in let l = leaf d in let m = leaf e in let n = leaf x in
      by (search whole depth 20)
      (omega (facts, told i (search known depth 20) (omega facts), told j (search known depth 20) (omega facts), told o (search known depth 20) (omega facts)))

module _ (a : Account) where
  pub second-enough : Enough a (second_shortfall a)
  unfolding second_shortfall next_day_need
  second-enough =
      ⊎_elim (λ h. rw h (record { now = F-now a.cash a.due0; after_due0 = F-after a.cash a.due0; after_due1 = λ i. clash h i }))
      (λ h. rw h (record {
        now = L-now a.cash a.due0 a.due1;
        after_due0 = L-after a.cash a.due0 a.due1;
        after_due1 = λ i. L-last a.cash a.due0 a.due1;
      }))
      (true_or_false (is_broker a))

  pub second-least : (x : ℤ) → pos 0 ≤ℤ x → Enough a x → second_shortfall a ≤ℤ x
  unfolding second_shortfall next_day_need
  second-least x h e =
      let i = is_le (pos 0) (a.cash +ℤ x) e.now in let j = is_le (pos 0) (a.cash +ℤ x +ℤ a.due0) e.after_due0 in
      ⊎_elim (λ b. rw b (F-least a.cash a.due0 x h j i))
      (λ b. rw b (L-least a.cash a.due0 a.due1 x h i j (is_le (pos 0) (a.cash +ℤ x +ℤ a.due0 +ℤ a.due1) (e.after_due1 b))))
      (true_or_false (is_broker a))

kept : (c : ℤ) → pos 1 ≤ℤ c → pos 0 ≤ℤ (c +ℤ pos 0)
kept c h = let k = leaf c in by (search whole depth 20) (omega facts)

-- by cash c, due 0 d, due 1 e and margin m: what an excess two above 0 leaves
module _ (c d e m : ℤ) (h : pos 1 ≤ℤ c) (i : pos 0 ≤ℤ m) where
  F_free : le_z (pos 1) (c +ℤ d -ℤ m) ≡ true → pos 0 ≤ℤ (c +ℤ pos 0 +ℤ d)
  F_free t = let k = leaf c in let l = leaf d in let n = leaf m in by (search whole depth 20) (omega (facts, told t (search known depth 20) (omega facts)))

  L_free : le_z (pos 1) (c +ℤ e -ℤ m -ℤ takes_away d) ≡ true → lt_z (pos 0) e ≡ false → pos 0 ≤ℤ (c +ℤ pos 0 +ℤ d)
  unfolding takes_away
  L_free t u =
      let k = leaf c in let l = leaf d in let o = leaf e in let n = leaf m in
      by (search whole depth 20) (omega (facts, told t (search known depth 20) (omega facts), told u (search known depth 20) (omega facts)))

  L_free_both : le_z (pos 1) (c +ℤ e -ℤ m -ℤ takes_away d) ≡ true → pos 0 ≤ℤ (c +ℤ pos 0 +ℤ d +ℤ e)
  unfolding takes_away
  L_free_both t =
      let k = leaf c in let l = leaf d in let o = leaf e in let n = leaf m in
      by (search whole depth 20) (omega (facts, told t (search known depth 20) (omega facts)))

  not_paying : lt_z d (pos 0) ≡ false → pos 0 ≤ℤ (c +ℤ pos 0 +ℤ d)
  not_paying t = let k = leaf c in let l = leaf d in by (search whole depth 20) (omega (facts, told t (search known depth 20) (omega facts)))

module _ (a : Account) (ok : account_ok a ≡ true) (free : pos 1 ≤ℤ limit_of a) (short : pos 1 ≤ℤ second_shortfall a) where
  some : pos 1 ≤ℤ a.cash
  some = limit_cash a (pos 1) (same (pos 1)) free

  two : le_z (pos 1) (excess_two a) ≡ true
  two = is_le (pos 1) (excess_two a) (limit_two a (pos 1) (same (pos 1)) free)

  low : pos 0 ≤ℤ a.margin
  low = (account_facts a ok).margin_low

  needed : {A : Type 0} → Enough a (pos 0) → A
  needed e = absurd (let l = leaf (second_shortfall a) in let m = second-least a (pos 0) (same (pos 0)) e in omega facts)

  enough : pos 0 ≤ℤ (a.cash +ℤ pos 0 +ℤ a.due0) → (is_broker a ≡ false → pos 0 ≤ℤ (a.cash +ℤ pos 0 +ℤ a.due0 +ℤ a.due1)) → Enough a (pos 0)
  enough h i = record { now = kept a.cash some; after_due0 = h; after_due1 = i }

  two-F : is_broker a ≡ true → le_z (pos 1) (a.cash +ℤ a.due0 -ℤ a.margin) ≡ true
  unfolding excess_two
  two-F h = rw h at two

  two-L : is_broker a ≡ false → le_z (pos 1) (a.cash +ℤ a.due1 -ℤ a.margin -ℤ takes_away a.due0) ≡ true
  unfolding excess_two
  two-L h = rw h at two

  last : is_broker a ≡ false → pos 0 ≤ℤ (a.cash +ℤ pos 0 +ℤ a.due0 +ℤ a.due1)
  last h = L_free_both a.cash a.due0 a.due1 a.margin some low (two-L h)

  is-provider : is_broker a ≡ false
  is-provider = is_false (is_broker a) (λ h. needed (enough (F_free a.cash a.due0 a.due1 a.margin some low (two-F h)) last))

  pays_today : lt_z a.due0 (pos 0) ≡ true
  pays_today =
      ⊎_elim (λ h. h) (λ h. needed (enough (not_paying a.cash a.due0 a.due1 a.margin some low h) last)) (true_or_false (lt_z a.due0 (pos 0)))

  receives_tomorrow : lt_z (pos 0) a.due1 ≡ true
  receives_tomorrow =
      ⊎_elim (λ h. h) (λ h. needed (enough (L_free a.cash a.due0 a.due1 a.margin some low (two-L is-provider) h) last))
      (true_or_false (lt_z (pos 0) a.due1))

  pub short-and_free : (is_broker a ≡ false) × (lt_z a.due0 (pos 0) ≡ true) × (lt_z (pos 0) a.due1 ≡ true)
  short-and_free = (is-provider, pays_today, receives_tomorrow)

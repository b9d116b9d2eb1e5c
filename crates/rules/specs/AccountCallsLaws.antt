-- What the calls on one account keep. A sound record stays sound; a refusal changes nothing; a deposit and a withdrawal change cash alone, a
-- guarantee call guarantee and cap alone; a withdrawal is taken exactly up to the limit, and then leaves cash at or above 0. Assumes nothing.
use Rattle.std.specs.Prelude.{◌≡◌, refl, true, ◌&&◌, ◌≤◌, leb, ℤ, pos, nat_abs, ◌+ℤ◌, ◌-ℤ◌, ◌≤ℤ◌}
use Rattle.std.proofs.Common.{arith}
use Rattle.std.specs.Int.Signed.{le_z}
use borrow.Author.Tests.{leb-true, le-leb}
use Rattle.whole.specs.Number.{min_z, max_z}
use Rattle.whole.specs.Signs.{is_true}
use Rattle.whole.specs.Reps.{leaf}
use Rattle.whole.specs.Whole.{whole, known, facts, by, told, true_le}
use Rattle.whole.specs.Tests.{both, in-range, abs_add, unless-both}
use Rattle.rules.specs.Sizes.{amount_ok, most_gross, most_amount}
use Rattle.rules.specs.Account.{is_broker, gross_of, account_ok, excess_one, excess_two, limit_of}
use Rattle.rules.specs.AccountLaws.{account_tests, account-ok}
use Rattle.rules.specs.ProductLaws.{at_least}
use Rattle.rules.specs.AccountCalls.{Taken, with_cash, with_guarantee, transferred, taken, deposited, withdrawn, guaranteed, guarantee_ok}
use Rattle.rules.specs.declared.Account.{Account}

-- ---- the limit

-- never below 0
pub limit_low : (a : Account) → pos 0 ≤ℤ limit_of a
unfolding limit_of
limit_low a = let l = leaf (min_z a.cash (min_z (excess_one a) (excess_two a))) in by (search whole depth 20) (omega facts)

-- where it is above 0, it is at most cash
pub limit_cash : (a : Account) (x : ℤ) → pos 1 ≤ℤ x → x ≤ℤ limit_of a → x ≤ℤ a.cash
unfolding limit_of
limit_cash a x h i =
    let l = leaf (min_z (excess_one a) (excess_two a)) in let m = leaf a.cash in let n = leaf x in
    let j : le_z x (max_z (pos 0) (min_z a.cash (min_z (excess_one a) (excess_two a)))) ≡ true = is_true (le_z x (limit_of a)) i.le in
    by (search whole depth 20) (omega (facts, told j (search known depth 20) (omega facts)))

-- and at most excess two
pub limit_two : (a : Account) (x : ℤ) → pos 1 ≤ℤ x → x ≤ℤ limit_of a → x ≤ℤ excess_two a
unfolding limit_of
limit_two a x h i =
    let l = leaf (excess_one a) in let m = leaf (excess_two a) in let k = leaf a.cash in let n = leaf x in
    let j : le_z x (max_z (pos 0) (min_z a.cash (min_z (excess_one a) (excess_two a)))) ≡ true = is_true (le_z x (limit_of a)) i.le in
    by (search whole depth 20) (omega (facts, told j (search known depth 20) (omega facts)))

-- where cash is not below 0, it is at most cash
pub limit_most : (a : Account) → pos 0 ≤ℤ a.cash → limit_of a ≤ℤ a.cash
unfolding limit_of
limit_most a h =
    let l = leaf (min_z (excess_one a) (excess_two a)) in let m = leaf a.cash in
    by (search whole depth 20) (omega facts)

-- ---- records that differ from a sound one in a few figures

pub with_cash-sound : (a : Account) (z : ℤ) → account_ok a ≡ true → leb (gross_of (with_cash a z)) most_gross ≡ true → account_ok (with_cash a z) ≡ true
with_cash-sound a z e h =
    let t = account_tests a e in
    account-ok (with_cash a z) (record { kind_ok = t.kind_ok; guarantee-ok = t.guarantee-ok; cap_ok = t.cap_ok; margin_ok = t.margin_ok; gross_ok = h })

pub with_guarantee-sound : (a : Account) (g c : ℤ) → account_ok a ≡ true → is_broker a ≡ true → guarantee_ok g ≡ true → guarantee_ok c ≡ true → account_ok (with_guarantee a g c) ≡ true
with_guarantee-sound a g c e f h i =
    let t = account_tests a e in
    account-ok (with_guarantee a g c) (record { kind_ok = t.kind_ok; guarantee-ok = rw f h; cap_ok = rw f i; margin_ok = t.margin_ok; gross_ok = t.gross_ok })

-- ---- a transfer

-- gross cannot rise by it
pub transferred-keeps : (a : Account) → account_ok a ≡ true → account_ok (transferred a) ≡ true
transferred-keeps a e =
    let t = account_tests a e in let g = leb-true (gross_of a) most_gross t.gross_ok in
    account-ok (transferred a) (record {
      kind_ok = t.kind_ok;
      guarantee-ok = t.guarantee-ok;
      cap_ok = t.cap_ok;
      margin_ok = t.margin_ok;
      gross_ok = le-leb (gross_of (transferred a)) most_gross (omega (arith, abs_add a.cash a.due0));
    })

-- ---- a deposit

module _ (a : Account) (x : ℤ) where
  pub deposited-keeps : account_ok a ≡ true → account_ok (deposited a x).account ≡ true
  unfolding deposited
  deposited-keeps e =
      unless-both {A = Taken} (λ t. account_ok t.account ≡ true) (amount_ok x) _ _ (λ _. e)
      (λ _. unless-both {A = Taken} (λ t. account_ok t.account ≡ true) (leb (gross_of (with_cash a (a.cash +ℤ x))) most_gross) _ _ (λ _. e) (with_cash-sound a (a.cash +ℤ x) e))

  -- taken exactly where the amount is in range and gross stays in range
  pub deposited-taken : amount_ok x ≡ true → gross_of (with_cash a (a.cash +ℤ x)) ≤ most_gross → deposited a x ≡ taken (a.cash +ℤ x) (with_cash a (a.cash +ℤ x))
  unfolding deposited
  deposited-taken h i = rw (h, le-leb (gross_of (with_cash a (a.cash +ℤ x))) most_gross i)

  pub deposited-only : (deposited a x).number ≡ 0 → (amount_ok x ≡ true) × (gross_of (with_cash a (a.cash +ℤ x)) ≤ most_gross)
  unfolding deposited
  deposited-only =
      unless-both {A = Taken} (λ t. t.number ≡ 0 → (amount_ok x ≡ true) × (gross_of (with_cash a (a.cash +ℤ x)) ≤ most_gross)) (amount_ok x) _ _ (λ _ z. absurd (omega arith))
      (λ h. unless-both {A = Taken} (λ t. t.number ≡ 0 → (amount_ok x ≡ true) × (gross_of (with_cash a (a.cash +ℤ x)) ≤ most_gross)) (leb (gross_of (with_cash a (a.cash +ℤ x))) most_gross) _ _ (λ _ z. absurd (omega arith)) (λ i _. (h, leb-true _ _ i)))

  -- it changes cash alone
  pub deposited-changes : (deposited a x).account ≡ with_cash a (deposited a x).account.cash
  unfolding deposited
  deposited-changes =
      unless-both {A = Taken} (λ t. t.account ≡ with_cash a t.account.cash) (amount_ok x) _ _ (λ _. refl)
      (λ _. unless-both {A = Taken} (λ t. t.account ≡ with_cash a t.account.cash) (leb (gross_of (with_cash a (a.cash +ℤ x))) most_gross) _ _ (λ _. refl) (λ _. refl))

  pub deposited-refused : ((deposited a x).number ≡ 0 → ⊥) → (deposited a x).account ≡ a
  unfolding deposited
  deposited-refused =
      unless-both {A = Taken} (λ t. (t.number ≡ 0 → ⊥) → t.account ≡ a) (amount_ok x) _ _ (λ _ _. refl)
      (λ _. unless-both {A = Taken} (λ t. (t.number ≡ 0 → ⊥) → t.account ≡ a) (leb (gross_of (with_cash a (a.cash +ℤ x))) most_gross) _ _ (λ _ _. refl) (λ _ h. absurd (h refl)))

-- ---- a withdrawal

module _ (a : Account) (x : ℤ) where
  -- what is in range and at most the limit is at most cash
  pub covered : amount_ok x ≡ true → x ≤ℤ limit_of a → x ≤ℤ a.cash
  covered h i = limit_cash a x (at_least 1 most_amount x (in-range 1 most_amount x h)) i

  -- taken exactly where the amount is in range and at most the limit
  pub withdrawn-taken : amount_ok x ≡ true → x ≤ℤ limit_of a → withdrawn a x ≡ taken (a.cash -ℤ x) (with_cash a (a.cash -ℤ x))
  unfolding withdrawn
  withdrawn-taken h i = rw (h, is_true (le_z x (limit_of a)) i.le)

  pub withdrawn-only : (withdrawn a x).number ≡ 0 → (amount_ok x ≡ true) × (x ≤ℤ limit_of a)
  unfolding withdrawn
  withdrawn-only =
      unless-both {A = Taken} (λ t. t.number ≡ 0 → (amount_ok x ≡ true) × (x ≤ℤ limit_of a)) (amount_ok x) _ _ (λ _ z. absurd (omega arith))
      (λ h. unless-both {A = Taken} (λ t. t.number ≡ 0 → (amount_ok x ≡ true) × (x ≤ℤ limit_of a)) (le_z x (limit_of a)) _ _ (λ _ z. absurd (omega arith)) (λ i _. (h, true_le x (limit_of a) i)))

  -- the new cash, which is not below 0
  pub withdrawn-cash : (withdrawn a x).number ≡ 0 → ((withdrawn a x).account ≡ with_cash a (a.cash -ℤ x)) × (pos 0 ≤ℤ (a.cash -ℤ x))
  withdrawn-cash z =
      let h = withdrawn-only z in let i = covered h.0 h.1 in let l = leaf a.cash in let m = leaf x in
      (rw (withdrawn-taken h.0 h.1), by (search whole depth 20) (omega facts))

  fewer : amount_ok x ≡ true → x ≤ℤ limit_of a → nat_abs (a.cash -ℤ x) ≤ nat_abs a.cash
  fewer h i =
      let l = leaf a.cash in let m = leaf x in let j = covered h i in let k = at_least 1 most_amount x (in-range 1 most_amount x h) in
      by (search whole depth 20) (omega facts)

  pub withdrawn-keeps : account_ok a ≡ true → account_ok (withdrawn a x).account ≡ true
  unfolding withdrawn
  withdrawn-keeps e =
      let g = leb-true (gross_of a) most_gross (account_tests a e).gross_ok in
      unless-both {A = Taken} (λ t. account_ok t.account ≡ true) (amount_ok x) _ _ (λ _. e)
      (λ h. unless-both {A = Taken} (λ t. account_ok t.account ≡ true) (le_z x (limit_of a)) _ _ (λ _. e)
      (λ i. with_cash-sound a (a.cash -ℤ x) e (le-leb (gross_of (with_cash a (a.cash -ℤ x))) most_gross (omega (arith, fewer h (true_le x (limit_of a) i))))))

  -- it changes cash alone
  pub withdrawn-changes : (withdrawn a x).account ≡ with_cash a (withdrawn a x).account.cash
  unfolding withdrawn
  withdrawn-changes =
      unless-both {A = Taken} (λ t. t.account ≡ with_cash a t.account.cash) (amount_ok x) _ _ (λ _. refl)
      (λ _. unless-both {A = Taken} (λ t. t.account ≡ with_cash a t.account.cash) (le_z x (limit_of a)) _ _ (λ _. refl) (λ _. refl))

  pub withdrawn-refused : ((withdrawn a x).number ≡ 0 → ⊥) → (withdrawn a x).account ≡ a
  unfolding withdrawn
  withdrawn-refused =
      unless-both {A = Taken} (λ t. (t.number ≡ 0 → ⊥) → t.account ≡ a) (amount_ok x) _ _ (λ _ _. refl)
      (λ _. unless-both {A = Taken} (λ t. (t.number ≡ 0 → ⊥) → t.account ≡ a) (le_z x (limit_of a)) _ _ (λ _ _. refl) (λ _ h. absurd (h refl)))

-- ---- a guarantee call

module _ (a : Account) (g c : ℤ) where
  pub guaranteed-keeps : account_ok a ≡ true → account_ok (guaranteed a g c).account ≡ true
  unfolding guaranteed
  guaranteed-keeps e =
      unless-both {A = Taken} (λ t. account_ok t.account ≡ true) (guarantee_ok g && guarantee_ok c) _ _ (λ _. e)
      (λ h. unless-both {A = Taken} (λ t. account_ok t.account ≡ true) (is_broker a) _ _ (λ _. e)
      (λ f. let i = both (guarantee_ok g) (guarantee_ok c) h in with_guarantee-sound a g c e f i.0 i.1))

  -- it changes guarantee and cap alone
  pub guaranteed-changes : (guaranteed a g c).account ≡ with_guarantee a (guaranteed a g c).account.guarantee (guaranteed a g c).account.cap
  unfolding guaranteed
  guaranteed-changes =
      unless-both {A = Taken} (λ t. t.account ≡ with_guarantee a t.account.guarantee t.account.cap) (guarantee_ok g && guarantee_ok c) _ _ (λ _. refl)
      (λ _. unless-both {A = Taken} (λ t. t.account ≡ with_guarantee a t.account.guarantee t.account.cap) (is_broker a) _ _ (λ _. refl) (λ _. refl))

  pub guaranteed-refused : ((guaranteed a g c).number ≡ 0 → ⊥) → (guaranteed a g c).account ≡ a
  unfolding guaranteed
  guaranteed-refused =
      unless-both {A = Taken} (λ t. (t.number ≡ 0 → ⊥) → t.account ≡ a) (guarantee_ok g && guarantee_ok c) _ _ (λ _ _. refl)
      (λ _. unless-both {A = Taken} (λ t. (t.number ≡ 0 → ⊥) → t.account ≡ a) (is_broker a) _ _ (λ _ _. refl) (λ _ h. absurd (h refl)))

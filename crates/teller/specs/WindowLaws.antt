-- What holds of a call at the teller window, of a deposit and of a withdrawal alike (01, "The ledger's words" and "Numbers returned"). Assumes nothing.
use Rattle.std.specs.Prelude.{◌≡◌, refl, true, false, ℤ, pos}
use Rattle.whole.specs.Tests.{unless-both}
use Rattle.whole.specs.Number.{unless}
use Rattle.rules.specs.Account.{account_ok}
use Rattle.rules.specs.AccountCalls.{Taken, with_cash, refused_at, deposited, withdrawn, teller_deposit, teller_withdrawal}
use Rattle.rules.specs.AccountCallsLaws.{deposited-keeps, deposited-changes, deposited-refused, withdrawn-keeps, withdrawn-changes, withdrawn-refused}
use Rattle.rules.specs.declared.Account.{Account}
use Rattle.teller.specs.WindowRule.{RecordRule}

-- a window, over the day's rule for a sound account
pub record AtWindow (window day : RecordRule) : Type 0 where
  -- a record that is not sound is refused with 1 and left as it was
  pub unsound : (a : Account) (x : ℤ) → account_ok a ≡ false → window a x ≡ refused_at 1 (pos 0) a
  -- on a sound record the window does what the day's call does
  pub sound : (a : Account) (x : ℤ) → account_ok a ≡ true → window a x ≡ day a x
  -- a sound record stays sound
  pub keeps : (a : Account) (x : ℤ) → account_ok a ≡ true → account_ok (window a x).account ≡ true
  -- nothing lent is altered by a refusal
  pub refused : (a : Account) (x : ℤ) → ((window a x).number ≡ 0 → ⊥) → (window a x).account ≡ a
  -- it changes cash alone
  pub changes : (a : Account) (x : ℤ) → (window a x).account ≡ with_cash a (window a x).account.cash

-- each follows from its like for the day's rule
at_window : (day : RecordRule)
    → ((a : Account) (x : ℤ) → account_ok a ≡ true → account_ok (day a x).account ≡ true)
    → ((a : Account) (x : ℤ) → ((day a x).number ≡ 0 → ⊥) → (day a x).account ≡ a)
    → ((a : Account) (x : ℤ) → (day a x).account ≡ with_cash a (day a x).account.cash)
    → AtWindow (λ a x. unless (account_ok a) (refused_at 1 (pos 0) a) (day a x)) day
at_window day keeps refused changes = record {
  unsound = λ a x e. rw e;
  sound = λ a x e. rw e;
  keeps = λ a x e. unless-both {A = Taken} (λ t. account_ok t.account ≡ true) (account_ok a) _ _ (λ _. e) (keeps a x);
  refused = λ a x. unless-both {A = Taken} (λ t. (t.number ≡ 0 → ⊥) → t.account ≡ a) (account_ok a) _ _ (λ _ _. refl) (λ _. refused a x);
  changes = λ a x. unless-both {A = Taken} (λ t. t.account ≡ with_cash a t.account.cash) (account_ok a) _ _ (λ _. refl) (λ _. changes a x);
}

pub deposit-at_window : AtWindow teller_deposit deposited
unfolding teller_deposit
deposit-at_window = at_window deposited deposited-keeps deposited-refused deposited-changes

pub withdrawal-at_window : AtWindow teller_withdrawal withdrawn
unfolding teller_withdrawal
withdrawal-at_window = at_window withdrawn withdrawn-keeps withdrawn-refused withdrawn-changes

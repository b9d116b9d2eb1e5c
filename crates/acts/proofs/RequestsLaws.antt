-- The four requests about one account are proper: what each puts is its account's cash, or guarantee and cap, and the record stays sound, as
-- crate `rules` proves of the calls on a record. Assumes nothing.
use Rattle.std.specs.Prelude.{◌≡◌, refl, List, [], ◌∷◌, Bool, true, false, cond, ℕ, ◌≤◌, eqb, ℤ}
use Rattle.std.proofs.Common.{sym, ap, ◌∙◌, arith}
use Rattle.rules.specs.Account.{account_ok}
use Rattle.rules.specs.AccountCalls.{Taken, deposited, withdrawn, guaranteed}
use Rattle.rules.specs.AccountCallsLaws.{deposited-keeps, deposited-changes, withdrawn-keeps, withdrawn-changes, guaranteed-keeps, guaranteed-changes}
use Rattle.rules.specs.declared.Account.{Account}
use Rattle.places.specs.Place.{Put, acct, ◌≔◌}
use Rattle.places.specs.PlaceLaws.{Each}
use Rattle.acts.specs.Requests.{when_taken, deposit_act, withdraw_act, guarantee_act, question_act}
use Rattle.acts.proofs.OneAccount.{OwnPuts, InOrder, Proper}

-- ---- puts of the words 1 to 3 of an account, cash, guarantee and cap, are its own

own-none : (a : ℕ) → Each (OwnPuts a) []
own-none a = tt

own-word : (a i : ℕ) (v : ℤ) (us : List Put) → 1 ≤ i → i ≤ 3 → Each (OwnPuts a) us → Each (OwnPuts a) ((acct a i ≔ v) ∷ us)
own-word a i v us l u h = ((refl, l, u), h)

ruleset owns = (own-none, own-word, arith)

-- ---- what a call on the record puts: its list, or nothing

either : (P : List Put → Type 0) (b : Bool) (us : List Put) → P us → P [] → P (cond b us [])
either P true us h z = h
either P false us h z = z

module _ (t : Taken) (us : List Put) where
  taken-puts : (P : List Put → Type 0) → P us → P [] → P (when_taken t us).puts
  taken-puts P h z = either P (eqb t.number 0) us h z

  taken_own : (a : ℕ) → Each (OwnPuts a) us → Each (OwnPuts a) (when_taken t us).puts
  taken_own a h = taken-puts (Each (OwnPuts a)) h tt

  taken_order : (r : Account) → account_ok r ≡ true → InOrder r us → InOrder r (when_taken t us).puts
  taken_order r e h = taken-puts (InOrder r) h e

-- ---- the four

pub deposit_proper : (x : ℤ) → Proper (deposit_act x)
deposit_proper x =
    record {
      own_puts = λ a r. taken_own (deposited r x) _ a (search owns depth 5);
      in_order = λ a r e. taken_order (deposited r x) _ r e (ap account_ok (sym (deposited-changes r x)) ∙ deposited-keeps r x e);
    }

pub withdraw_proper : (x : ℤ) → Proper (withdraw_act x)
withdraw_proper x =
    record {
      own_puts = λ a r. taken_own (withdrawn r x) _ a (search owns depth 5);
      in_order = λ a r e. taken_order (withdrawn r x) _ r e (ap account_ok (sym (withdrawn-changes r x)) ∙ withdrawn-keeps r x e);
    }

pub guarantee_proper : (x y : ℤ) → Proper (guarantee_act x y)
guarantee_proper x y =
    record {
      own_puts = λ a r. taken_own (guaranteed r x y) _ a (search owns depth 5);
      in_order = λ a r e. taken_order (guaranteed r x y) _ r e (ap account_ok (sym (guaranteed-changes r x y)) ∙ guaranteed-keeps r x y e);
    }

pub question_proper : Proper question_act
question_proper = record { own_puts = λ a r. tt; in_order = λ a r e. e }

-- A withdrawal is paid exactly when it may be: the words are a sound ledger, the account is one of its own, the amount is in range and at most
-- the limit of the account's record now. Both ways, of the call on words. Assumes nothing.
use Rattle.std.specs.Prelude.{◌≡◌, refl, List, Bool, true, false, ℕ, ℤ, nat_abs, ◌-ℤ◌}
use Rattle.std.proofs.Common.{sym, ap, ◌∙◌, arith}
use Rattle.whole.specs.Number.{is_one_of, unless}
use Rattle.rules.specs.AccountCallsLaws.{withdrawn-taken, withdrawn-only}
use Rattle.places.specs.Place.{Layout, put, cash}
use Rattle.places.specs.Act.{shape_of}
use Rattle.places.specs.ActLaws.{performed, not_performed}
use Rattle.soundness.specs.Sound.{sound, places_ok}
use Rattle.soundness.specs.Perform.{replies, refuse, perform}
use Rattle.acts.specs.Requests.{withdraw_act, withdraw_rule}
use Rattle.acts.specs.WithdrawalLaws.{named, Payable}

module _ (L : Layout) (W : List ℤ) (a x : ℤ) where
  -- then it is paid: the reply is the new cash, which is put in its place, and nothing else changes
  pub paid : Payable L W a x → perform L W (withdraw_rule a x) ≡ (replies 0 ((named L W a).cash -ℤ x), put L (shape_of W) W (cash (nat_abs a)) ((named L W a).cash -ℤ x))
  paid p =
      performed places_ok L W (refuse 1) (withdraw_rule a x) p.sound_words
      ∙ rw (p.one_of_them, withdrawn-taken (named L W a) x p.amount_in p.covered)

  -- and only then
  pub paid_only : (perform L W (withdraw_rule a x)).0.number ≡ 0 → Payable L W a x
  paid_only = go (sound L W) refl
    where
      taken : sound L W ≡ true → (t : Bool) → is_one_of (shape_of W).n a ≡ t
          → (unless t (refuse 3) (withdraw_act x (nat_abs a) (named L W a))).answer.number ≡ 0 → Payable L W a x
      taken e true b z = let w = withdrawn-only (named L W a) x z in record { sound_words = e; one_of_them = b; amount_in = w.0; covered = w.1 }
      taken e false b z = absurd (omega arith)

      go : (t : Bool) → sound L W ≡ t → (perform L W (withdraw_rule a x)).0.number ≡ 0 → Payable L W a x
      go true e z = taken e (is_one_of (shape_of W).n a) refl (ap (λ r. r.0.number) (sym (performed places_ok L W (refuse 1) (withdraw_rule a x) e)) ∙ z)
      go false e z = let y : ◌≡◌ {A = ℕ} 1 0 = ap (λ r. r.0.number) (sym (not_performed places_ok L W (refuse 1) (withdraw_rule a x) e)) ∙ z in absurd (omega arith)

-- The ledger that is meant stays sound, call by call; what its functions behind the gate answer is what it performs; a close's lists
-- are its columns. Assumes nothing.
use Rattle.std.specs.Prelude.{◌≡◌, ℕ, zero, suc, ◌≤◌, ℤ, length, take, drop}
use Rattle.std.proofs.Math.Path.{refl, sym, ap}
use Rattle.std.proofs.Common.{◌∙◌}
use mathlib.Core.List.{List}
use Rattle.std.proofs.lemmas.List.Edits.{sets}
use Rattle.rules.specs.declared.Reply.{Reply}
use Rattle.rules.specs.declared.Standing.{Standing}
use Rattle.places.specs.declared.Shape.{Shape}
use Rattle.places.specs.Place.{get}
use Rattle.places.specs.Act.{finish}
use Rattle.places.specs.ActLaws.{performed_at}
use Rattle.places.specs.ByAccount.{by_account}
use Rattle.soundness.specs.Sound.{places_ok}
use Rattle.soundness.specs.SoundLaws.{Ledger}
use Rattle.soundness.specs.Perform.{refuse, refuse_question}
use Rattle.soundness.specs.Keep.{After, ledger_called}
use Rattle.acts.proofs.ActsKeep.{deposit-keeps, withdraw_keeps, guarantee-keeps, trade-keeps, begin-keeps, step_keeps}
use Rattle.acts.specs.Requests.{question_rule}
use Rattle.closing.proofs.CloseLaws.{close-keeps}
use Rattle.dayfile.specs.CallLines.{Call, deposit, withdrawal, guarantee, begin, step, trade, close, none, column}
use Rattle.lines.proofs.WriteLaws.{take_figures}
use Rattle.calls.specs.Ledger.{rule_of, the_ledger}

-- ---- a close's columns, each at the start of its list
pub column-length : (k p : ℕ) (v : List ℤ) → length (column k p v) ≡ p
column-length k zero v = refl
column-length k (suc p) v = ap suc (column-length k p (drop 4 v))

pub column-taken : (l : List ℤ) (k p : ℕ) (v X : List ℤ) → p ≤ length l → X ≡ sets l 0 (column k p v) → take p X ≡ column k p v
column-taken l k p v X h e = ap (take p) e ∙ take_figures l (column k p v) p (column-length k p v) h

-- ---- a sound ledger of the shape s
module _ (s : Shape) (W : List ℤ) (l : Ledger by_account s W) where
  call-keeps : (call : Call) → After by_account s W (rule_of call)
  call-keeps (deposit a x) = deposit-keeps by_account s W a x l
  call-keeps (withdrawal a x) = withdraw_keeps by_account s W a x l
  call-keeps (guarantee a new cap) = guarantee-keeps by_account s W a new cap l
  call-keeps begin = begin-keeps by_account s W l
  call-keeps step = step_keeps by_account s W l
  call-keeps (trade buyer seller product lots price) = trade-keeps by_account s W buyer seller product lots price l
  call-keeps (close prices weeks8 weeks104 lags) = close-keeps by_account s W prices weeks8 weeks104 lags l
  call-keeps none = l

  -- it stays one, whatever the call
  pub keeps : (call : Call) → Ledger by_account s (the_ledger.perform call W).1
  unfolding the_ledger
  keeps call = ledger_called by_account s W (rule_of call) (refuse 1) (the_ledger.perform call W).0 (the_ledger.perform call W).1 refl (λ _. call-keeps call) l

  -- what a function behind the gate did is what the call performs
  pub acted : (call : Call) {call' : Call} {r : Reply} {X : List ℤ} → call ≡ call' → (r, X) ≡ finish by_account s W (rule_of call s (get by_account s W)) → (r, X) ≡ the_ledger.perform call' W
  unfolding the_ledger
  acted call e h = h ∙ sym (performed_at places_ok by_account W (refuse 1) (rule_of call) s l) ∙ ap (λ (c : Call). the_ledger.perform c W) e

  pub asked : (a : ℤ) {r : Standing} → r ≡ (question_rule a s (get by_account s W)).answer → r ≡ the_ledger.question a W
  unfolding the_ledger
  asked a h = h ∙ sym (ap (λ (z : Standing × List ℤ). z.0) (performed_at places_ok by_account W (refuse_question 1) (question_rule a) s l))

-- Each call of the ledger leaves a ledger: of the same shape, and sound, whether it is taken or refused. In two forms: `..-safe` of the words of
-- a sound list, and `..-keeps` of a `Ledger`, the form that a proof about code has at hand (`ledger_called` of crate `soundness` takes it to the
-- words at a call's exit). Assumes nothing.
use Rattle.std.specs.Prelude.{◌≡◌, refl, List, true, ℤ}
use Rattle.places.specs.declared.Shape.{Shape}
use Rattle.places.specs.Place.{Layout, get}
use Rattle.places.specs.Act.{shape_of}
use Rattle.soundness.specs.Sound.{turn, sound}
use Rattle.soundness.specs.Perform.{refuse, refuse_question}
use Rattle.soundness.specs.SoundLaws.{Ledger}
use Rattle.soundness.specs.Keep.{Safe, safe_of, After, ledger-kept}
use Rattle.acts.specs.Requests.{deposit_act, withdraw_act, guarantee_act, question_act, deposit_rule, withdraw_rule, guarantee_rule, question_rule}
use Rattle.acts.specs.Trade.{trade_rule}
use Rattle.acts.specs.Run.{begin_rule, step_rule}
use Rattle.acts.proofs.OneAccount.{request_safe}
use Rattle.acts.proofs.RequestsLaws.{deposit_proper, withdraw_proper, guarantee_proper, question_proper}
use Rattle.acts.proofs.TradeLaws.{trading, trade-of}
use Rattle.acts.proofs.RunLaws.{beginning, stepping, begin-of}
use Rattle.acts.proofs.StepLaws.{step_of}

module _ (L : Layout) (W : List ℤ) (e : sound L W ≡ true) where
  pub deposit_safe : (a x : ℤ) → Safe L W (deposit_rule a x)
  deposit_safe a x = request_safe L W e (refuse 3) refl a (deposit_act x) (deposit_proper x)

  pub withdraw_safe : (a x : ℤ) → Safe L W (withdraw_rule a x)
  withdraw_safe a x = request_safe L W e (refuse 3) refl a (withdraw_act x) (withdraw_proper x)

  pub guarantee_safe : (a x y : ℤ) → Safe L W (guarantee_rule a x y)
  guarantee_safe a x y = request_safe L W e (refuse 3) refl a (guarantee_act x y) (guarantee_proper x y)

  pub question_safe : (a : ℤ) → Safe L W (question_rule a)
  question_safe a = request_safe L W e (refuse_question 3) refl a question_act question_proper

  pub trade_safe : (b c j q t : ℤ) → Safe L W (trade_rule b c j q t)
  trade_safe b c j q t = safe_of L W trading (trade_rule b c j q t) (trade-of L W e b c j q t)

  pub begin_safe : Safe L W begin_rule
  begin_safe = safe_of L W beginning begin_rule (begin-of L W e)

  pub step_safe : Safe L W step_rule
  step_safe = safe_of L W (stepping (turn (get L (shape_of W) W))) step_rule (step_of L W e)

module _ (L : Layout) (s : Shape) (W : List ℤ) where
  pub deposit-keeps : (a x : ℤ) → Ledger L s W → After L s W (deposit_rule a x)
  deposit-keeps a x = ledger-kept L s W (deposit_rule a x) (λ e. deposit_safe L W e a x)

  pub withdraw_keeps : (a x : ℤ) → Ledger L s W → After L s W (withdraw_rule a x)
  withdraw_keeps a x = ledger-kept L s W (withdraw_rule a x) (λ e. withdraw_safe L W e a x)

  pub guarantee-keeps : (a x y : ℤ) → Ledger L s W → After L s W (guarantee_rule a x y)
  guarantee-keeps a x y = ledger-kept L s W (guarantee_rule a x y) (λ e. guarantee_safe L W e a x y)

  pub question-keeps : (a : ℤ) → Ledger L s W → After L s W (question_rule a)
  question-keeps a = ledger-kept L s W (question_rule a) (λ e. question_safe L W e a)

  pub trade-keeps : (b c j q t : ℤ) → Ledger L s W → After L s W (trade_rule b c j q t)
  trade-keeps b c j q t = ledger-kept L s W (trade_rule b c j q t) (λ e. trade_safe L W e b c j q t)

  pub begin-keeps : Ledger L s W → After L s W begin_rule
  begin-keeps = ledger-kept L s W begin_rule (begin_safe L W)

  pub step_keeps : Ledger L s W → After L s W step_rule
  step_keeps = ledger-kept L s W step_rule (step_safe L W)

-- The gate, then the rule on a ledger that is sound. Assumes nothing.
use Rattle.std.proofs.Common.{ap, ◌∙◌, refl}
use Rattle.whole.specs.Signs.{arg}
use Rattle.acts.specs.Requests.{deposit_rule}
use Rattle.soundness.specs.PerformLaws.{shut, opened, gate_open}
use Rattle.ledger.proofs.deposit.Goals as goal

pub returns-in_default : goal.returns-in_default
returns-in_default c = shut _ c.sound_shape.ensures _ _ c.in_default.is refl c.from.ensures

pub deposit_in-requires : goal.deposit_in-requires
deposit_in-requires c = opened _ c.sound_shape.ensures c.in-Some.is

pub returns : goal.returns
returns c =
    ap (λ r. (r, c.deposit_in.new.words)) c.from-2.ensures
    ∙ gate_open _ _ _ _ _ (λ i. deposit_rule (arg c.ranges.a i) (arg c.ranges.x i)) (opened _ c.sound_shape.ensures c.in-Some.is) c.deposit_in.ensures

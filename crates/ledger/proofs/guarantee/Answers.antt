-- The gate, then the rule on a ledger that is sound. Assumes nothing.
use Rattle.std.proofs.Common.{ap, ◌∙◌, refl}
use Rattle.whole.specs.Signs.{arg}
use Rattle.acts.specs.Requests.{guarantee_rule}
use Rattle.soundness.specs.PerformLaws.{shut, opened, gate_open}
use Rattle.ledger.proofs.guarantee.Goals as goal

pub returns-in_default : goal.returns-in_default
returns-in_default c = shut _ c.sound_shape.ensures _ _ c.in_default.is refl c.from.ensures

pub guarantee_in-requires : goal.guarantee_in-requires
guarantee_in-requires c = opened _ c.sound_shape.ensures c.in-Some.is

pub returns : goal.returns
returns c =
    ap (λ r. (r, c.guarantee_in.new.words)) c.from-2.ensures
    ∙ gate_open _ _ _ _ _ (λ i. guarantee_rule (arg c.ranges.a i) (arg c.ranges.guarantee i) (arg c.ranges.cap i)) (opened _ c.sound_shape.ensures c.in-Some.is) c.guarantee_in.ensures

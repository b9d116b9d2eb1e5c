-- The gate, then the rule on a ledger that is sound. Assumes nothing.
use Rattle.std.proofs.Common.{ap, ◌∙◌, refl}
use Rattle.soundness.specs.PerformLaws.{shut, opened, gate_open}
use Rattle.ledger.proofs.step.Goals as goal

pub returns-in_default : goal.returns-in_default
returns-in_default c = shut _ c.sound_shape.ensures _ _ c.in_default.is refl c.from.ensures

pub step_in-requires : goal.step_in-requires
step_in-requires c = opened _ c.sound_shape.ensures c.in-Some.is

pub returns : goal.returns
returns c =
    ap (λ r. (r, c.step_in.new.words)) c.from-2.ensures
    ∙ gate_open _ _ _ _ _ refl (opened _ c.sound_shape.ensures c.in-Some.is) c.step_in.ensures

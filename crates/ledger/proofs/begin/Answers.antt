-- The gate, then the rule on a ledger that is sound. Assumes nothing.
use Rattle.std.proofs.Common.{ap, ◌∙◌, refl}
use Rattle.soundness.specs.PerformLaws.{shut, opened, gate_open}
use Rattle.ledger.proofs.begin.Goals as goal

pub returns-in_default : goal.returns-in_default
returns-in_default c = shut _ c.sound_shape.ensures _ _ c.in_default.is refl c.from.ensures

pub begin_in-requires : goal.begin_in-requires
begin_in-requires c = opened _ c.sound_shape.ensures c.in-Some.is

pub returns : goal.returns
returns c =
    ap (λ r. (r, c.begin_in.new.words)) c.from-2.ensures
    ∙ gate_open _ _ _ _ _ refl (opened _ c.sound_shape.ensures c.in-Some.is) c.begin_in.ensures

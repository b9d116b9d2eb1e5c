-- `close` meets its contract: the gate, then the rule on a ledger that is sound. Assumes nothing.
use Rattle.std.specs.Prelude.{refl}
use Rattle.std.proofs.Common.{◌∙◌}
use Rattle.soundness.specs.PerformLaws.{shut, opened, gate_open}
use Rattle.closing.proofs.close.Goals as goal

pub returns-in_default : goal.returns-in_default
returns-in_default c = shut _ c.sound_shape.ensures _ _ c.in_default.is refl c.from.ensures

pub close_in-requires : goal.close_in-requires
close_in-requires c = opened _ c.sound_shape.ensures c.in-Some.is

pub returns : goal.returns
returns c =
    gate_open _ _ _ _ _ refl (opened _ c.sound_shape.ensures c.in-Some.is) ((λ i. (c.from-2.ensures i, c.close_in.new.words)) ∙ c.close_in.ensures)

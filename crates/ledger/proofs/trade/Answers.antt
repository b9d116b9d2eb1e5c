-- The gate, then the rule on a ledger that is sound. Assumes nothing.
use Rattle.std.proofs.Common.{ap, ◌∙◌, refl}
use Rattle.whole.specs.Signs.{arg}
use Rattle.acts.specs.Trade.{trade_rule}
use Rattle.soundness.specs.PerformLaws.{shut, opened, gate_open}
use Rattle.ledger.proofs.trade.Goals as goal

pub returns-in_default : goal.returns-in_default
returns-in_default c = shut _ c.sound_shape.ensures _ _ c.in_default.is refl c.from.ensures

pub trade_in-requires : goal.trade_in-requires
trade_in-requires c = opened _ c.sound_shape.ensures c.in-Some.is

pub returns : goal.returns
returns c =
    ap (λ r. (r, c.trade_in.new.words)) c.from-2.ensures
    ∙ gate_open _ _ _ _ _ (λ i. trade_rule (arg c.ranges.buyer i) (arg c.ranges.seller i) (arg c.ranges.product i) (arg c.ranges.lots i) (arg c.ranges.price i)) (opened _ c.sound_shape.ensures c.in-Some.is) c.trade_in.ensures

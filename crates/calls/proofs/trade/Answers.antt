-- The five figures, in order, are the trade's.
use mathlib.Core.Path.{refl, ◌∙◌}
use Rattle.whole.specs.Signs.{came}
use Rattle.places.specs.Place.{get}
use Rattle.places.specs.Act.{finish}
use Rattle.places.specs.ByAccount.{by_account}
use Rattle.acts.specs.Trade.{trade_rule}
use Rattle.calls.specs.InsideCalls.{trade_by}
use Rattle.calls.specs.LedgerLaws.{acted}
use Rattle.calls.proofs.trade.Goals as goal

pub returns : goal.returns
returns c =
    let b = c in
    let W = b.args.words.now in
    let v = b.args.figures.now in
    let e0 = came c.figure_at-buyer.result c.figure_at-buyer.type_inv c.figure_at-buyer.ensures in
    let e1 = came c.figure_at-seller.result c.figure_at-seller.type_inv c.figure_at-seller.ensures in
    let e2 = came c.figure_at-product.result c.figure_at-product.type_inv c.figure_at-product.ensures in
    let e3 = came c.figure_at-lots.result c.figure_at-lots.type_inv c.figure_at-lots.ensures in
    let e4 = came c.figure_at-price.result c.figure_at-price.type_inv c.figure_at-price.ensures in
    acted b.args.s W b.requires (trade_by v) refl
    (c.trade_in.ensures ∙ (λ i. finish by_account b.args.s W (trade_rule (e0 i) (e1 i) (e2 i) (e3 i) (e4 i) b.args.s (get by_account b.args.s W))))

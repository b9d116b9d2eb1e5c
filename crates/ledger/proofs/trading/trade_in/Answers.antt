-- 3, 4, or the trade between two accounts of the ledger. Assumes nothing.
use Rattle.std.specs.Prelude.{pos}
use Rattle.std.proofs.Common.{sym, refl, ◌∙◌}
use Rattle.whole.specs.Signs.{arg}
use Rattle.places.specs.Place.{get}
use Rattle.places.specs.ByAccount.{by_account}
use Rattle.places.specs.Act.{finish}
use Rattle.soundness.specs.Perform.{replies}
use Rattle.soundness.specs.PerformLaws.{refused_as}
use Rattle.acts.specs.Trade.{trade_between, trade_rule}
use Rattle.ledger.specs.Answers.{named, unnamed}
use Rattle.ledger.proofs.trading.trade_in.Goals as goal

pub returns-in_default-index_of : goal.returns-in_default-index_of
returns-in_default-index_of c =
    let s = c.args.s in let W = c.args.words.now in
    let b = named s.n c.args.buyer _ c.in-Some.buyer (arg c.ranges.buyer) c.index_of.ensures c.in-Some.is in
    let f = unnamed s.n c.args.seller _ (arg c.ranges.seller) c.index_of-2.ensures c.in_default-index_of.is in
    refused_as by_account s W (replies 3 (pos 0)) 3 (trade_rule c.args.buyer c.args.seller c.args.product c.args.lots c.args.price s (get by_account s W)) refl (simp (b.yes, f))

pub returns-in_default-index_of-2 : goal.returns-in_default-index_of-2
returns-in_default-index_of-2 c =
    let s = c.args.s in let W = c.args.words.now in
    let b = named s.n c.args.buyer _ c.in-Some.buyer (arg c.ranges.buyer) c.index_of.ensures c.in-Some.is in
    let e = named s.n c.args.seller _ c.in-Some-index_of.seller (arg c.ranges.seller) c.index_of-2.ensures c.in-Some-index_of.is in
    let f = unnamed s.p c.args.product _ (arg c.ranges.product) c.index_of-3.ensures c.in_default-index_of-2.is in
    refused_as by_account s W (replies 4 (pos 0)) 4 (trade_rule c.args.buyer c.args.seller c.args.product c.args.lots c.args.price s (get by_account s W)) refl (simp (b.yes, e.yes, f))

pub trade_between-requires-clause-buyer_lt_n : goal.trade_between-requires-clause-buyer_lt_n
trade_between-requires-clause-buyer_lt_n c =
    let s = c.args.s in (
      (named s.n c.args.buyer _ c.in-Some.buyer (arg c.ranges.buyer) c.index_of.ensures c.in-Some.is).below,
      (named s.n c.args.seller _ c.in-Some-index_of.seller (arg c.ranges.seller) c.index_of-2.ensures c.in-Some-index_of.is).below,
      (named s.p c.args.product _ c.in-Some-index_of-2.j (arg c.ranges.product) c.index_of-3.ensures c.in-Some-index_of-2.is).below,
    )

pub returns : goal.returns
returns c =
    let s = c.args.s in let W = c.args.words.now in
    let b = named s.n c.args.buyer _ c.in-Some.buyer (arg c.ranges.buyer) c.index_of.ensures c.in-Some.is in
    let e = named s.n c.args.seller _ c.in-Some-index_of.seller (arg c.ranges.seller) c.index_of-2.ensures c.in-Some-index_of.is in
    let j = named s.p c.args.product _ c.in-Some-index_of-2.j (arg c.ranges.product) c.index_of-3.ensures c.in-Some-index_of-2.is in
    c.trade_between.ensures
    ∙ (λ i. finish by_account s W (trade_between (b.same i) (e.same i) (j.same i) (arg c.ranges.lots i) (arg c.ranges.price i) (get by_account s W)))
    ∙ sym (rw (b.yes, e.yes, j.yes) refl)

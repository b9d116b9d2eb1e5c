-- `trade_between` meets its contract: 6, 8, or the trade. Assumes nothing.
use mathlib.Core.Path.{◌≡◌, refl, sym, ◌∙◌}
use mathlib.Core.Bool.{true}
use mathlib.Core.List.{List}
use native.Mathlib.Omega.{arith}
use lib.IntN.{ℤ, pos}
use Rattle.whole.specs.Number.{between}
use Rattle.whole.specs.Tests.{both, holds, in-range}
use Rattle.whole.specs.Signs.{arg}
use Rattle.rules.specs.Sizes.{most_lots, most_price}
use Rattle.rules.specs.ProductLaws.{price-most}
use Rattle.places.specs.Place.{View, get, kind, product_kind}
use Rattle.places.specs.ByAccount.{by_account}
use Rattle.places.specs.Act.{finish}
use Rattle.acts.specs.Trade.{terms_ok, one_of_each, traded}
use Rattle.std.proofs.Common.{ap, not}
use Rattle.ledger.proofs.trading.trade_between.Goals.{After-terms_ok, Else-not-one_of_each, Start}
use Rattle.ledger.proofs.trading.trade_between.Goals as goal

module _ (s : Start) where
  abbrev W : List ℤ
  W = s.args.words.now

  abbrev g : View
  g = get by_account s.args.s W

kinds : (c : Else-not-one_of_each) → let s = c in one_of_each (g s.before.before (kind s.args.buyer)) (g s.before.before (kind s.args.seller)) ≡ true
kinds c = holds c.one_of_each.ensures (ap not c.if-not-one_of_each.false)

terms : (c : After-terms_ok) → let s = c in c.terms_ok.result ≡ terms_ok (g s.before.before.before) s.args.j s.args.lots s.args.price
terms c = let s = c in c.terms_ok.ensures ∙ (λ i. terms_ok (g s.before.before.before) s.args.j (arg s.ranges.lots i) (arg s.ranges.price i))

pub trade_at-requires : goal.trade_at-requires
trade_at-requires c = let two = c in let d = two in let s = d in let k = g (goal.at.trade_at-requires s).Start (product_kind s.args.j) in
    let h = both (between (pos 1) (pos most_lots) s.args.lots) (between (pos 1) (pos (most_price k)) s.args.price) (holds (terms (goal.at.trade_at-requires d).After-terms_ok) (ap not two.if-not-terms_ok.false)) in
    let p = (in-range 1 (most_price k) s.args.price h.1).high in
    record { ledger = s.requires.ledger; buyer_lt_n = s.requires.buyer_lt_n; lots_bound_1 = rw (arg s.ranges.lots) (in-range 1 most_lots s.args.lots h.0).high; lots_bound_2 = rw (arg s.ranges.price) (omega (arith, p, price-most k)) }

pub returns : goal.returns
returns c =
    let two = c in let d = two in let s = d in
    c.trade_at.ensures
    ∙ (λ i. finish by_account s.args.s (W (goal.at.returns s).Start) (traded s.args.buyer s.args.seller s.args.j (arg s.ranges.lots i) (arg s.ranges.price i) (g (goal.at.returns s).Start)))
    ∙ sym (rw (kinds (goal.at.returns d).Else-not-one_of_each, holds (terms (goal.at.returns d).After-terms_ok) (ap not two.if-not-terms_ok.false)) refl)

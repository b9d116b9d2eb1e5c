-- `rules::products::margin_of` meets its contract: lots × (Y × rate) is (lots × Y) × rate. Assumes nothing.
use mathlib.Core.Path.{◌≡◌, sym, ap, ap₂, ◌∙◌}
use Prim.Native.Nat.{◌≤◌}
use native.Mathlib.Omega.{arith}
use lib.IntN.{pos}
use mir.Syntax.{w64}
use mir.ValLaws.{to_z_pos}
use Rattle.whole.specs.Signs.{arg, word}
use Rattle.whole.specs.Whole.{facts}
use Rattle.rules.specs.Product.{margin_of}
use Rattle.rules.specs.ProductLaws.{lot_margin, margin_at, most_lot_margin, lot_margin_in, margin-at_in, margin_by}
use Rattle.rules.proofs.products.margin_of.Goals.{After-lot_margin, After-margin_at}
use Rattle.rules.proofs.products.margin_of.Goals as goal

single-is : (c : After-lot_margin) → let a = c.args in c.lot_margin.result ≡ lot_margin a.y a.rate
single-is c = let s = c in c.lot_margin.ensures ∙ ap₂ lot_margin (arg s.ranges.y) (arg s.ranges.rate)

single_in : (c : After-lot_margin) → c.lot_margin.result ≤ most_lot_margin
single_in c =
    let s = c in
    rw (single-is c) (lot_margin_in s.args.y s.args.rate (omega (facts, word s.args.y s.ranges.y)) (omega (facts, word s.args.rate s.ranges.rate)))

margin_is : (c : After-margin_at) → let a = c.args in c.margin_at.result ≡ margin_of a.lots a.y a.rate
margin_is c =
    let s = c in let a = s.args in
    c.margin_at.ensures ∙ ap₂ margin_at (arg s.ranges.lots) (single-is c.before) ∙ sym (margin_by a.lots a.y a.rate)

fits : (c : After-margin_at) → c.margin_at.result ≤ 500000000000
fits c =
    let s = c in
    rw (c.margin_at.ensures, arg s.ranges.lots) (margin-at_in s.args.lots c.lot_margin.result s.requires.lots_bound (single_in c.before))

pub overflow_cast-result : goal.overflow_cast-result
overflow_cast-result c = omega (arith, fits c)

pub returns : goal.returns
returns c = to_z_pos w64 c.margin_at.result (omega (arith, fits c)) ∙ ap pos (margin_is c)

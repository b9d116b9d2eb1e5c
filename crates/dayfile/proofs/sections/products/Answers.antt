-- Each line is written at its product's place; one law serves every section of lines.
use mathlib.Core.Path.{◌≡◌, ◌∙◌, ap}
use mathlib.Core.List.{List}
use Prim.Native.Nat.{ℕ}
use native.Mathlib.Omega.{arith}
use lib.IntN.{ℤ}
use lib.Seq.{sets}
use Rattle.places.specs.PlaceLaws.{product_inside}
use Rattle.places.specs.ByAccount.{by_account}
use Rattle.lines.specs.Lines.{Line, Stand, line_start_of}
use Rattle.lines.proofs.LineLaws.{onward-more, onward_bad, onward-done, line_by}
use Rattle.dayfile.specs.Sections.{product_figures, product_line, products_from}
use Rattle.dayfile.proofs.sections.products.Goals as goal

pub product-next-requires : goal.product-next-requires
product-next-requires c =
    let l = c.loop-j in
    omega (arith, c.requires.fact_2.sized, l.invariant.1, c.prod_at-base.ensures.0, product_inside by_account c.args.s l.j (omega arith))

pub returns-then-next-eq-LOST : goal.returns-then-next-eq-LOST
unfolding products_from
returns-then-next-eq-LOST c =
    let l = c.loop-j in
    let a = c.args in
    let k = c.product-next in
    let read : ◌≡◌ {A = Line (List ℤ)} (record { next = k.result; held = k.new.words }) (product_line a.text.now a.s l.j l.at l.words) =
    line_by k.ensures.0 (k.ensures.1 ∙ ap (λ (b : ℕ). sets l.words b (product_figures a.text.now l.at).values) c.prod_at-base.ensures.0) in
    let e = onward_bad (product_line a.text.now a.s) l.invariant.0 (omega arith) (record { next = k.result; held = k.new.words }) read c.if-next-eq-LOST.true in
    (ap line_start_of e, ap (λ (s : Stand (List ℤ)). s.held) e)

pub loop-j-preserved : goal.loop-j-preserved
loop-j-preserved c =
    let l = c.loop-j in
    let a = c.args in
    let k = c.product-next in
    let read : ◌≡◌ {A = Line (List ℤ)} (record { next = k.result; held = k.new.words }) (product_line a.text.now a.s l.j l.at l.words) =
    line_by k.ensures.0 (k.ensures.1 ∙ ap (λ (b : ℕ). sets l.words b (product_figures a.text.now l.at).values) c.prod_at-base.ensures.0) in
    (onward-more (product_line a.text.now a.s) l.invariant.0 (omega arith) (record { next = k.result; held = k.new.words }) read c.if-next-eq-LOST.false, k.auto.words ∙ l.invariant.1)

pub returns : goal.returns
unfolding products_from
returns c =
    let l = c.loop-j in
    let a = c.args in
    let e = onward-done (product_line a.text.now a.s) l.invariant.0 (omega arith) in
    (ap line_start_of e, ap (λ (s : Stand (List ℤ)). s.held) e)

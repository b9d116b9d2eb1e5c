-- The account and the product that the line names are those of the definition. A signed field is its bits.
use mathlib.Core.Path.{subst}
use lib.IntN.{nat_abs}
use mir.Syntax.{w64}
use mir.Val.{SFits}
use mir.Facts.{to_z-of_z}
use borrow.Author.Rules.{rules}
use Rattle.whole.specs.Number.{is_one_of}
use Rattle.lines.specs.Lines.{Line}
use Rattle.dayfile.specs.InsideDayfile.{Positioned}
use Rattle.dayfile.specs.Sections.{Stated, stated}
use Rattle.dayfile.proofs.PositionLaws.{named_none, named_some, position_no-account, position_no-product, position_stated}
use Rattle.dayfile.proofs.sections.position_line.Goals as goal

pub returns-in_default : goal.returns-in_default
returns-in_default c =
    let a = c.args in
    let h = c.position-h.result in
    let account_fits : SFits w64 h.account = search rules in
    let e = simp (to_z-of_z {w = w64} account_fits) at c.in_default.ensures in
    position_no-account a.text.now a.s a.at (record { words = a.words.now; marks = a.marks.now }) h c.position-h.ensures (named_none (nat_abs h.account) (is_one_of a.s.n h.account) e)

pub returns-in_default-index_of : goal.returns-in_default-index_of
returns-in_default-index_of c =
    let a = c.args in
    let h = c.position-h.result in
    let account_fits : SFits w64 h.account = search rules in
    let product_fits : SFits w64 h.product = search rules in
    let e = simp (to_z-of_z {w = w64} account_fits) at c.in-Some.ensures in
    let f = simp (to_z-of_z {w = w64} product_fits) at c.in_default-index_of.ensures in
    position_no-product a.text.now a.s a.at (record { words = a.words.now; marks = a.marks.now }) h c.position-h.ensures
    (named_some _ (nat_abs h.account) (is_one_of a.s.n h.account) e).0 (named_none (nat_abs h.product) (is_one_of a.s.p h.product) f)

pub returns : goal.returns
returns c =
    let a = c.args in
    let h = c.position-h.result in
    let s : Stated = record { words = a.words.now; marks = a.marks.now } in
    let account_fits : SFits w64 h.account = search rules in
    let product_fits : SFits w64 h.product = search rules in
    let e = named_some _ (nat_abs h.account) (is_one_of a.s.n h.account) (simp (to_z-of_z {w = w64} account_fits) at c.in-Some.ensures) in
    let f = named_some _ (nat_abs h.product) (is_one_of a.s.p h.product) (simp (to_z-of_z {w = w64} product_fits) at c.in-Some-index_of.ensures) in
    let made = c.state_position in
    position_stated a.text.now a.s a.at s h c.position-h.ensures e.0 f.0
    (subst (λ (l : Line Stated). Positioned l made.result made.new.words made.new.marks)
    (λ i. stated a.s (e.1 i) (f.1 i) h.lots h.book h.next s) made.ensures)

-- Three sections in a row, each starts where the one before it ended. Assumes nothing.
use mathlib.Core.Path.{◌≡◌, refl, ◌∙◌, ap}
use native.Mathlib.Omega.{arith}
use mir.Syntax.{w64}
use mir.Facts.{to_z_pos}
use Rattle.places.specs.Place.{accounts, products, put}
use Rattle.places.specs.ByAccount.{by_account}
use Rattle.lines.specs.declared.LineStart.{LineStart}
use Rattle.dayfile.specs.Sections.{fresh_words}
use Rattle.dayfile.specs.Table.{ledger_shape}
use Rattle.dayfile.proofs.BodyLaws.{products-line, accounts-line, start_is}
use Rattle.dayfile.proofs.start_into.Goals as goal

-- where a section ends is not far from where it starts, so the line numbers of the next fit
pub accounts-b-requires-clause-fact_1 : goal.accounts-b-requires-clause-fact_1
accounts-b-requires-clause-fact_1 c =
    let a = c.args in
    let is = ap (λ (q : LineStart). q.line) c.products-a.ensures.0 in
    omega (arith, c.requires.fact_1, is, products-line a.text.now a.c.at a.c.line (ledger_shape a.c) c.put_head-2.new.words)

pub positions-requires-clause-fact_1 : goal.positions-requires-clause-fact_1
positions-requires-clause-fact_1 c =
    let a = c.args in
    let p = c.products-a in
    let one = ap (λ (q : LineStart). q.line) p.ensures.0 in
    let two = ap (λ (q : LineStart). q.line) c.accounts-b.ensures.0 in
    omega (arith, c.requires.fact_1, one, two, products-line a.text.now a.c.at a.c.line (ledger_shape a.c) c.put_head-2.new.words, accounts-line a.text.now p.result.at p.result.line (ledger_shape a.c) p.new.words)

pub returns : goal.returns
returns c =
    let a = c.args in
    let P = c.products-a in
    let A = c.accounts-b in
    let s = ledger_shape a.c in
    let fresh = c.put_head-2.new.words in
    let n-is = to_z_pos w64 {n = a.c.accounts} (omega (arith, c.requires.fact_1)) in
    let p-is = to_z_pos w64 {n = a.c.products} (omega (arith, c.requires.fact_1)) in
    let one = c.put_head.ensures ∙ (λ i. put by_account s (c.requires.fact_2 i) accounts (n-is i)) in
    let fresh-is : fresh ≡ fresh_words s = c.put_head-2.ensures ∙ (λ i. put by_account s (one i) products (p-is i)) in
    start_is a.text.now a.c fresh P.new.words A.new.words _ P.result A.result
    fresh-is refl P.ensures.0 P.ensures.1 A.ensures.0 A.ensures.1 c.positions.ensures

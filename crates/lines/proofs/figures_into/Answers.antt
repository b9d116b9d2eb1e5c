-- What is left of the line, written from here, is the whole of it, written from the start.
use mathlib.Core.Path.{◌∙◌, ap}
use native.Mathlib.Omega.{arith}
use borrow.Author.Rules.{rules}
use mir.Syntax.{w64}
use mir.Val.{SFits}
use mir.Facts.{to_z-of_z}
use Rattle.lines.specs.Lines.{field_at}
use Rattle.lines.proofs.FieldLaws.{filled_more, filled_done}
use Rattle.lines.proofs.figures_into.Goals as goal

pub loop-i-preserved : goal.loop-i-preserved
loop-i-preserved c =
    let l = c.loop-i in
    let a = c.args in
    let fits : SFits w64 c.field_at-f.result.value = search rules in
    filled_more c.field_at-f.result _ l.invariant (omega arith)
    (c.field_at-f.ensures ∙ ap (field_at a.text.now l.at) c.close_of.ensures)
    (to_z-of_z {w = w64} fits)

pub returns : goal.returns
returns c = filled_done c.loop-i.invariant (omega arith)

-- One law serves every section of lines; the words and the marks are held.
use mathlib.Core.Path.{◌≡◌, ◌∙◌, ap}
use native.Mathlib.Omega.{arith}
use Rattle.lines.specs.Lines.{Line, Stand, line_start_of}
use Rattle.lines.proofs.LineLaws.{onward-more, onward_bad, onward-done, line_by}
use Rattle.dayfile.specs.InsideDayfile.{AllPositioned}
use Rattle.dayfile.specs.Sections.{Stated, position_line, positions_from}
use Rattle.dayfile.proofs.PositionLaws.{stated_by}
use Rattle.dayfile.proofs.sections.positions.Goals as goal

read_through : {e f : Stand Stated} → e ≡ f → AllPositioned f (line_start_of e) e.held.words e.held.marks
read_through e = record { place_is = ap line_start_of e; words_are = ap (λ (s : Stand Stated). s.held.words) e; marks_are = ap (λ (s : Stand Stated). s.held.marks) e }

pub returns-then-next-eq-LOST : goal.returns-then-next-eq-LOST
unfolding positions_from
returns-then-next-eq-LOST c =
    let l = c.loop-i in
    let a = c.args in
    let k = c.position_line-next in
    let held : Stated = record { words = k.new.words; marks = k.new.marks } in
    let read : ◌≡◌ {A = Line Stated} (record { next = k.result; held = held }) (position_line a.text.now a.s l.i l.at (record { words = l.words; marks = l.marks })) =
    line_by k.ensures.next_is (stated_by k.ensures.words_are k.ensures.marks_are) in
    let e = onward_bad (position_line a.text.now a.s) l.invariant.0 (omega arith) _ read c.if-next-eq-LOST.true in
    read_through e

pub loop-i-preserved : goal.loop-i-preserved
loop-i-preserved c =
    let l = c.loop-i in
    let a = c.args in
    let k = c.position_line-next in
    let held : Stated = record { words = k.new.words; marks = k.new.marks } in
    let read : ◌≡◌ {A = Line Stated} (record { next = k.result; held = held }) (position_line a.text.now a.s l.i l.at (record { words = l.words; marks = l.marks })) =
    line_by k.ensures.next_is (stated_by k.ensures.words_are k.ensures.marks_are) in
    let more = onward-more (position_line a.text.now a.s) l.invariant.0 (omega arith) _ read c.if-next-eq-LOST.false in
    (more, k.auto.words ∙ l.invariant.1, k.auto.marks ∙ l.invariant.2)

pub returns : goal.returns
unfolding positions_from
returns c =
    let l = c.loop-i in
    let a = c.args in
    let e = onward-done (position_line a.text.now a.s) l.invariant.0 (omega arith) in
    read_through e

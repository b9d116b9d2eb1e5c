-- One law serves every section of lines; nothing is held but the place.
use mathlib.Core.Path.{◌≡◌, refl, ◌∙◌, ap}
use native.Mathlib.Omega.{arith}
use Rattle.lines.specs.Lines.{Line, line_start_of}
use Rattle.lines.proofs.LineLaws.{onward-more, onward_bad, onward-done, line_by}
use Rattle.dayfile.specs.CallLines.{call_line, calls_from}
use Rattle.dayfile.proofs.calls.Goals as goal

pub returns-then-next-eq-LOST : goal.returns-then-next-eq-LOST
unfolding calls_from
returns-then-next-eq-LOST c =
    let l = c.loop-i in
    let a = c.args in
    let k = c.call_line-next in
    let is : ◌≡◌ {A = Line (Unit {0})} (record { next = k.result; held = tt }) (call_line a.text.now a.p l.i l.at tt) = line_by k.ensures.0 refl in
    ap line_start_of (onward_bad (call_line a.text.now a.p) l.invariant.0 (omega arith) (record { next = k.result; held = tt }) is c.if-next-eq-LOST.true)

pub loop-i-preserved : goal.loop-i-preserved
loop-i-preserved c =
    let l = c.loop-i in
    let a = c.args in
    let k = c.call_line-next in
    let is : ◌≡◌ {A = Line (Unit {0})} (record { next = k.result; held = tt }) (call_line a.text.now a.p l.i l.at tt) = line_by k.ensures.0 refl in
    (onward-more (call_line a.text.now a.p) l.invariant.0 (omega arith) (record { next = k.result; held = tt }) is c.if-next-eq-LOST.false, k.auto.figures ∙ l.invariant.1)

pub returns : goal.returns
unfolding calls_from
returns c =
    let l = c.loop-i in
    let a = c.args in
    ap line_start_of (onward-done (call_line a.text.now a.p) l.invariant.0 (omega arith))

-- The calls start where the positions ended. Assumes nothing.
use mathlib.Core.Path.{ap}
use native.Mathlib.Omega.{arith}
use Rattle.lines.specs.declared.LineStart.{LineStart}
use Rattle.dayfile.proofs.BodyLaws.{start_line, bodies_are}
use Rattle.dayfile.proofs.bodies_into.Goals as goal

pub calls-e-requires-clause-fact_1 : goal.calls-e-requires-clause-fact_1
calls-e-requires-clause-fact_1 c =
    let a = c.args in
    let is = ap (λ (q : LineStart). q.line) c.start_into-start.ensures.0 in
    omega (arith, c.requires.fact_1, is, start_line a.text.now a.c)

pub returns : goal.returns
returns c =
    let a = c.args in
    let d = c.start_into-start in
    let e = c.calls-e in
    bodies_are a.text.now a.c _ d.result e.result c.end_of.result d.ensures.0 d.ensures.1 e.ensures c.end_of.ensures

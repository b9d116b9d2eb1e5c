-- What is left of the line, written from here, is the whole of it, written from the start.
use Rattle.lines.proofs.FieldLaws.{Filled}
use Rattle.lines.proofs.figures_into.Given as goal

abbrev pub invariant-loop-i : goal.invariant-loop-i
invariant-loop-i l = Filled l.text l.from l.count l.initial.out l.base l.out l.at l.i

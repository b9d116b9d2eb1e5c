-- What the loop has seen of the digits.
use Rattle.lines.proofs.TextLaws.{Seen}
use Rattle.lines.proofs.digits.Given as goal

abbrev pub invariant-loop-i : goal.invariant-loop-i
invariant-loop-i l = Seen l.text l.at l.i l.value

-- Each turn leaves less of the kind.
use Rattle.std.proofs.Common.{length}
use Rattle.texts.proofs.cases_of.Given as goal

abbrev pub decreases-loop-case : goal.decreases-loop-case
decreases-loop-case l = length l.rest

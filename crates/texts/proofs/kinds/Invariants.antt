-- Each turn leaves less of the file.
use Rattle.std.proofs.Common.{length}
use Rattle.texts.proofs.kinds.Given as goal

abbrev pub decreases-loop-kinds : goal.decreases-loop-kinds
decreases-loop-kinds g l = length l.rest

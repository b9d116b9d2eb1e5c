-- `figure_ok` meets its contract: the four tests, in the order of the definition. Assumes nothing.
use Rattle.std.proofs.Common.{rules}
use Rattle.daily.proofs.figure_ok.Goals.{then-between, else-between, then-between-2, else-between-2}
use Rattle.daily.proofs.figure_ok.Goals as goal

pub returns-then-between-3 : goal.returns-then-between-3
returns-then-between-3 c =
    elim c.if-between-2.branch [
      | then-between-2 w ↦ elim c.if-between.branch [ then-between v ↦ search rules | else-between v ↦ search rules ]
      | else-between-2 w ↦ search rules
    ]

pub returns-else-between-3 : goal.returns-else-between-3
returns-else-between-3 c =
    elim c.if-between-2.branch [
      | then-between-2 w ↦ elim c.if-between.branch [ then-between v ↦ search rules | else-between v ↦ search rules ]
      | else-between-2 w ↦ elim c.if-between.branch [ then-between v ↦ search rules | else-between v ↦ search rules ]
    ]

use Rattle.std.proofs.Common.{arith}
use Rattle.whole.proofs.Floor.{floored}
use Rattle.whole.proofs.floor_div.Goals as goal

-- the two numbers are those that stand in the code: the first is whole units by what the function requires, the second is the first
pub returns : goal.returns
returns g c = floored c.args.raw g.row.UNIT _ _ c.requires.unit (omega arith) (omega arith) (omega arith) (omega arith)

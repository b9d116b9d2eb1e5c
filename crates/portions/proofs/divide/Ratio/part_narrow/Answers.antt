-- `part_narrow` meets its contract: `parted` has the arithmetic. Assumes nothing.
use native.Mathlib.Nat.{div-le_self}
use native.Mathlib.Omega.{arith}
use Rattle.portions.specs.Ratio.{Sizes, sizes, parted, rest}
use Rattle.portions.proofs.divide.Ratio.part_narrow.Goals.{Start}
use Rattle.portions.proofs.divide.Ratio.part_narrow.Goals as goal

small : (c : Start) → Sizes c.requires.fact_1 c.args.weight c.requires.fact_2
small c = sizes c.requires.fact_1 c.args.weight c.requires.fact_2

pub overflow_add-result-2 : goal.overflow_add-result-2
overflow_add-result-2 c = omega (arith, small (goal.at.overflow_add-result-2 c).Start, div-le_self (rest c.requires.fact_1 c.args.weight c.requires.fact_2) c.args.self.sum)

pub returns : goal.returns
returns c = parted c.requires.fact_1 c.args.weight c.requires.fact_2

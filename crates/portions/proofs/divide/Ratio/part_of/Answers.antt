-- `part_of` meets its contract: what was made ready is of this ratio. Assumes nothing.
use Rattle.std.proofs.Common.{sym, ◌∙◌}
use Rattle.portions.specs.Ratio.{ratio_narrow}
use Rattle.portions.proofs.divide.Ratio.part_of.Goals as goal

pub part_narrow-requires-clause-fact_1 : goal.part_narrow-requires-clause-fact_1
part_narrow-requires-clause-fact_1 c =
    let s = c.args.self in ratio_narrow s.amount s.sum c.in-Some.ready s.some (sym s.is_ready ∙ c.in-Some.is)

-- `times_up` meets its contract. Assumes nothing.
use Rattle.rates.specs.RootLaws.{six_zeros, moved_up}
use Rattle.rates.proofs.root.times_up.Goals as goal

pub overflow_sub-result : goal.overflow_sub-result
overflow_sub-result c = six_zeros c.args.q c.requires.fact_1 c.requires.fact_2

pub returns : goal.returns
returns c = moved_up c.args.q c.requires.fact_1 c.requires.fact_2

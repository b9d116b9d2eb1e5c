use Rattle.std.specs.Prelude.{pos, ◌-ℤ◌}
use Rattle.std.proofs.Common.{◌∙◌, to_z, of_z, w64}
use Rattle.whole.specs.Number.{takes_away}
use Rattle.whole.specs.Whole.{whole, known, facts, by, told}
use Rattle.whole.proofs.Extremes.{int_max-turned}
use Rattle.whole.proofs.takes_away.Goals as goal

pub returns : goal.returns
unfolding takes_away
returns c = by (search whole depth 20) (omega (facts, told (c.max.ensures.value ∙ int_max-turned (to_z w64 (of_z w64 (pos 0 -ℤ to_z w64 (of_z w64 c.args.x)))) (pos 0)) (search known depth 20) (omega facts)))

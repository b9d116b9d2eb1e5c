-- The largest of the three. Assumes nothing.
use Rattle.std.proofs.Common.{ap, ap₂, ◌∙◌}
use Rattle.whole.specs.Number.{max_z}
use Rattle.whole.specs.Signs.{arg, came}
use Rattle.whole.proofs.Extremes.{int_max-is}
use Rattle.rules.specs.Product.{least_rate, rate_of}
use Rattle.rules.proofs.products.rate_of.Goals as goal

pub returns : goal.returns
unfolding rate_of
returns c =
    let l = c.least_rate in let u = c.max in let f = c.ranges in
    came c.max-2.result c.max-2.type_inv (c.max-2.ensures.value ∙ int_max-is _ _ ∙ ap₂ max_z
    (came u.result u.type_inv (u.ensures.value ∙ int_max-is _ _ ∙ ap₂ max_z (arg f.rate8) (arg f.rate104)))
    (came l.result l.type_inv (l.ensures ∙ ap least_rate (arg f.mark))))

-- `shared_in` meets its contract: what each layer leaves is what the next one may be, and no layer is more than it may be. Assumes nothing.
use mathlib.Core.Path.{◌≡◌, refl, ap, ap₂, ◌∙◌}
use Prim.Native.Nat.{◌-◌, min}
use native.Mathlib.Omega.{arith}
use Rattle.shares.specs.Loss.{most_two, remains}
use Rattle.shares.specs.LossLaws.{layer-most}
use Rattle.shares.proofs.layers.shared_in.Given.{Over}
use Rattle.shares.proofs.layers.shared_in.Goals.{After-min-most}
use Rattle.shares.proofs.layers.shared_in.Goals as goal

pub overflow_sub-rest : goal.overflow_sub-rest
overflow_sub-rest g c =
    let d = c.args.deposits in
    omega (arith, c.layer-one.ensures.value, layer-most c.args.loss d.marks.now d.figures.now)

-- how large layer two may be
most-is : (g : Over) (c : After-min-most g) →
    let a = c.args in
    c.min-most.result ≡ most_two a.loss a.deposits.figures.now a.differences.figures.now a.deposits.marks.now
unfolding most_two
most-is g c =
    let a = c.args in
    c.min-most.ensures
    ∙ ap₂ min (ap (λ x. a.loss - x) c.layer-one.ensures.value) (c.negatives.ensures ∙ rw c.requires.same.0 refl)

pub overflow_sub-result : goal.overflow_sub-result
overflow_sub-result g c =
    let d = c.args.differences in
    omega (arith, c.layer-two.ensures.value, layer-most c.min-most.result d.marks.now d.figures.now, c.min-most.ensures)

pub returns : goal.returns
unfolding remains
returns g c =
    let m = most-is g (goal.at.returns g c).After-min-most in
    let two = c.layer-two.ensures in
    record {
      value = rw (two.value, c.layer-one.ensures.value, ← c.requires.same.0, m) refl;
      first_after = c.layer-one.ensures.out_after;
      second_after = rw (← c.requires.same.0, m) at two.out_after;
    }

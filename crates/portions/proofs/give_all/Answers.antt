-- `give_all` meets its contract: the words passed are the weights, which fit. Assumes nothing.
use mathlib.Core.Path.{◌∙◌}
use native.Mathlib.Omega.{arith}
use lib.IntN.{pos}
use lib.ListN.{length-set}
use Rattle.whole.specs.Listed.{filled_none, filled-step}
use Rattle.portions.specs.Share.{of_member}
use mir.Syntax.{w64}
use mir.Val.{to_z}
use mir.ValLaws.{to_z_pos}
use Rattle.portions.proofs.give_all.Goals as goal

pub loop-i-init : goal.loop-i-init
loop-i-init c = let a = c.args in (c.requires.fact_2, filled_none (λ k. pos (of_member a.weights.now k)) a.out.now)

pub loop-i-preserved : goal.loop-i-preserved
loop-i-preserved c =
    let w = of_member c.args.weights.now in
    let l = c.loop-i in
    let x = w l.i in (
      length-set l.out l.i (to_z w64 x) ∙ l.invariant.0,
      filled-step l.i (λ k. pos (w k)) c.args.out.now l.out (to_z w64 x) l.invariant.1 (omega arith) (to_z_pos w64 x (omega (arith, c.requires.fact_1.small l.i))),
    )

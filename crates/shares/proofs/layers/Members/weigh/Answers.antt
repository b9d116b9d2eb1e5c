-- `weigh` meets its contract: the members passed have their weights, and these are added. Assumes nothing.
use mathlib.Core.Path.{◌≡◌, refl, ◌∙◌}
use native.Mathlib.Omega.{arith}
use borrow.Author.Rules.{rules}
use lib.IntN.{pos}
use lib.ListN.{get_or, length-set}
use Rattle.whole.specs.Signs.{back}
use Rattle.whole.specs.CountingLaws.{total-step, total-most}
use Rattle.whole.specs.Listed.{filled_none, filled-step}
use Rattle.shares.specs.Loss.{weight, most_figure}
use Rattle.shares.specs.LossLaws.{weight-most}
use Rattle.shares.proofs.layers.Members.weigh.Goals.{After-weight_of-weight}
use Rattle.shares.proofs.layers.Members.weigh.Goals as goal

pub loop-i-init : goal.loop-i-init
loop-i-init c = let s = c.args.self in (c.requires, filled_none (weight s.marks.now s.figures.now) c.args.weights.now, refl)

-- what `weight_of` gave
got : (c : After-weight_of-weight) → let s = c.args.self in c.weight_of-weight.result ≡ weight s.marks.now s.figures.now c.loop-i.i
unfolding weight
got c =
    let s = c.args.self in
    let i = c.loop-i.i in
    let m = back (get_or s.marks.now i (pos 0)) (search rules) in
    let f = back (get_or s.figures.now i (pos 0)) (search rules) in
    c.weight_of-weight.ensures ∙ rw (m, f) refl

pub overflow_add-sum : goal.overflow_add-sum
overflow_add-sum c =
    let s = c.args.self in
    let l = c.loop-i in
    let m = weight-most most_figure s.marks.now s.figures.now s.in_range in
    omega (arith, got (goal.at.overflow_add-sum c).After-weight_of-weight, m l.i, l.invariant.2, s.few, total-most most_figure l.i (weight s.marks.now s.figures.now) (λ k b. m k))

pub loop-i-preserved : goal.loop-i-preserved
loop-i-preserved c =
    let s = c.args.self in
    let l = c.loop-i in
    let f = weight s.marks.now s.figures.now in
    let e = got (goal.at.loop-i-preserved c).After-weight_of-weight in (
      length-set l.weights l.i c.weight_of-weight.result ∙ l.invariant.0,
      filled-step l.i f c.args.weights.now l.weights c.weight_of-weight.result l.invariant.1 (omega (arith, c.requires)) e,
      total-step l.i f l.sum c.weight_of-weight.result l.invariant.2 e,
    )

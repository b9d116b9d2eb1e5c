-- `negatives` meets its contract: what the members passed count for is added. Assumes nothing.
use mathlib.Core.Path.{◌≡◌, refl, ◌∙◌}
use native.Mathlib.Omega.{arith}
use borrow.Author.Rules.{rules}
use lib.IntN.{pos}
use lib.ListN.{get_or}
use Rattle.whole.specs.Signs.{back}
use Rattle.whole.specs.CountingLaws.{total-step, total-most}
use Rattle.shares.specs.Loss.{negative, most_figure}
use Rattle.shares.specs.LossLaws.{negative-most}
use Rattle.shares.proofs.layers.Members.negatives.Goals.{After-negative_of-sum}
use Rattle.shares.proofs.layers.Members.negatives.Goals as goal

-- what `negative_of` gave
got : (c : After-negative_of-sum) → let s = c.args.self in c.negative_of-sum.result ≡ negative s.marks.now s.figures.now c.loop-i.i
unfolding negative
got c =
    let s = c.args.self in
    let i = c.loop-i.i in
    c.negative_of-sum.ensures ∙ rw (back (get_or s.marks.now i (pos 0)) (search rules), back (get_or s.figures.now i (pos 0)) (search rules)) refl

pub overflow_add-sum : goal.overflow_add-sum
overflow_add-sum c =
    let s = c.args.self in
    let l = c.loop-i in
    let m = negative-most most_figure s.marks.now s.figures.now s.in_range in
    omega (arith, got (goal.at.overflow_add-sum c).After-negative_of-sum, m l.i, s.few, total-most most_figure l.i (negative s.marks.now s.figures.now) (λ k b. m k))

pub loop-i-preserved : goal.loop-i-preserved
loop-i-preserved c =
    let s = c.args.self in
    total-step c.loop-i.i (negative s.marks.now s.figures.now) c.loop-i.sum c.negative_of-sum.result c.loop-i.invariant (got (goal.at.loop-i-preserved c).After-negative_of-sum)

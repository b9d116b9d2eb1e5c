-- `floors` meets its contract: the floors and remainders of the members passed are written, and the floors added. Assumes nothing.
use mathlib.Core.Path.{◌≡◌, refl, ap, ◌∙◌}
use Prim.Native.Nat.{◌-◌, ◌≤◌, ◌<◌}
use native.Mathlib.Omega.{arith}
use lib.IntN.{pos}
use lib.ListN.{length, length-set}
use Rattle.whole.specs.Counting.{total}
use Rattle.whole.specs.CountingLaws.{total-step, total-most, total-one}
use Rattle.whole.specs.Listed.{filled_none, filled-step, filled-all}
use Rattle.portions.specs.ShareLaws.{floor-most, floors-le}
use Rattle.portions.specs.Share.{of_member, floor_of, remainder_of, left}
use Rattle.portions.specs.Bounds.{most_amount}
use mir.Syntax.{w64}
use mir.Val.{to_z}
use mir.ValLaws.{to_z_pos}
use Rattle.portions.proofs.Sharing.floors.Goals.{Start, After-part_of-part}
use Rattle.portions.proofs.Sharing.floors.Goals as goal

pub loop-i-init : goal.loop-i-init
loop-i-init c =
    let s = c.args.self in
    let n = length s.weights.now in
    let w = of_member s.weights.now in
    (c.requires.out_long, c.requires.remainders_long, filled_none (remainder_of n w s.amount) c.args.remainders.now, filled_none (λ k. pos (floor_of n w s.amount k)) c.args.out.now, refl)

pub part_of-part-requires : goal.part_of-part-requires
part_of-part-requires c =
    let s = c.args.self in
    let ws = s.weights.now in
    omega (arith, c.of-ratio.ensures.1, s.sum_is, total-one (length ws) (of_member ws) c.loop-i.i (omega arith))

-- somebody has a weight
some-weight : (c : Start) → let ws = c.args.self.weights.now in 0 < total (length ws) (of_member ws)
some-weight c = rw c.args.self.sum_is at c.args.self.some

-- what `part_of` gave
got : (c : After-part_of-part) →
    let s = c.args.self in
    let ws = s.weights.now in
    let i = c.loop-i.i in
    let r = c.part_of-part.result in
    (r.quotient ≡ floor_of (length ws) (of_member ws) s.amount i) × (r.remainder ≡ remainder_of (length ws) (of_member ws) s.amount i) × (r.quotient ≤ s.amount)
unfolding floor_of remainder_of
got c =
    let s = c.args.self in
    let ws = s.weights.now in
    let i = c.loop-i.i in
    let e = c.part_of-part.ensures in
    let ratio = c.of-ratio.ensures in
    let q : c.part_of-part.result.quotient ≡ floor_of (length ws) (of_member ws) s.amount i = rw (ratio.0, ratio.1, s.sum_is) at e.0 in
    (q, rw (ratio.0, ratio.1, s.sum_is) at e.1, omega (arith, q, floor-most (length ws) (of_member ws) s.amount (some-weight (goal.at.After-part_of-part c).Start) i (omega arith)))

pub overflow_cast-out : goal.overflow_cast-out
overflow_cast-out c = let g = got (goal.at.overflow_cast-out c).After-part_of-part in omega (arith, g.2, c.args.self.amount_in)

pub overflow_add-given : goal.overflow_add-given
overflow_add-given c =
    let s = c.args.self in
    let ws = s.weights.now in
    let l = c.loop-i in
    let g = got (goal.at.overflow_add-given c).After-part_of-part in
    let h = some-weight (goal.at.overflow_add-given c).Start in
    omega (arith, g.2, s.amount_in, s.weights_in.few, total-most most_amount l.i (floor_of (length ws) (of_member ws) s.amount) (λ k b. omega (arith, s.amount_in, floor-most (length ws) (of_member ws) s.amount h k (omega arith))))

pub loop-i-preserved : goal.loop-i-preserved
loop-i-preserved c =
    let s = c.args.self in
    let n = length s.weights.now in
    let w = of_member s.weights.now in
    let l = c.loop-i in
    let r = c.part_of-part.result in
    let g = got (goal.at.loop-i-preserved c).After-part_of-part in (
      length-set l.out l.i (to_z w64 r.quotient) ∙ l.invariant.0,
      length-set l.remainders l.i r.remainder ∙ l.invariant.1,
      filled-step l.i (remainder_of n w s.amount) c.args.remainders.now l.remainders r.remainder l.invariant.2 (omega (arith, c.requires.remainders_long)) g.1,
      filled-step l.i (λ k. pos (floor_of n w s.amount k)) c.args.out.now l.out (to_z w64 r.quotient) l.invariant.3 (omega (arith, c.requires.out_long)) (to_z_pos w64 r.quotient (omega (arith, g.2, s.amount_in)) ∙ ap pos g.0),
      total-step l.i (floor_of n w s.amount) l.given r.quotient l.invariant.4 g.0,
    )

pub overflow_sub-result : goal.overflow_sub-result
overflow_sub-result c =
    let s = c.args.self in
    let ws = s.weights.now in
    let l = c.loop-i in
    let n : l.i ≡ length ws = omega arith in
    let e = rw n at l.invariant.4 in
    omega (arith, e, floors-le (length ws) (of_member ws) s.amount (some-weight (goal.at.overflow_sub-result c).Start))

pub returns : goal.returns
unfolding left
returns c =
    let s = c.args.self in
    let ws = s.weights.now in
    let l = c.loop-i in
    let n : l.i ≡ length ws = omega arith in
    record {
      value = ap (λ x. s.amount - x) (rw n at l.invariant.4);
      remainders_after =
          rw n at l.invariant.2
          ∙ filled-all (length ws) (remainder_of (length ws) (of_member ws) s.amount) c.args.remainders.now (omega (arith, c.requires.remainders_long));
      out_after = rw n at l.invariant.3 ∙ filled-all (length ws) (λ i. pos (floor_of (length ws) (of_member ws) s.amount i)) c.args.out.now (omega (arith, c.requires.out_long));
    }

-- The pair at hand stands at the place that the loop has come to.
use Rattle.std.proofs.Common.{rules, arith, length, pos, ◌≡◌, ap₂, ◌∙◌, to_z, of_z, w64, get_or, length-append}
use Rattle.std.proofs.lemmas.Slice.Zip.{zip_turn}
use Rattle.whole.specs.Counting.{one_if}
use Rattle.whole.specs.CountingLaws.{total-step}
use Rattle.tally.specs.Tally.{other}
use Rattle.tally.proofs.altered.Invariants.{others}
use Rattle.tally.proofs.altered.Goals as goal

pub loop-x-preserved : goal.loop-x-preserved
loop-x-preserved c =
    let a = c.args.a.now in let b = c.args.b.now in let i = length c.loop-x.yielded in
    let at = zip_turn a b _ _ c.loop-x.x-iterator c.next.new.self c.next.result (search rules) (search rules) c.loop-x.yielded_by (c.in-Some.x, c.in-Some.y) c.in-Some.is c.next.ensures.steps in
    let x : to_z w64 (of_z w64 c.in-Some.x.now) ≡ get_or a i (pos 0) = search rules ∙ at.2 (pos 0) in
    let y : to_z w64 (of_z w64 c.in-Some.y.now) ≡ get_or b i (pos 0) = search rules ∙ at.3 (pos 0) in
    let d = c.differ-count.ensures.fact_1 ∙ ap₂ (λ u v. one_if (other u v)) x y in
    let step = total-step i (λ k. one_if (others a b k)) c.loop-x.count c.differ-count.result c.loop-x.invariant.1 d in
    rw (length-append) (omega (arith, c.loop-x.invariant.0, c.differ-count.ensures.fact_2), step)

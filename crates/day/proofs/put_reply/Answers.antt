-- Two fields in a row are the line of two numbers.
use Rattle.std.specs.Prelude.{◌≡◌}
use Rattle.std.proofs.Common.{rules, to_z, of_z, w64}
use mathlib.Core.Path.{refl, ◌∙◌}
use mathlib.Core.List.{[], ◌++◌}
use Prim.Native.Nat.{◌+◌}
use native.Mathlib.Omega.{arith}
use lib.IntN.{pos}
use lib.ListN.{length}
use lib.Seq.{sets}
use Rattle.lines.specs.Print.{field, numbers_line}
use Rattle.lines.proofs.PrintLaws.{field-length}
use Rattle.lines.proofs.WriteLaws.{wrote_none, wrote_more, wrote_done}
use Rattle.day.proofs.put_reply.Goals as goal

pub put_field-requires : goal.put_field-requires
put_field-requires c =
    let a = c.args in
    let k = c.put_count-e in
    omega (arith, k.ensures.0, k.auto.out, field-length (pos a.reply.number) 32)

pub returns : goal.returns
unfolding numbers_line
returns c =
    let s = c in
    let a = s.args in
    let n = c.put_count-e in
    let f = c.put_field in
    let x-is : to_z w64 (of_z w64 a.reply.figure) ≡ a.reply.figure = search rules in
    let first = field (pos a.reply.number) 32 in
    let second = field a.reply.figure 10 in
    let w1 = wrote_more (wrote_none a.out.now a.at (first ++ (second ++ []))) first (second ++ []) refl n.ensures.0 n.ensures.1 in
    wrote_done (wrote_more w1 second [] refl (f.ensures.0 ∙ (λ i. n.result + length (field (x-is i) 10))) (f.ensures.1 ∙ (λ i. sets n.new.out n.result (field (x-is i) 10)))) refl

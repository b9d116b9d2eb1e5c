-- What is left of the line, written from here, is the whole of it, written from the start.
use mir.Val.{SFits}
use Rattle.whole.specs.Whole.{whole, facts, by}
use mathlib.Core.Path.{◌≡◌, ◌∙◌, ap}
use Prim.Native.Nat.{◌+◌, ◌-◌}
use native.Mathlib.Omega.{arith}
use lib.IntN.{pos}
use lib.ListN.{length, drop, get_or, drop_of_length-le}
use lib.Seq.{sets}
use mir.Syntax.{w64}
use mir.Facts.{to_z-of_z}
use Rattle.lines.specs.Lines.{close_of}
use Rattle.lines.specs.Print.{field, numbers_line}
use Rattle.lines.proofs.PrintLaws.{line-more, line-none, field-length}
use Rattle.lines.proofs.WriteLaws.{wrote_more, wrote_done}
use Rattle.lines.proofs.put_line.Goals as goal

pub loop-i-preserved : goal.loop-i-preserved
loop-i-preserved c =
    let l = c.loop-i in
    let a = c.args in
    let k = c.put_field-at in
    let x = get_or a.numbers.now l.i (pos 0) in
    let left : length a.numbers.now - 1 - l.i ≡ length a.numbers.now - (l.i + 1) = omega arith in
    let h : SFits w64 x = by (search whole depth 20) (omega facts) in
    let x-is = to_z-of_z {w = w64} h in
    let close-is = c.close_of.ensures ∙ ap close_of left in
    let piece = field x (close_of (length a.numbers.now - (l.i + 1))) in
    let r-is : k.result ≡ l.at + length piece = k.ensures.0 ∙ (λ j. l.at + length (field (x-is j) (close-is j))) in
    let out_is : k.new.out ≡ sets l.out l.at piece = k.ensures.1 ∙ (λ j. sets l.out l.at (field (x-is j) (close-is j))) in (
      omega (arith, r-is, k.auto.out, field-length x (close_of (length a.numbers.now - (l.i + 1)))),
      wrote_more l.invariant.1 piece (numbers_line (drop (l.i + 1) a.numbers.now)) (line-more a.numbers.now l.i (omega arith)) r-is out_is,
    )

pub returns : goal.returns
returns c =
    let l = c.loop-i in
    let a = c.args in
    wrote_done l.invariant.1 (ap numbers_line (drop_of_length-le a.numbers.now {i = l.i} (omega arith)) ∙ line-none)

-- A number and its closing byte are two runs of stores in a row.
use mathlib.Core.Path.{◌∙◌, ap, ap₂}
use mathlib.Core.List.{List, [], ◌∷◌}
use Prim.Native.Nat.{ℕ, ◌+◌}
use native.Mathlib.Omega.{arith}
use lib.IntN.{ℤ}
use lib.ListN.{length, set, length-append}
use lib.Seq.{sets}
use mir.Syntax.{w64}
use mir.Facts.{to_z-of_z}
use Rattle.lines.specs.Print.{decimal}
use Rattle.lines.proofs.PrintLaws.{decimal-length}
use Rattle.lines.proofs.WriteLaws.{sets_append}
use Rattle.lines.proofs.put_field.Goals as goal

pub bounds-out-e : goal.bounds-out-e
bounds-out-e c =
    let a = c in
    omega (arith, c.put_number-e.ensures.0, c.put_number-e.auto.out, decimal-length a.args.x, ap (λ (z : ℤ). length (decimal z)) (to_z-of_z {w = w64} a.ranges.x))

pub overflow_add-result : goal.overflow_add-result
overflow_add-result c =
    let a = c in
    omega (arith, c.put_number-e.ensures.0, c.put_number-e.auto.out, decimal-length a.args.x, ap (λ (z : ℤ). length (decimal z)) (to_z-of_z {w = w64} a.ranges.x))

pub returns : goal.returns
returns c =
    let s = c in
    let a = s.args in
    let x-is = to_z-of_z {w = w64} s.ranges.x in
    let r-is = c.put_number-e.ensures.0 ∙ ap (λ (z : ℤ). a.at + length (decimal z)) x-is in
    let out_is = c.put_number-e.ensures.1 ∙ ap (λ (z : ℤ). sets a.out.now a.at (decimal z)) x-is in (
      omega (arith, r-is, length-append (decimal a.x) (a.close ∷ [])),
      ap₂ (λ (l : List ℕ) (k : ℕ). set l k a.close) out_is r-is ∙ sets_append a.out.now a.at (decimal a.x) (a.close ∷ []),
    )

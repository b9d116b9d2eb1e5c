-- The sign decides which of the two cases of a decimal number is written. Below 0 the size may be taken of the number or of its opposite, as far as
-- what is written goes: that the opposite of the least number fits no word is left to the overflow.
use mathlib.Core.Path.{◌≡◌, ◌∙◌, ap}
use mathlib.Core.List.{List, ◌∷◌}
use Prim.Native.Nat.{ℕ, ◌+◌}
use native.Mathlib.Numerals.{add-one}
use native.Mathlib.Omega.{arith}
use lib.ListN.{length}
use lib.Seq.{sets}
use mir.Syntax.{w64}
use mir.Facts.{to_z-of_z}
use lib.IntN.{nat_abs}
use Rattle.std.proofs.lemmas.Int.{ints}
use Rattle.whole.proofs.Opposite.{opposite-size}
use Rattle.lines.specs.Print.{natural, decimal}
use Rattle.lines.proofs.PrintLaws.{decimal-below, decimal-above}
use Rattle.lines.proofs.put_number.Goals as goal

pub returns-then-x-lt0 : goal.returns-then-x-lt0
returns-then-x-lt0 c =
    let a = c.args in
    let x-is = to_z-of_z {w = w64} c.ranges.x in
    let d = c.put_natural in
    let s : c.unsigned_abs.result ≡ nat_abs a.x = rw c.unsigned_abs.ensures.value (omega (arith, ints, opposite-size a.x c.ranges.x)) in
    let e : 45 ∷ natural c.unsigned_abs.result ≡ decimal a.x =
    rw s (decimal-below a.x (simp x-is at c.if-x-lt0.true)) in
    let f : a.at + 1 + length (natural c.unsigned_abs.result) ≡ a.at + length (45 ∷ natural c.unsigned_abs.result) = omega arith in (
      d.ensures.0 ∙ f ∙ ap (λ (l : List ℕ). a.at + length l) e,
      d.ensures.1 ∙ rw (add-one a.at) (ap (λ (l : List ℕ). sets a.out.now a.at l) e),
    )

pub returns : goal.returns
returns c =
    let a = c.args in
    let x-is = to_z-of_z {w = w64} c.ranges.x in
    let d = c.put_natural-2 in
    let e : natural c.unsigned_abs-2.result ≡ decimal a.x =
    rw (c.unsigned_abs-2.ensures.value, x-is) (decimal-above a.x (simp x-is at c.if-x-lt0.false)) in
    (d.ensures.0 ∙ ap (λ (l : List ℕ). a.at + length l) e, d.ensures.1 ∙ ap (λ (l : List ℕ). sets a.out.now a.at l) e)

-- What is left of the column, written from here, is the whole of it, written from the start.
use mir.Val.{SFits}
use Rattle.whole.specs.Whole.{whole, facts, by}
use mathlib.Core.Path.{◌≡◌, sym, ◌∙◌, ap}
use mathlib.Core.List.{List}
use Prim.Native.Nat.{◌+◌, ◌-◌, ◌*◌}
use native.Mathlib.Numerals.{add-one}
use native.Mathlib.Omega.{arith}
use lib.IntN.{ℤ}
use lib.ListN.{drop, set, length-set}
use lib.Seq.{sets}
use mir.Syntax.{w64}
use mir.Facts.{to_z-of_z}
use Rattle.dayfile.specs.CallLines.{column}
use Rattle.dayfile.proofs.DayLaws.{column-more}
use Rattle.dayfile.proofs.column_into.Goals as goal

pub loop-j-preserved : goal.loop-j-preserved
loop-j-preserved c =
    let l = c.loop-j in
    let a = c.args in
    let h : SFits w64 c.figure_at.result = by (search whole depth 20) (omega facts) in
    let v-is = to_z-of_z {w = w64} h ∙ c.figure_at.ensures in
    let less : a.p - l.j - 1 ≡ a.p - (l.j + 1) = omega arith in (
      simp length-set l.invariant.0,
      l.invariant.1 ∙ ap (λ (x : List ℤ). sets l.out l.j x) (column-more a.figures.now a.k l.j (a.p - l.j) (omega arith))
          ∙ (λ i. sets (set l.out l.j (sym v-is i)) (sym (add-one l.j) i) (column a.k (less i) (drop ((l.j + 1) * 4) a.figures.now))),
    )

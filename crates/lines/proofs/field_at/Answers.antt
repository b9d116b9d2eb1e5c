-- The number is read and closed, or not, as in the definition.
use mathlib.Core.Path.{sym}
use mir.Facts.{to_z-of_z}
use mir.Syntax.{w64}
use mir.Val.{SFits}
use borrow.Author.Tests.{lt-ltb, le-ltb, eq-eqb, ne_eqb}
use Rattle.std.proofs.Common.{rules}
use Rattle.lines.specs.Lines.{field_at}
use Rattle.lines.proofs.field_at.Goals as goal
use Rattle.lines.proofs.field_at.Goals.{else-n-text-via-then-n-text+else-text-n, else-n-text-via-else-n-text}

pub returns-in_default : goal.returns-in_default
unfolding field_at
returns-in_default c = let h = c.in_default.ensures in rw (sym h)

pub returns-then-text-n : goal.returns-then-text-n
unfolding field_at
returns-then-text-n c =
    let f : SFits w64 c.in-Some.n.value = search rules in
    let h = c.in-Some.ensures in
    rw (sym h, lt-ltb _ _ c.if-n-text.true, eq-eqb _ _ c.if-text-n.true, to_z-of_z {w = w64} f)

pub returns : goal.returns
unfolding field_at
returns c =
    let h = c.in-Some.ensures in
    elim c.else-n-text.branch [
      | else-n-text-via-then-n-text+else-text-n w ↦ rw (sym h, lt-ltb _ _ w.if-n-text.true, ne_eqb _ _ w.if-text-n.false)
      | else-n-text-via-else-n-text w ↦ rw (sym h, le-ltb _ _ w.if-n-text.false)
    ]

-- The digits of `pos n` are those of n, and the closing byte follows them.
use mathlib.Core.Path.{◌∙◌, ap₂}
use mathlib.Core.List.{List, [], ◌∷◌}
use Prim.Native.Nat.{ℕ}
use native.Mathlib.Omega.{arith}
use lib.ListN.{set, length-append}
use Rattle.lines.specs.Print.{natural, decimal}
use Rattle.lines.proofs.PrintLaws.{digits-length}
use Rattle.lines.proofs.WriteLaws.{sets_append}
use Rattle.lines.proofs.put_count.Goals as goal

pub bounds-out-e : goal.bounds-out-e
bounds-out-e c = omega (arith, c.put_natural-e.ensures.0, c.put_natural-e.auto.out, digits-length 20 c.args.n)

pub overflow_add-result : goal.overflow_add-result
overflow_add-result c = omega (arith, c.put_natural-e.ensures.0, c.put_natural-e.auto.out, digits-length 20 c.args.n)

pub returns : goal.returns
unfolding decimal
returns c =
    let a = c.args in
    let k = c.put_natural-e in (
      omega (arith, k.ensures.0, length-append (natural a.n) (a.close ∷ [])),
      ap₂ (λ (l : List ℕ) (e : ℕ). set l e a.close) k.ensures.1 k.ensures.0 ∙ sets_append a.out.now a.at (natural a.n) (a.close ∷ []),
    )

-- `divide_digit` meets its contract: the quotient is never too small, and is taken down until it is not too large. Assumes nothing.
use Prim.Native.Nat.{◌+◌, ◌*◌, ◌/◌}
use native.Mathlib.Nat.{div-add-mod', mod-lt, mul-le-mul}
use native.Mathlib.Omega.{arith}
use Rattle.portions.proofs.divide.divide_digit.Goals as goal

pub loop-quotient-init : goal.loop-quotient-init
loop-quotient-init c =
    let a = c.args in
    let half = a.c / 4294967296 in
    let q = a.left / half in
    let e = div-add-mod' a.c 4294967296 in
    rw c.from-whole.ensures
    (omega (
      arith,
      c.from.ensures,
      c.from-2.ensures,
      div-add-mod' a.left half,
      mod-lt a.left {m = half} (omega (arith, e)),
      mul-le-mul {n₁ = q + 1} {m₁ = half * 4294967296} {n₂ = q + 1} {m₂ = a.c} (omega arith) (omega (arith, e)),
    ))

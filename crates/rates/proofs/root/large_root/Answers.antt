-- `large_root` meets its contract: half of the sum is the root or one less, and a square tells which. Assumes nothing.
use mathlib.Core.Path.{◌≡◌, subst}
use Prim.Native.Nat.{◌+◌, ◌*◌, ◌-◌, ◌/◌, ◌<◌}
use native.Mathlib.Nat.{mul-le-mul}
use native.Mathlib.Omega.{arith}
use Rattle.rates.specs.RootLaws.{Step, heron}
use Rattle.rates.proofs.root.large_root.Goals.{After-near-x}
use Rattle.rates.proofs.root.large_root.Goals as goal

step : (c : After-near-x) → Step c.args.s ((c.near-x.result + c.args.s / c.near-x.result) / 2)
step c = heron c.args.s c.near-x.result c.near-x.ensures

pub overflow_mul-half : goal.overflow_mul-half
overflow_mul-half c = let h = (step c).small in omega (arith, mul-le-mul h h)

pub returns-then-half-s : goal.returns-then-half-s
returns-then-half-s c =
    let h = (c.near-x.result + c.args.s / c.near-x.result) / 2 in
    let e : h ≡ h + 1 - 1 = omega arith in
    record { covers = omega (arith, (step (goal.at.returns-then-half-s c).After-near-x).after); less = subst (λ z. z * z < c.args.s) e c.if-half-s.true }

pub returns-else-half-s : goal.returns-else-half-s
returns-else-half-s c = record { covers = c.if-half-s.false; less = (step (goal.at.returns-else-half-s c).After-near-x).before }

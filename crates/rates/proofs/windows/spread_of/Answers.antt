-- `spread_of` meets its contract: both products and their difference fit, and it is not below 0. Assumes nothing.
use mathlib.Core.Path.{◌≡◌, ap, ◌∙◌}
use lib.IntN.{pos, nat_abs, ◌-ℤ◌, ◌*ℤ◌}
use mir.Syntax.{w64}
use mir.Val.{to_z, of_z}
use Rattle.whole.specs.Reps.{prod}
use Rattle.whole.specs.Whole.{whole, facts, by}
use Rattle.rates.proofs.windows.spread_of.Goals.{Start}
use Rattle.rates.proofs.windows.spread_of.Goals as goal

-- what is worked out
worked : (c : Start) → let a = c.args in
    let x = to_z w64 (of_z w64 (to_z w64 a.m *ℤ to_z w64 (of_z w64 a.squares))) in
    let y = to_z w64 (of_z w64 (to_z w64 (of_z w64 a.sum) *ℤ to_z w64 (of_z w64 a.sum))) in
    to_z w64 (of_z w64 (x -ℤ y)) ≡ (pos a.m *ℤ a.squares) -ℤ (a.sum *ℤ a.sum)
worked c =
    let t = c.requires in
    let p = prod (pos c.args.m) c.args.squares t.few t.squares_in in
    let q = prod c.args.sum c.args.sum t.sum_in t.sum_in in
    by (search whole depth 20) (omega (facts, p, q))

pub returns : goal.returns
returns c = c.unsigned_abs.ensures.value ∙ ap nat_abs (worked (goal.at.returns c).Start)

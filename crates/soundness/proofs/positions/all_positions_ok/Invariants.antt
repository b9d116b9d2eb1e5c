-- `all_positions_ok` meets its contract: the positions in the products before j passed. Assumes nothing.
use mathlib.Core.Bool.{Bool, true}
use mathlib.Core.List.{List}
use mathlib.Core.Path.{◌≡◌}
use Prim.Native.Nat.{ℕ, ◌-◌, ◌≤◌}
use lib.IntN.{ℤ}
use Rattle.whole.specs.Counting.{all}
use Rattle.places.specs.declared.Shape.{Shape}
use Rattle.places.specs.Place.{get}
use Rattle.places.specs.ByAccount.{by_account}
use Rattle.soundness.specs.Sound.{positions_ok}
use Rattle.soundness.proofs.positions.all_positions_ok.Given as goal

abbrev pub ok : List ℤ → Shape → ℕ → Bool
ok W s = positions_ok s.n (get by_account s W)

abbrev pub invariant-loop-j : goal.invariant-loop-j
invariant-loop-j l = (l.j ≤ l.p) × (all l.j (ok l.words l.s) ≡ true)

abbrev pub decreases-loop-j : goal.decreases-loop-j
decreases-loop-j l = l.p - l.j

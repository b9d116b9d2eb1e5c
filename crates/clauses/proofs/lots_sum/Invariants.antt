-- `sum` is the sum of the lots of the accounts before a.
use Prim.Native.Nat.{ℕ}
use mathlib.Core.Path.{◌≡◌}
use mathlib.Core.List.{List}
use lib.IntN.{ℤ}
use Rattle.whole.specs.Counting as Counting
use Rattle.places.specs.declared.Shape.{Shape}
use Rattle.places.specs.Place.{get, lots}
use Rattle.places.specs.ByAccount.{by_account}
use Rattle.clauses.proofs.lots_sum.Given as goal

abbrev pub lotsOf : List ℤ → Shape → ℕ → ℕ → ℤ
lotsOf W s j a = get by_account s W (lots a j)

abbrev pub invariant-loop-a : goal.invariant-loop-a
invariant-loop-a l = l.sum ≡ Counting.sum l.a (lotsOf l.words l.s l.j)

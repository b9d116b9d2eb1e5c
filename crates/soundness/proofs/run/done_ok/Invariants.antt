-- `done_ok` meets its contract: due 0 is zero in the accounts before a. Assumes nothing.
use Prim.Native.Nat.{ℕ}
use mathlib.Core.Path.{◌≡◌}
use mathlib.Core.Bool.{Bool, true}
use mathlib.Core.List.{List}
use lib.IntN.{ℤ}
use Rattle.whole.specs.Number.{is}
use Rattle.whole.specs.Counting.{all}
use Rattle.places.specs.declared.Shape.{Shape}
use Rattle.places.specs.Place.{get, due}
use Rattle.places.specs.ByAccount.{by_account}
use Rattle.soundness.proofs.run.done_ok.Given as goal

abbrev pub ok : List ℤ → Shape → ℕ → Bool
ok W s a = is 0 (get by_account s W (due a 0))

abbrev pub invariant-loop-a : goal.invariant-loop-a
invariant-loop-a l = (all l.a (ok l.words l.s) ≡ true)

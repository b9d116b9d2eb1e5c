-- `two_ok` meets its contract: the positions of the accounts before a passed in both products, and `sum` and `rest` are the sums of their lots. Assumes nothing.
use mathlib.Core.Bool.{true}
use mathlib.Core.List.{List}
use mathlib.Core.Path.{◌≡◌}
use Prim.Native.Nat.{ℕ}
use lib.IntN.{ℤ}
use Rattle.whole.specs.Counting.{all, sum}
use Rattle.places.specs.declared.Shape.{Shape}
use Rattle.places.specs.Place.{get, lots}
use Rattle.places.specs.ByAccount.{by_account}
use Rattle.soundness.specs.Sound.{held_ok}
use Rattle.soundness.proofs.positions.two_ok.Given as goal

-- the positions of the accounts before a in a product, and their sum
abbrev pub Walked : List ℤ → Shape → ℕ → ℕ → ℤ → Type 0
Walked W s j a t = (all a (held_ok (get by_account s W) j) ≡ true) × (t ≡ sum a (λ b. get by_account s W (lots b j)))

abbrev pub invariant-loop-a : goal.invariant-loop-a
invariant-loop-a l = Walked l.words l.s l.j l.a l.sum × Walked l.words l.s l.k l.a l.rest

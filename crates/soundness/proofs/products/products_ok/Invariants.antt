-- `products_ok` meets its contract: the products before j passed. Assumes nothing.
use Prim.Native.Nat.{ℕ}
use mathlib.Core.Path.{◌≡◌}
use mathlib.Core.Bool.{Bool, true}
use mathlib.Core.List.{List}
use lib.IntN.{ℤ}
use Rattle.whole.specs.Counting.{all}
use Rattle.places.specs.declared.Shape.{Shape}
use Rattle.places.specs.Place.{get}
use Rattle.places.specs.ByAccount.{by_account}
use Rattle.soundness.specs.Sound.{product_ok}
use Rattle.soundness.proofs.products.products_ok.Given as goal

abbrev pub ok : List ℤ → Shape → ℕ → Bool
ok W s = product_ok (get by_account s W)

abbrev pub invariant-loop-j : goal.invariant-loop-j
invariant-loop-j l = (all l.j (ok l.words l.s) ≡ true)

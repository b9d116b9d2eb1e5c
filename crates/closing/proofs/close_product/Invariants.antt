-- `close_product` meets its contract: the accounts before a have had their turn, and a's own words are as they were (`turns_unseen`). Assumes nothing.
use mathlib.Core.Path.{◌≡◌}
use mathlib.Core.List.{List}
use Prim.Native.Nat.{ℕ}
use lib.IntN.{ℤ}
use Rattle.places.specs.declared.Shape.{Shape}
use Rattle.places.specs.Place.{View, Put, get}
use Rattle.places.specs.ByAccount.{by_account}
use Rattle.places.specs.Passes.{turns}
use Rattle.daily.specs.declared.Figures.{Figures}
use Rattle.daily.specs.Given.{of_lists}
use Rattle.closing.specs.Walk.{product_puts}
use Rattle.closing.proofs.close_product.Given as goal

-- the turns of the product j, by the words at the beginning
abbrev pub turnsOf : Figures → Shape → ℕ → List ℤ → View → ℕ → List Put
turnsOf f s j W = of_lists f (product_puts by_account s) j (get by_account s W)

abbrev pub invariant-loop-a : goal.invariant-loop-a
invariant-loop-a l = l.words ≡ turns by_account l.s (turnsOf l.fn.figures l.s l.j l.initial.words) l.a l.initial.words

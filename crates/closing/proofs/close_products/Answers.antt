-- `close_products` meets its contract: the first j products are walked, and what the next one relies on still holds (`named_then`, `column_then`).
-- Assumes nothing.
use mathlib.Core.Path.{◌≡◌, sym, subst}
use mathlib.Core.List.{List}
use Prim.Native.Nat.{ℕ, ◌≤◌}
use native.Mathlib.Omega.{arith}
use lib.IntN.{ℤ}
use Rattle.places.specs.declared.Shape.{Shape}
use Rattle.places.specs.Place.{View, get, due}
use Rattle.places.specs.PlaceLaws.{Sized}
use Rattle.places.specs.ByAccount.{by_account}
use Rattle.daily.specs.Ranges.{Rates, Lags}
use Rattle.closing.specs.Walk.{walked}
use Rattle.closing.specs.Stages.{Stage, stage_walked}
use Rattle.closing.specs.WholeWalk.{Started, stage_none, named_then, column_then}
use Rattle.closing.proofs.close_products.Goals as goal

-- the words X after j products
module _ (s : Shape) (P L W8 W104 W : List ℤ) (z : Sized s W) (st : Started P s (get by_account s W)) (r : Rates s.p W8 W104) (ls : Lags s.p L)
    (j : ℕ) (h : j ≤ s.p) (X : List ℤ) (e : X ≡ walked by_account s P W8 W104 L j W) where
  abbrev g : View
  g = get by_account s W

  start : Stage P W8 W104 L s g (λ b d. g (due b d)) (λ b. 0) 0 g
  start = stage_none P W8 W104 L s g z.few' st r

  then : Stage P W8 W104 L s g (λ b d. g (due b d)) (λ b. j) j (get by_account s X)
  then =
      subst (λ Y. Stage P W8 W104 L s g (λ b d. g (due b d)) (λ b. j) j (get by_account s Y)) (sym e)
      (stage_walked P W8 W104 L s g (λ b d. g (due b d)) by_account ls.names W z.sized start j h)

pub close_product-requires-clause-named : goal.close_product-requires-clause-named
close_product-requires-clause-named c =
    let x = c.args in let f = x.figures in let r = c.requires in let j = c.loop-j.j in let s = x.s in let g = get by_account s x.words.now in
    named_then f.prices.now f.rates8.now f.rates104.now f.lags.now s g r.sized.few' r.started r.rates r.lags.names j (omega arith) (get by_account s c.loop-j.words)
    (then s f.prices.now f.lags.now f.rates8.now f.rates104.now x.words.now r.sized r.started r.rates r.lags j (omega arith) c.loop-j.words c.loop-j.invariant)

pub close_product-requires-clause-column : goal.close_product-requires-clause-column
close_product-requires-clause-column c =
    let x = c.args in let f = x.figures in let r = c.requires in let j = c.loop-j.j in let s = x.s in let g = get by_account s x.words.now in
    column_then f.prices.now f.rates8.now f.rates104.now f.lags.now s g r.sized.few' r.started r.rates r.lags.names j (omega arith) (get by_account s c.loop-j.words)
    (then s f.prices.now f.lags.now f.rates8.now f.rates104.now x.words.now r.sized r.started r.rates r.lags j (omega arith) c.loop-j.words c.loop-j.invariant)

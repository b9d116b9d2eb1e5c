-- Laws of weights, negative differences and layers: how large they can be. Assumes nothing.
use Rattle.std.specs.Prelude.{◌≡◌, Bool, true, false, cond, List, ℕ, ◌+◌, ◌≤◌, ℤ, pos, nat_abs, length, get_or}
use Rattle.std.proofs.Common.{zero-le}
use native.Mathlib.Omega.{arith}
use Rattle.whole.specs.Number.{pp, nn}
use Rattle.whole.specs.Counting.{total}
use Rattle.whole.specs.Signs.{abs_is}
use Rattle.whole.specs.Reps.{Each}
use Rattle.shares.specs.Loss.{survives, weight_of, negative_of, weight, negative, layer, layer_one, layer_two, most_two, remains}

-- a weight and a negative difference are no larger than the figure
pub weight-of-most : (mark figure : ℤ) → weight_of mark figure ≤ nat_abs figure
unfolding weight_of
weight-of-most mark figure = go (survives mark)
  where
    go : (t : Bool) → cond t (pp figure) 0 ≤ nat_abs figure
    go true = omega (arith, abs_is figure)
    go false = zero-le

pub negative-of-most : (mark figure : ℤ) → negative_of mark figure ≤ nat_abs figure
unfolding negative_of
negative-of-most mark figure = go (survives mark)
  where
    go : (t : Bool) → cond t 0 (nn figure) ≤ nat_abs figure
    go true = zero-le
    go false = omega (arith, abs_is figure)

module _ (b : ℕ) (marks figures : List ℤ) (e : Each b figures) where
  pub weight-most : (i : ℕ) → weight marks figures i ≤ b
  unfolding weight
  weight-most i = let h = e.at i in omega (arith, weight-of-most (get_or marks i (pos 0)) (get_or figures i (pos 0)))

  pub negative-most : (i : ℕ) → negative marks figures i ≤ b
  unfolding negative
  negative-most i = let h = e.at i in omega (arith, negative-of-most (get_or marks i (pos 0)) (get_or figures i (pos 0)))

-- a layer is no more than it may be, and no more than the survivors weigh
module _ (most : ℕ) (marks figures : List ℤ) where
  pub layer-most : layer most marks figures ≤ most
  unfolding layer
  layer-most = omega arith

  pub layer_weighed : layer most marks figures ≤ total (length figures) (weight marks figures)
  unfolding layer
  layer_weighed = omega arith

-- what the two layers cover and what remains are the loss
pub covered : (loss : ℕ) (deposits differences marks : List ℤ) → layer_one loss deposits marks + layer_two loss deposits differences marks + remains loss deposits differences marks ≡ loss
unfolding remains most_two
covered loss deposits differences marks =
    omega (arith, layer-most loss marks deposits, layer-most (most_two loss deposits differences marks) marks differences)

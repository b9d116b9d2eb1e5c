-- `layer` meets its contract: the list that was written holds the weights, and so the shares by it are the layer's. Assumes nothing.
use mathlib.Core.Path.{◌≡◌, refl, sym, ap, ◌∙◌}
use mathlib.Core.List.{List}
use Prim.Native.Nat.{ℕ, ◌≤◌, ◌<◌}
use native.Mathlib.Omega.{arith}
use lib.IntN.{ℤ, pos}
use lib.ListN.{length}
use Rattle.whole.specs.Reps.{Each}
use Rattle.whole.specs.Counting.{total, listed}
use Rattle.whole.specs.CountingLaws.{total-same}
use Rattle.whole.specs.Listed.{length-listed, get_or-listed, listed_same, listed-most}
use Rattle.portions.specs.Share.{of_member, share_of, shares}
use Rattle.portions.specs.ShareLaws.{share-same}
use Rattle.portions.specs.Bounds.{Weights, most_members, most_weight}
use Rattle.shares.specs.Loss.{weight, layer, bears, layer_shares, most_figure}
use Rattle.shares.specs.LossLaws.{weight-most, layer-most}
use Rattle.shares.proofs.layers.Members.layer.Goals.{After-min-amount}
use Rattle.shares.proofs.layers.Members.layer.Goals as goal

module _ (marks figures : List ℤ) (ws : List ℕ) (e : ws ≡ listed (length figures) (weight marks figures)) where
  abbrev n : ℕ
  n = length figures

  sized : length ws ≡ n
  sized = ap length e ∙ length-listed n (weight marks figures)

  weights-ok : n ≤ most_members → Each most_figure figures → Weights ws
  weights-ok h b =
      record {
        few = omega (arith, sized);
        small = λ i. rw e (listed-most n (weight marks figures) most_weight (λ k. omega (arith, weight-most most_figure marks figures b k)) i);
      }

  each-weight : (i : ℕ) → i < n → of_member ws i ≡ weight marks figures i
  each-weight i b = rw e (get_or-listed n (weight marks figures) 0 i b)

  total-is : total (length ws) (of_member ws) ≡ total n (weight marks figures)
  total-is = rw sized (total-same n (of_member ws) (weight marks figures) each-weight)

  shares-are : (most amount : ℕ) (out : List ℤ) → amount ≡ layer most marks figures → out ≡ shares amount ws → out ≡ layer_shares most marks figures
  unfolding layer_shares
  shares-are most amount out a o =
      o
      ∙ rw (sized, a)
      (listed_same n
      (λ i. pos (share_of n (of_member ws) (layer most marks figures) i))
      (λ i. pos (bears most marks figures i))
      (λ i b. ap pos (share-same n (of_member ws) (weight marks figures) (layer most marks figures) each-weight i b)))

-- how large the layer is
amount-is : (c : After-min-amount) → let s = c.args.self in c.min-amount.result ≡ layer c.args.most s.marks.now s.figures.now
unfolding layer
amount-is c = c.min-amount.ensures ∙ rw c.weigh-sum.ensures.value refl

pub share-requires : goal.share-requires
share-requires c =
    let s = c.args.self in
    let w = c.weigh-sum.ensures in
    let m = s.marks.now in
    let f = s.figures.now in
    record {
      fact_1 = weights-ok m f _ w.weights_after s.few s.in_range;
      fact_2 = omega (arith, amount-is (goal.at.share-requires c).After-min-amount, layer-most c.args.most m f, c.requires.most_in);
      fact_3 = c.requires.out_long ∙ sym (sized m f _ w.weights_after);
      fact_4 = w.value ∙ sym (total-is m f _ w.weights_after);
    }

pub returns : goal.returns
returns c =
    let s = c.args.self in
    let w = c.weigh-sum.ensures.weights_after in
    let a = amount-is (goal.at.returns c).After-min-amount in
    record { value = a; out_after = shares-are s.marks.now s.figures.now _ w c.args.most _ _ a c.share.ensures; weights_after = w }

-- What a member will ask of a default loss that is shared (document 01, "Sharing a default loss"). `bears most marks figures i` is member i's share of
-- a layer of at most `most`: of layer one with the deposits, of layer two with the differences. Assumes nothing.
use Rattle.std.specs.Prelude.{◌≡◌, false, ◌⊎◌, ℕ, zero, suc, ◌+◌, ◌*◌, ◌≤◌, ◌<◌, ℤ, nat_abs, ◌+ℤ◌}
use Rattle.std.proofs.Math.Path.{refl}
use Rattle.std.proofs.Common.{sym, ap, ◌∙◌, arith, eq-eqb, ne_eqb}
use mathlib.Core.List.{List}
use Rattle.std.proofs.Math.IntN.{pos}
use Rattle.std.proofs.Math.ListN.{length}
use Rattle.whole.specs.Counting.{sum, total, figure_at}
use Rattle.whole.specs.CountingLaws.{sum_same, total-most}
use Rattle.whole.specs.Listed.{get_or-listed}
use Rattle.portions.specs.PortionTheorems as T
use Rattle.rules.specs.declared.Reply.{Reply}
use Rattle.shares.specs.Loss.{refusal, survives, weight_of, weight, layer, bears, layer_shares, layer_one, layer_two, most_two, shares_one, shares_two, remains, reply, loss_shared}
use Rattle.shares.specs.LossLaws.{weight-of-most, layer_weighed, covered}
use Rattle.shares.specs.Accepted.{accepted}

-- ---- the shares of a layer

sum_naturals : (n : ℕ) (f : ℕ → ℕ) → sum n (λ i. pos (f i)) ≡ pos (total n f)
sum_naturals zero f = refl
sum_naturals (suc n) f = rw (sum_naturals n f) refl

module _ (most : ℕ) (marks figures : List ℤ) where
  -- the members, what each weighs, the layer, and what each bears of it
  abbrev n : ℕ
  n = length figures

  abbrev weighs : ℕ → ℕ
  weighs = weight marks figures

  abbrev whole : ℕ
  whole = layer most marks figures

  abbrev share : ℕ → ℕ
  share = bears most marks figures

  -- The shares of a layer add exactly to the layer.
  pub shares-add-to-layer : total n share ≡ whole
  shares-add-to-layer = T.layer_adds n weighs whole (layer_weighed most marks figures)

  -- No member bears more than he weighs, and so no more than his figure.
  pub bears-within-weight : (i : ℕ) → share i ≤ weighs i
  bears-within-weight = T.share-within n weighs whole (layer_weighed most marks figures)

  pub bears-within_figure : (i : ℕ) → share i ≤ nat_abs (figure_at figures i)
  unfolding weight
  bears-within_figure i = omega (arith, bears-within-weight i, weight-of-most (figure_at marks i) (figure_at figures i))

  -- A defaulter bears nothing.
  pub defaulter_bears-nothing : (i : ℕ) → survives (figure_at marks i) ≡ false → share i ≡ 0
  unfolding weight weight_of
  defaulter_bears-nothing i h = T.no-weight n weighs whole i (rw h refl)

  -- Of an empty layer nobody bears anything.
  pub empty_layer : whole ≡ 0 → (i : ℕ) → share i ≡ 0
  empty_layer = T.empty n weighs whole

  -- A larger weight never bears less than a smaller one.
  pub larger-weight-bears-no-less : (i j : ℕ) → i < n → weighs j < weighs i → share j ≤ share i
  larger-weight-bears-no-less = T.larger-weight n weighs whole

  -- Of two equal weights the lower member bears as much as the other, or exactly one yen more.
  pub equal_weights_differ_by_a_yen : (i j : ℕ) → i < j → j < n → weighs i ≡ weighs j → (share i ≡ share j) ⊎ (share i ≡ share j + 1)
  equal_weights_differ_by_a_yen = T.equal_weights n weighs whole

  -- What stands in the written list is what each bears,
  pub written : (i : ℕ) → i < n → figure_at (layer_shares most marks figures) i ≡ pos (share i)
  unfolding layer_shares
  written i b = get_or-listed n (λ k. pos (share k)) (pos 0) i b

  -- and the words of that list add to the layer.
  pub written_adds : sum n (figure_at (layer_shares most marks figures)) ≡ pos whole
  written_adds = sum_same n (figure_at (layer_shares most marks figures)) (λ i. pos (share i)) written ∙ sum_naturals n share ∙ ap pos shares-add-to-layer

-- ---- the whole loss

module _ (loss : ℕ) (deposits differences marks : List ℤ) where
  -- What the two layers cover and what remains add to the loss.
  pub covered-and-remains : layer_one loss deposits marks + layer_two loss deposits differences marks + remains loss deposits differences marks ≡ loss
  covered-and-remains = covered loss deposits differences marks

  -- Where all are in default the whole loss remains.
  pub all_in_default : length differences ≡ length deposits → ((i : ℕ) → i < length deposits → survives (figure_at marks i) ≡ false) → remains loss deposits differences marks ≡ loss
  unfolding layer weight weight_of remains
  all_in_default e h = omega (arith, none deposits h, none differences (λ i b. h i (omega arith)))
    where
      none : (figures : List ℤ) → ((i : ℕ) → i < length figures → survives (figure_at marks i) ≡ false) → total (length figures) (weight marks figures) ≤ length figures * 0
      none figures d = total-most 0 (length figures) (weight marks figures) (λ i b. rw (d i b) (omega arith))

-- ---- the call

module _ (loss : ℤ) (deposits differences marks first second : List ℤ) where
  abbrev number : ℕ
  number = refusal loss deposits differences marks (length first) (length second)

  abbrev answer : Reply × List ℤ × List ℤ
  answer = loss_shared loss deposits differences marks first second

  -- A refusal answers its number and 0, and alters nothing.
  pub refused_alters_nothing : (number ≡ 0 → ⊥) → answer ≡ (reply number (pos 0), first, second)
  unfolding loss_shared
  refused_alters_nothing h = rw (ne_eqb number 0 h) refl

  -- A loss that is accepted is answered by 0 and what remains, and the shares of both layers are written.
  pub accepted_is_shared : number ≡ 0 →
      answer ≡ (reply 0 (pos (remains (nat_abs loss) deposits differences marks)), shares_one (nat_abs loss) deposits marks, shares_two (nat_abs loss) deposits differences marks)
  unfolding loss_shared
  accepted_is_shared e = rw (eq-eqb number 0 e) refl

  -- What stands in both written lists and what remains then add to the loss.
  pub nothing-is-lost : number ≡ 0 → sum (length deposits) (figure_at answer.1) +ℤ sum (length differences) (figure_at answer.2) +ℤ answer.0.figure ≡ loss
  nothing-is-lost e =
      rw (accepted_is_shared e, written_adds (nat_abs loss) marks deposits, written_adds (most_two (nat_abs loss) deposits differences marks) marks differences)
      (ap pos (covered (nat_abs loss) deposits differences marks) ∙ sym (accepted loss deposits differences marks (length first) (length second) e).loss_natural)

  -- Any two results that the contract permits are one.
  pub one_answer : (a b : Reply × List ℤ × List ℤ) → a ≡ answer → b ≡ answer → a ≡ b
  one_answer a b p q = p ∙ sym q

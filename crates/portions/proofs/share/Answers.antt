-- `share` meets its contract: where there is nothing to share, or nobody to share it, each share is 0, and where the amount is the sum of the
-- weights each share is the weight. Assumes nothing.
use mathlib.Core.Path.{◌≡◌, refl, sym, ap, ◌∙◌}
use Prim.Native.Nat.{ℕ, zero, suc, ◌<◌}
use native.Mathlib.Omega.{arith}
use lib.IntN.{pos}
use lib.ListN.{length, replicate}
use Rattle.std.proofs.Common.{⊎_elim, add-one, rules, ◌∷◌, [], ◌++◌}
use Rattle.std.proofs.lemmas.List.{replicate_more}
use Rattle.whole.specs.Counting.{total, listed}
use Rattle.whole.specs.Listed.{listed_same}
use Rattle.portions.specs.Share.{of_member, share_of}
use Rattle.portions.specs.ShareLaws.{share-none, share-nothing, share-all}
use Rattle.portions.proofs.share.Goals as goal

-- what is listed is the shares where each share is that
are-shares : (n : ℕ) (w : ℕ → ℕ) (amount : ℕ) (f : ℕ → ℕ) → ((i : ℕ) → share_of n w amount i ≡ f i) → listed n (λ i. pos (f i)) ≡ listed n (λ i. pos (share_of n w amount i))
are-shares n w amount f h = listed_same n (λ i. pos (f i)) (λ i. pos (share_of n w amount i)) (λ i b. ap pos (sym (h i)))

-- one word so often is what is listed of it
so-often : {A : Type 0} (n : ℕ) (x : A) → replicate n x ≡ listed n (λ i. x)
unfolding listed
so-often zero x = refl
so-often (suc n) x = rw add-one at (sym (replicate_more n x)) ∙ ap (λ l. l ++ x ∷ []) (so-often n x)

pub returns-then-amount-eq0 : goal.returns-then-amount-eq0
returns-then-amount-eq0 c =
    let a = c.args in
    let n = length a.weights.now in
    let w = of_member a.weights.now in
    let none : (i : ℕ) → share_of n w a.amount i ≡ 0 = ⊎_elim (share-nothing n w a.amount) (λ z. share-none n w a.amount (sym c.requires.fact_4 ∙ z.1)) c.then-amount-eq0.either in
    c.fill.ensures.after (search rules) ∙ rw c.requires.fact_3 (so-often n (pos 0)) ∙ are-shares n w a.amount (λ i. 0) none

pub returns-then-amount-sum : goal.returns-then-amount-sum
returns-then-amount-sum c =
    let s = c in
    let ws = s.args.weights.now in
    let some : 0 < total (length ws) (of_member ws) = omega (arith, s.requires.fact_4) in
    c.give_all.ensures ∙ are-shares (length ws) (of_member ws) s.args.amount (of_member ws) (share-all (length ws) (of_member ws) s.args.amount some (c.if-amount-sum.true ∙ s.requires.fact_4))

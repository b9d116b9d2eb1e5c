-- `share` meets its contract: the floors, with a yen for each member whom the cut does not come before, are the shares. Assumes nothing.
use mathlib.Core.Path.{◌≡◌, refl, ◌∙◌}
use mathlib.Core.Bool.{not}
use mathlib.Core.List.{List}
use Prim.Native.Nat.{ℕ, ◌≤◌, ◌<◌}
use native.Mathlib.Omega.{arith}
use lib.IntN.{ℤ, pos, ◌+ℤ◌, nat_abs}
use lib.ListN.{length, get_or}
use Rattle.whole.specs.Counting.{total, one_if, listed}
use Rattle.whole.specs.Listed.{each_of, length-listed, get_or-listed, listed_same}
use Rattle.whole.specs.Reps.{Each}
use Rattle.portions.specs.Share.{of_member, comes_before, how_many_before, floor_of, remainder_of, left, share_of}
use Rattle.portions.specs.Bounds.{most_amount}
use Rattle.portions.specs.Order.{many_before-same}
use Rattle.portions.specs.Cut.{Cuts}
use Rattle.portions.specs.ShareLaws.{floor-most, rem_lt, extra_some, share-is}
use Rattle.portions.proofs.Sharing.share.Goals.{Start}
use Rattle.portions.proofs.Sharing.share.Goals as goal

module _ (n : ℕ) (w : ℕ → ℕ) (amount : ℕ) (some : 0 < total n w) where
  abbrev floors : List ℤ
  floors = listed n (λ i. pos (floor_of n w amount i))

  abbrev remainders : List ℕ
  remainders = listed n (remainder_of n w amount)

  -- every word of the list of floors is within the largest amount
  within : amount ≤ most_amount → Each most_amount floors
  within h = each_of most_amount floors (λ k b. word k (rw (length-listed n (λ i. pos (floor_of n w amount i))) at b))
    where
      word : (k : ℕ) → k < n → nat_abs (get_or floors k (pos 0)) ≤ most_amount
      word k b = rw (get_or-listed n (λ i. pos (floor_of n w amount i)) (pos 0) k b) (omega (arith, floor-most n w amount some k b))

  -- the remainders are below the sum, and are not 0 where a yen goes
  remainder : (i : ℕ) → i < n → of_member remainders i ≡ remainder_of n w amount i
  remainder i b = get_or-listed n (remainder_of n w amount) 0 i b

  long : length remainders ≡ n
  long = length-listed n (remainder_of n w amount)

  below-sum : (i : ℕ) → i < length remainders → of_member remainders i < total n w
  below-sum i b = let c : i < n = rw long at b in rw (remainder i c) (rem_lt n w amount some i)

  some-remainder : (yen : ℕ) → yen ≡ left n w amount → (i : ℕ) → i < length remainders → how_many_before (length remainders) (of_member remainders) i < yen
      → 0 < of_member remainders i
  some-remainder yen y i b h =
      let c : i < n = rw long at b in
      rw (remainder i c) (extra_some n w amount some i (rw (long, many_before-same n (of_member remainders) (remainder_of n w amount) remainder i c, y) at h))

  -- with the yen that are left the floors are the shares
  shared : (yen x j : ℕ) → yen ≡ left n w amount → Cuts (length remainders) (of_member remainders) yen x j → (two : List ℤ) →
      two ≡ listed (length floors) (λ i. get_or floors i (pos 0) +ℤ pos (one_if (not (comes_before x j (of_member remainders i) i)))) →
      two ≡ listed n (λ i. pos (share_of n w amount i))
  shared yen x j y c two h = h ∙ rw (length-listed n (λ i. pos (floor_of n w amount i))) (listed_same n _ _ word)
    where
      word : (i : ℕ) → i < n → get_or floors i (pos 0) +ℤ pos (one_if (not (comes_before x j (of_member remainders i) i))) ≡ pos (share_of n w amount i)
      word i b =
          rw (
            get_or-listed n (λ k. pos (floor_of n w amount k)) (pos 0) i b,
            ← c.parts i (rw long b),
            long,
            many_before-same n (of_member remainders) (remainder_of n w amount) remainder i b,
            y,
            share-is n w amount some i,
          )
          refl

-- somebody has a weight
some-weight : (c : Start) → let ws = c.args.self.weights.now in 0 < total (length ws) (of_member ws)
some-weight c = rw c.args.self.sum_is at c.args.self.some

pub last_owner-last-requires : goal.last_owner-last-requires
last_owner-last-requires c =
    let s = c.args.self in
    let ws = s.weights.now in
    let h = some-weight (goal.at.last_owner-last-requires c).Start in
    let e = c.floors-yen.ensures in
    rw e.remainders_after
    (record {
      below_sum = rw s.sum_is (below-sum (length ws) (of_member ws) s.amount h);
      by_index = some-remainder (length ws) (of_member ws) s.amount h _ e.value;
    })

pub hand_out-requires-clause-fact_2 : goal.hand_out-requires-clause-fact_2
hand_out-requires-clause-fact_2 c =
    let s = c.args.self in
    let ws = s.weights.now in
    rw c.floors-yen.ensures.out_after (within (length ws) (of_member ws) s.amount (some-weight (goal.at.hand_out-requires-clause-fact_2 c).Start) s.amount_in)

pub returns : goal.returns
returns c =
    let s = c.args.self in
    let ws = s.weights.now in
    let e = c.floors-yen.ensures in
    shared (length ws) (of_member ws) s.amount (some-weight (goal.at.returns c).Start) _ _ _ e.value (rw e.remainders_after at c.last_owner-last.ensures) _ (rw (e.remainders_after, e.out_after) at c.hand_out.ensures)

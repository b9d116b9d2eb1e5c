-- What a member will ask of the house rule on shares (document 01, "Sharing a default loss"). Each is a theorem on `share_of`, for any weights and
-- any amount. Assumes nothing.
use Rattle.std.specs.Prelude.{◌≡◌, Bool, true, false, ◌⊎◌, ℕ, ◌+◌, ◌≤◌, ◌<◌, ltb}
use Rattle.std.proofs.Common.{inl, inr, ⊎_elim, lt_of_mul-lt-mul_right, mul-le-mul_right, arith, ltb-true, ltb-false}
use Rattle.std.proofs.Math.Nat.{mul-lt-mul_of_pos_left}
use Rattle.whole.specs.Counting.{total, how_many}
use Rattle.whole.specs.CountingLaws.{total-most}
use Rattle.whole.specs.Tests.{true_or_false, clash}
use Rattle.portions.specs.Share.{before, how_many_before, remainder_of, left, gets_yen, share_of}
use Rattle.portions.specs.Order.{three_ways, one-first, many_before-lt, served-is}
use Rattle.portions.specs.ShareLaws.{share_near, left-most, larger, tie, shares_are_amount, some_or_none, share-none, share-nothing, share-no-weight}

module _ (n : ℕ) (weight : ℕ → ℕ) (amount : ℕ) where
  -- the sum of the weights, member i's share, his remainder, and whether he gets one of the yen left
  abbrev sum : ℕ
  sum = total n weight

  abbrev share : ℕ → ℕ
  share = share_of n weight amount

  abbrev remainder : ℕ → ℕ
  remainder = remainder_of n weight amount

  abbrev gets : ℕ → Bool
  gets = gets_yen n weight amount

  -- The shares add exactly to the amount, where somebody has a weight;
  pub shares-add : 0 < sum → total n share ≡ amount
  shares-add s = shares_are_amount n weight amount s

  -- and to a layer, which never passes the sum, in any case.
  pub layer_adds : amount ≤ sum → total n share ≡ amount
  layer_adds h =
      ⊎_elim
      shares-add
      (λ z. omega (arith, total-most 0 n share (λ i b. omega (arith, share-none n weight amount z i))))
      (some_or_none n weight amount)

  -- No share of a layer passes its weight.
  pub share-within : amount ≤ sum → (i : ℕ) → share i ≤ weight i
  share-within h i =
      ⊎_elim
      (λ s. omega (arith, lt_of_mul-lt-mul_right sum {m = share i} {n = weight i + 1} (omega (arith, share_near n weight amount s i, mul-le-mul_right (weight i) h))))
      (λ z. omega (arith, share-none n weight amount z i))
      (some_or_none n weight amount)

  -- No weight, no share.
  pub no-weight : (i : ℕ) → weight i ≡ 0 → share i ≡ 0
  no-weight = share-no-weight n weight amount

  -- Nothing to share, no share.
  pub empty : amount ≡ 0 → (i : ℕ) → share i ≡ 0
  empty = share-nothing n weight amount

  -- A larger weight never gets less.
  pub larger-weight : (i j : ℕ) → i < n → weight j < weight i → share j ≤ share i
  larger-weight i j b h =
      ⊎_elim
      (λ s. ⊎_elim
      (λ e. larger n weight amount s i j b (mul-lt-mul_of_pos_left h (ltb-true 0 amount e)))
      (λ e. omega (arith, empty (omega (arith, ltb-false 0 amount e)) j))
      (true_or_false (ltb 0 amount)))
      (λ z. omega (arith, share-none n weight amount z j))
      (some_or_none n weight amount)

  -- Of two equal weights the lower member gets as much as the other, or exactly one yen more.
  pub equal_weights : (i j : ℕ) → i < j → j < n → weight i ≡ weight j → (share i ≡ share j) ⊎ (share i ≡ share j + 1)
  equal_weights i j b c e =
      let h = tie n weight amount i j b c e in
      ⊎_elim
      (λ f. inr (omega (arith, ltb-true (share j) (share i) f)))
      (λ f. inl (omega (arith, ltb-false (share j) (share i) f)))
      (true_or_false (ltb (share j) (share i)))

  -- As many members get a yen as there are yen left,
  pub yen_handed_out : 0 < sum → how_many n gets ≡ left n weight amount
  yen_handed_out s = served-is n remainder (left n weight amount) (left-most n weight amount s)

  -- and who gets one comes before everybody who gets none: his remainder is larger, or the same and his number is lower.
  pub yen-to_the_first : (i j : ℕ) → i < n → j < n → gets i ≡ true → gets j ≡ false → before remainder i j ≡ true
  yen-to_the_first i j b c e f = ⊎_elim lower (λ l. ⊎_elim higher (λ q. clash (rw q at e) f) l) (three_ways i j)
    where
      no : before remainder j i ≡ true → before remainder i j ≡ true
      no h =
          let p = ltb-true (how_many_before n remainder i) (left n weight amount) e in
          let q = ltb-false (how_many_before n remainder j) (left n weight amount) f in
          absurd (omega (arith, many_before-lt n remainder j i c h))

      lower : i < j → before remainder i j ≡ true
      lower l = ⊎_elim (λ h. h) no (one-first remainder i j l)

      higher : j < i → before remainder i j ≡ true
      higher l = ⊎_elim no (λ h. h) (one-first remainder j i l)

-- Laws of the shares: floors and remainders, the yen left and who gets one. Assumes nothing.
use Rattle.std.specs.Prelude.{◌≡◌, Bool, true, ◌⊎◌, ℕ, ◌+◌, ◌*◌, ◌≤◌, ◌<◌, ltb}
use Rattle.std.proofs.Math.Path.{refl}
use Rattle.std.proofs.Common.{sym, ap, ◌∙◌, inl, inr, mul-zero, zero-mul, mul_comm, le_of_mul-le-mul_right, add-zero, lt_of_mul-lt-mul_right, mul-le-mul_left, arith}
use Rattle.std.proofs.Math.Logic.{⊎_elim}
use Rattle.std.proofs.Math.Nat.{div-add-mod', mod-lt, mul-div_cancel_left}
use borrow.Author.Tests.{ltb-true, ltb-false, lt-ltb, eq-eqb, ne_eqb}
use Rattle.whole.specs.Counting.{total, how_many, one_if}
use Rattle.whole.specs.CountingLaws.{total-same, total-le, total-add, total_times, total-one, many_le, many_all}
use Rattle.whole.specs.Tests.{true_or_false}
use Rattle.portions.specs.Share.{before, how_many_before, floor_of, remainder_of, left, share_of}
use Rattle.portions.specs.Order.{is-before, many_before-lt, many_before-same, served-is}

module _ (n : ℕ) (weight : ℕ → ℕ) (amount : ℕ) (some : 0 < total n weight) where
  abbrev whole : ℕ
  whole = total n weight

  abbrev floor : ℕ → ℕ
  floor = floor_of n weight amount

  abbrev rem : ℕ → ℕ
  rem = remainder_of n weight amount

  pub share-is : (i : ℕ) → share_of n weight amount i ≡ floor i + one_if (ltb (how_many_before n rem i) (left n weight amount))
  unfolding share_of
  share-is i = rw (ne_eqb (total n weight) 0 (λ e. omega arith))

  pub parts : (i : ℕ) → floor i * whole + rem i ≡ amount * weight i
  unfolding floor_of remainder_of
  parts i = div-add-mod' (amount * weight i) whole

  pub rem_lt : (i : ℕ) → rem i < whole
  unfolding remainder_of
  rem_lt i = mod-lt (amount * weight i) some

  pub floor-most : (i : ℕ) → i < n → floor i ≤ amount
  floor-most i b = le_of_mul-le-mul_right {k = whole} (omega (arith, parts i, mul-le-mul_left amount (total-one n weight i b))) some

  -- all floors and remainders together
  all-parts : total n floor * whole + total n rem ≡ amount * whole
  all-parts =
      ap (λ x. x + total n rem) (sym (total_times n floor whole))
      ∙ sym (total-add n (λ i. floor i * whole) rem)
      ∙ total-same n (λ i. floor i * whole + rem i) (λ i. weight i * amount) (λ i b. parts i ∙ mul_comm amount (weight i))
      ∙ total_times n weight amount
      ∙ mul_comm whole amount

  pub floors-le : total n floor ≤ amount
  floors-le = le_of_mul-le-mul_right (omega (arith, all-parts)) some

  -- what is left is what the remainders add to
  pub left_is : total n floor + left n weight amount ≡ amount
  unfolding left
  left_is = omega (arith, floors-le)

  left_rems : left n weight amount * whole ≡ total n rem
  left_rems = let e = ap (λ x. x * whole) left_is in omega (arith, all-parts)

  -- so there are no more yen left than members who have a remainder
  abbrev some_left : ℕ → Bool
  some_left i = ltb 0 (rem i)

  rem-most : (i : ℕ) → rem i ≤ one_if (some_left i) * whole
  rem-most i = ⊎_elim (λ e. rw e (omega (arith, rem_lt i))) (λ e. omega (arith, ltb-false 0 (rem i) e)) (true_or_false (some_left i))

  left_le : left n weight amount ≤ how_many n some_left
  left_le =
      le_of_mul-le-mul_right
      (omega (arith, left_rems, total-le n rem (λ i. one_if (some_left i) * whole) (λ i b. rem-most i), total_times n (λ i. one_if (some_left i)) whole))
      some

  count_most : (p : ℕ → Bool) → how_many n p ≤ n
  count_most p = omega (arith, many_all n (λ i. true) (λ i b. refl), many_le n p (λ i. true) (λ i b e. refl))

  pub left-most : left n weight amount ≤ n
  left-most = omega (arith, left_le, count_most some_left)

  -- a yen left goes to nobody whose share came out even
  pub extra_some : (i : ℕ) → how_many_before n rem i < left n weight amount → 0 < rem i
  unfolding how_many_before
  extra_some i h = ⊎_elim (λ e. ltb-true 0 (rem i) e) (λ e. absurd (omega (arith, left_le, all-before (ltb-false 0 (rem i) e)))) (true_or_false (some_left i))
    where
      all-before : rem i ≤ 0 → how_many n some_left ≤ how_many n (λ j. before rem j i)
      all-before z = many_le n some_left (λ j. before rem j i) (λ j b e. is-before rem j i (inl (omega (arith, ltb-true 0 (rem j) e))))

  -- THE SHARES ADD EXACTLY TO THE AMOUNT
  pub shares_are_amount : total n (share_of n weight amount) ≡ amount
  shares_are_amount =
      total-same n (share_of n weight amount) (λ i. floor i + one_if (ltb (how_many_before n rem i) (left n weight amount))) (λ i b. share-is i)
      ∙ total-add n floor (λ i. one_if (ltb (how_many_before n rem i) (left n weight amount)))
      ∙ ap (λ x. total n floor + x) (served-is n rem (left n weight amount) left-most)
      ∙ left_is

  -- a share is the floor; or the floor and a yen, where fewer come before him than there are yen left
  pub share_cases : (i : ℕ) → (share_of n weight amount i ≡ floor i) ⊎ ((share_of n weight amount i ≡ floor i + 1) × (how_many_before n rem i < left n weight amount))
  share_cases i =
      ⊎_elim
      (λ e. inr (share-is i ∙ rw e refl, ltb-true (how_many_before n rem i) (left n weight amount) e))
      (λ e. inl (share-is i ∙ rw e (add-zero (floor i))))
      (true_or_false (ltb (how_many_before n rem i) (left n weight amount)))

  pub share-low : (i : ℕ) → floor i ≤ share_of n weight amount i
  share-low i = omega (arith, share-is i)

  pub share-high : (i : ℕ) → share_of n weight amount i ≤ floor i + 1
  share-high i = ⊎_elim (λ e. omega arith) (λ e. omega arith) (share_cases i)

  -- it is less than a yen above amount × weight / sum
  pub share_near : (i : ℕ) → share_of n weight amount i * whole < amount * weight i + whole
  share_near i =
      ⊎_elim
      (λ e. rw e (omega (arith, parts i, some)))
      (λ e. rw e.0 (omega (arith, parts i, extra_some i e.1)))
      (share_cases i)

  -- where the amount is the sum of the weights each floor is the weight, no yen is left, and so each share is the weight
  floor-all : amount ≡ whole → (i : ℕ) → floor i ≡ weight i
  unfolding floor_of
  floor-all e i = rw e (mul-div_cancel_left (weight i) some)

  left-none : amount ≡ whole → left n weight amount ≤ 0
  left-none e = omega (arith, left_is, total-same n floor weight (λ i b. floor-all e i))

  pub share-all : amount ≡ whole → (i : ℕ) → share_of n weight amount i ≡ weight i
  share-all e i = ⊎_elim (λ h. h ∙ floor-all e i) (λ h. absurd (omega (arith, left-none e, h.1))) (share_cases i)

  -- who comes first, with no lower floor, gets no less
  pub first_more : (i j : ℕ) → i < n → before rem i j ≡ true → floor j ≤ floor i → share_of n weight amount j ≤ share_of n weight amount i
  first_more i j b e h =
      ⊎_elim
      (λ f. omega (arith, share-low i))
      (λ f. rw (share-is i, lt-ltb (how_many_before n rem i) (left n weight amount) (omega (arith, many_before-lt n rem i j b e))) (omega arith))
      (share_cases j)

  larger-floor : (i j : ℕ) → amount * weight j ≤ amount * weight i → floor j ≤ floor i
  larger-floor i j h =
      omega (arith, lt_of_mul-lt-mul_right whole {m = floor j} {n = floor i + 1} (omega (arith, parts i, parts j, rem_lt i)))

  pub larger : (i j : ℕ) → i < n → amount * weight j < amount * weight i → share_of n weight amount j ≤ share_of n weight amount i
  larger i j b h =
      ⊎_elim
      (λ e. omega (arith, ltb-true (floor j) (floor i) e, share-high j, share-low i))
      (λ e. let q : floor i ≡ floor j = omega (arith, ltb-false (floor j) (floor i) e, larger-floor i j (omega arith)) in
      let k = ap (λ x. x * whole) q in
      first_more i j b (is-before rem i j (inl (omega (arith, parts i, parts j)))) (omega arith))
      (true_or_false (ltb (floor j) (floor i)))

-- ---- also where nobody has a weight

module _ (n : ℕ) (weight : ℕ → ℕ) (amount : ℕ) where
  -- somebody has a weight, or nobody
  pub some_or_none : (0 < total n weight) ⊎ (total n weight ≡ 0)
  some_or_none = ⊎_elim (λ e. inl (ltb-true 0 (total n weight) e)) (λ e. inr (omega (arith, ltb-false 0 (total n weight) e))) (true_or_false (ltb 0 (total n weight)))

  pub share-none : total n weight ≡ 0 → (i : ℕ) → share_of n weight amount i ≡ 0
  unfolding share_of
  share-none e i = rw (eq-eqb (total n weight) 0 e)

  -- a share of nothing is nothing
  share-zero : (i : ℕ) → amount * weight i ≡ 0 → share_of n weight amount i ≡ 0
  share-zero i h =
      ⊎_elim
      (λ s. omega (arith, lt_of_mul-lt-mul_right (total n weight) {m = share_of n weight amount i} {n = 1} (omega (arith, share_near n weight amount s i))))
      (λ z. share-none z i)
      some_or_none

  pub share-nothing : amount ≡ 0 → (i : ℕ) → share_of n weight amount i ≡ 0
  share-nothing e i = share-zero i (rw (e, zero-mul (weight i)))

  pub share-no-weight : (i : ℕ) → weight i ≡ 0 → share_of n weight amount i ≡ 0
  share-no-weight i e = share-zero i (rw (e, mul-zero amount))

  -- two equal weights
  pub tie : (i j : ℕ) → i < j → j < n → weight i ≡ weight j → (share_of n weight amount j ≤ share_of n weight amount i) × (share_of n weight amount i ≤ share_of n weight amount j + 1)
  unfolding floor_of remainder_of
  tie i j b c e =
      ⊎_elim
      (λ s. let f : floor_of n weight amount i ≡ floor_of n weight amount j = rw e refl in
      let g : remainder_of n weight amount i ≡ remainder_of n weight amount j = rw e refl in
      (first_more n weight amount s i j (omega arith) (is-before (remainder_of n weight amount) i j (inr (g, b))) (omega arith), omega (arith, share-high n weight amount s i, share-low n weight amount s j)))
      (λ z. omega (arith, share-none z i, share-none z j))
      some_or_none

-- the shares say only what the weights of the n members say
module _ (n : ℕ) (v w : ℕ → ℕ) (amount : ℕ) (h : (i : ℕ) → i < n → v i ≡ w i) where
  floor-same : (i : ℕ) → i < n → floor_of n v amount i ≡ floor_of n w amount i
  unfolding floor_of
  floor-same i b = rw (total-same n v w h, h i b)

  remainder-same : (i : ℕ) → i < n → remainder_of n v amount i ≡ remainder_of n w amount i
  unfolding remainder_of
  remainder-same i b = rw (total-same n v w h, h i b)

  left-same : left n v amount ≡ left n w amount
  unfolding left
  left-same = rw (total-same n (floor_of n v amount) (floor_of n w amount) floor-same)

  pub share-same : (i : ℕ) → i < n → share_of n v amount i ≡ share_of n w amount i
  unfolding share_of
  share-same i b =
      rw (total-same n v w h, floor-same i b, many_before-same n (remainder_of n v amount) (remainder_of n w amount) remainder-same i b, left-same)

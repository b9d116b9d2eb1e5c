-- The figures worked by hand in document 01: R11, R12, and the loss of 12,000,000 yen. Each is computed; R12 holds of any three equal weights besides. Assumes nothing.
use Rattle.std.specs.Prelude.{◌≡◌, refl, List, [], ◌∷◌, ◌⊎◌, ℕ, ◌+◌, ◌<◌, ℤ, pos, negsuc}
use Rattle.std.proofs.Common.{⊎_elim, arith}
use Rattle.whole.specs.Counting.{listed}
use Rattle.portions.specs.Share.{before, how_many_before, floor_of, remainder_of, left, share_of, of_member, shares}
use Rattle.portions.specs.PortionTheorems.{shares-add, equal_weights}
use Rattle.shares.specs.Loss.{refusal, weight_of, negative_of, weight, negative, layer, layer_shares, most_two, remains, reply, loss_shared}

-- R11: weights 5, 7, 9 million, layer 10
pub r11 : shares 10 (5000000 ∷ 7000000 ∷ 9000000 ∷ []) ≡ pos 3 ∷ pos 3 ∷ pos 4 ∷ []
unfolding listed before how_many_before floor_of remainder_of left share_of
r11 = refl

-- and whatever the three equal weights are
pub r12_any : (w : ℕ) → 0 < w → shares 10 (w ∷ w ∷ w ∷ []) ≡ pos 4 ∷ pos 3 ∷ pos 3 ∷ []
unfolding listed
r12_any w h =
    let share = share_of 3 (of_member (w ∷ w ∷ w ∷ [])) 10 in
    let adds = shares-add 3 (of_member (w ∷ w ∷ w ∷ [])) 10 (omega arith) in
    let a = equal_weights 3 (of_member (w ∷ w ∷ w ∷ [])) 10 0 1 (omega arith) (omega arith) refl in
    let b = equal_weights 3 (of_member (w ∷ w ∷ w ∷ [])) 10 1 2 (omega arith) (omega arith) refl in
    let c = equal_weights 3 (of_member (w ∷ w ∷ w ∷ [])) 10 0 2 (omega arith) (omega arith) refl in
    let e : (share 0 ≡ 4) × (share 1 ≡ 3) × (share 2 ≡ 3) = by_cases (share 0) (share 1) (share 2) adds a b c in
    rw (e.0, e.1, e.2) refl
  where
    by_cases : (x y z : ℕ) → 0 + x + y + z ≡ 10 → (x ≡ y) ⊎ (x ≡ y + 1) → (y ≡ z) ⊎ (y ≡ z + 1) → (x ≡ z) ⊎ (x ≡ z + 1) → (x ≡ 4) × (y ≡ 3) × (z ≡ 3)
    by_cases x y z s a b c = ⊎_elim (λ p. ⊎_elim (λ q. absurd (omega arith)) (λ q. ⊎_elim (λ t. absurd (omega arith)) (λ t. absurd (omega arith)) c) b) (λ p. ⊎_elim (λ q. (omega arith, omega arith, omega arith)) (λ q. ⊎_elim (λ t. absurd (omega arith)) (λ t. absurd (omega arith)) c) b) a

-- three deposits of 5,000,000; the third member defaults; differences 900,000, -100,000, -2,500,000
abbrev pub deposits : List ℤ
deposits = pos 5000000 ∷ pos 5000000 ∷ pos 5000000 ∷ []

abbrev pub differences : List ℤ
differences = pos 900000 ∷ negsuc 99999 ∷ negsuc 2499999 ∷ []

abbrev pub marks : List ℤ
marks = pos 0 ∷ pos 0 ∷ pos 1 ∷ []

-- what the written lists held before
abbrev pub blank : List ℤ
blank = pos 7 ∷ pos 7 ∷ pos 7 ∷ []

-- a loss of 12,000,000: 5,000,000 to each survivor, then 900,000 to the first, 1,100,000 uncovered
pub worked : loss_shared (pos 12000000) deposits differences marks blank blank ≡ (reply 0 (pos 1100000), pos 5000000 ∷ pos 5000000 ∷ pos 0 ∷ [], pos 900000 ∷ pos 0 ∷ pos 0 ∷ [])
unfolding listed before how_many_before floor_of remainder_of left share_of refusal weight_of negative_of weight negative layer layer_shares most_two remains loss_shared
worked = refl

-- a loss below 0 is refused, and nothing is written
pub refused : loss_shared (negsuc 0) deposits differences marks blank blank ≡ (reply 5 (pos 0), blank, blank)
unfolding refusal loss_shared
refused = refl

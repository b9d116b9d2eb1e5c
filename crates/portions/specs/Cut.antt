-- Who gets a yen, said by the last who does: a member gets one unless the last owner comes before him. The last owner is found by looking at the
-- members in turn, between the last owner found so far and the largest remainder found to get none. Assumes nothing.
use Rattle.std.specs.Prelude.{◌≡◌, refl, Bool, true, false, cond, not, List, ℕ, zero, suc, ◌+◌, ◌-◌, ◌≤◌, ◌<◌, ltb, length, take, drop, count_by}
use Rattle.std.proofs.Common.{sym, ap, ◌∙◌, eq-or-lt_of_le}
use Rattle.std.proofs.lemmas.List.{take_all}
use Rattle.std.proofs.lemmas.List.Sums.{sum_by_more, sum_by-take-drop}
use Rattle.std.proofs.Math.Logic.{inl, inr, ⊎_elim}
use Rattle.std.proofs.Math.Numerals.{add-one}
use native.Mathlib.Omega.{arith}
use borrow.Author.Tests.{lt-ltb, le-ltb, ltb-true, ltb-false}
use Rattle.whole.specs.Counting.{total, how_many, one_if, listed}
use Rattle.whole.specs.CountingLaws.{total-same}
use Rattle.whole.specs.Tests.{true_or_false, is_false, clash, below-or-last}
use Rattle.portions.specs.Share.{comes_before, before, how_many_before, remainder_of, of_member}
use Rattle.portions.specs.Order.{Comes, comes_true, is_comes, is-before, comes_trans, not-before_self, not_after, many_before-lt}

-- every member's remainder, where somebody has a weight
abbrev pub remainders_of : ℕ → List ℕ → List ℕ
remainders_of amount weights = listed (length weights) (remainder_of (length weights) (of_member weights) amount)

-- member j with the remainder x parts the owners of the `yen` from the other members
pub record Cuts (n : ℕ) (r : ℕ → ℕ) (yen x j : ℕ) : Type 0 where
  pub parts : (i : ℕ) → i < n → ltb (how_many_before n r i) yen ≡ not (comes_before x j (r i) i)

-- the search when it has seen the members below `seen`: (x, j) and all before him get a yen, and nobody seen who gets one comes after him; of those not
-- seen yet, whoever has no more than x comes after him, and whoever has no more than y gets none
pub record Seen (n : ℕ) (r : ℕ → ℕ) (yen seen x j y : ℕ) : Type 0 where
  pub owners : (i : ℕ) → i < n → comes_before x j (r i) i ≡ false → how_many_before n r i < yen
  pub found : (i : ℕ) → i < seen → how_many_before n r i < yen → comes_before x j (r i) i ≡ false
  pub behind : (i : ℕ) → i < n → seen ≤ i → r i ≤ x → comes_before x j (r i) i ≡ true
  pub others : (i : ℕ) → i < n → seen ≤ i → r i ≤ y → yen ≤ how_many_before n r i

module _ {n : ℕ} {r : ℕ → ℕ} {yen : ℕ} where
  -- it starts with nobody: a remainder above all, and none at all
  pub seen_none : (x : ℕ) → ((i : ℕ) → i < n → r i < x) → ((i : ℕ) → i < n → how_many_before n r i < yen → 0 < r i) → Seen n r yen 0 x 0 0
  seen_none x h some =
      record {
        owners = λ i b e. clash (is_comes x 0 (r i) i (inl (h i b))) e;
        found = λ i b e. absurd (omega arith);
        behind = λ i b d e. is_comes x 0 (r i) i (inl (h i b));
        others =
            λ i b d e. ⊎_elim
            (λ f. absurd (omega (arith, some i b (ltb-true (how_many_before n r i) yen f))))
            (ltb-false (how_many_before n r i) yen)
            (true_or_false (ltb (how_many_before n r i) yen));
      }

  -- when all are seen the search has the cut
  pub seen_all : {x j y : ℕ} → Seen n r yen n x j y → Cuts n r yen x j
  seen_all {x} {j} s =
      record {
        parts =
            λ i b. ⊎_elim
            (λ e. rw e (le-ltb (how_many_before n r i) yen (late i b e)))
            (λ e. rw e (lt-ltb (how_many_before n r i) yen (s.owners i b e)))
            (true_or_false (comes_before x j (r i) i));
      }
    where
      late : (i : ℕ) → i < n → comes_before x j (r i) i ≡ true → yen ≤ how_many_before n r i
      late i b e = ⊎_elim (λ h. clash e (s.found i b (ltb-true (how_many_before n r i) yen h))) (λ h. ltb-false (how_many_before n r i) yen h) (true_or_false (ltb (how_many_before n r i) yen))

  module _ {i x j y : ℕ} (b : i < n) (s : Seen n r yen i x j y) where
    -- the next member, of whom nothing new is learnt
    skip : (how_many_before n r i < yen → comes_before x j (r i) i ≡ false) → Seen n r yen (i + 1) x j y
    skip h =
        record {
          owners = s.owners;
          found = λ m c e. ⊎_elim (λ d. s.found m d e) (λ q. rw q (h (rw q at e))) (below-or-last m i (rw add-one at c));
          behind = λ m c d. s.behind m c (omega arith);
          others = λ m c d. s.others m c (omega arith);
        }

    -- his remainder is larger than the last owner's
    pub early : x < r i → Seen n r yen (i + 1) x j y
    early e = skip (λ h. is_false (comes_before x j (r i) i) (λ f. ⊎_elim (λ g. omega arith) (λ g. omega arith) (comes_true x j (r i) i f)))

    -- it is no larger than that of one who gets none
    pub late : r i ≤ y → Seen n r yen (i + 1) x j y
    late e = skip (λ h. absurd (omega (arith, s.others i b (omega arith) e)))

    -- whoever is not seen yet and has no more than he comes after him
    after : (m : ℕ) → i + 1 ≤ m → r m ≤ r i → Comes (r i) i (r m) m
    after m d e = ⊎_elim (λ f. inl (ltb-true (r m) (r i) f)) (λ f. inr (omega (arith, ltb-false (r m) (r i) f), omega arith)) (true_or_false (ltb (r m) (r i)))

    -- he is the last owner now
    pub owns : r i ≤ x → how_many_before n r i < yen → Seen n r yen (i + 1) (r i) i y
    unfolding before
    owns e h =
        record {
          owners = λ m c f. omega (arith, not_after n r m i c f);
          found =
              λ m c f. ⊎_elim
              (λ d. is_false (comes_before (r i) i (r m) m) (λ g. clash (comes_trans x j (r i) i (r m) m (s.behind i b (omega arith) e) g) (s.found m d f)))
              (λ q. rw q (not-before_self r i))
              (below-or-last m i (rw add-one at c));
          behind = λ m c d f. is_comes (r i) i (r m) m (after m d f);
          others = λ m c d. s.others m c (omega arith);
        }

    -- he gets none
    pub lacks : yen ≤ how_many_before n r i → Seen n r yen (i + 1) x j (r i)
    lacks h =
        record {
          owners = s.owners;
          found = λ m c e. ⊎_elim (λ d. s.found m d e) (λ q. absurd (omega (arith, rw q at e))) (below-or-last m i (rw add-one at c));
          behind = λ m c d. s.behind m c (omega arith);
          others = λ m c d f. omega (arith, many_before-lt n r i m b (is-before r i m (after m d f)));
        }

-- ---- how many come before a member, by two plain counts

-- how many members below `to` have a remainder above x
unfoldable pub many_above : ℕ → (ℕ → ℕ) → ℕ → ℕ
many_above to r x = how_many to (λ j. ltb x (r j))

-- a loop's turn: the next member is counted
pub above_step : (j : ℕ) (r : ℕ → ℕ) (x from many v : ℕ) → from + many ≡ many_above j r x → v ≡ one_if (ltb x (r j)) → from + (many + v) ≡ many_above (j + 1) r x
unfolding many_above
above_step j r x from many v e q = rw add-one (omega arith)

-- a count of the first k remainders of a list, and one of all others
pub many_listed : (x : ℕ) (l : List ℕ) (k : ℕ) → k ≤ length l → count_by (ltb x) (take k l) ≡ many_above k (of_member l) x
unfolding many_above
many_listed x l zero h = refl
many_listed x l (suc k) h =
    rw add-one at (sum_by_more (λ y. cond (ltb x y) 1 0) l k 0 (omega arith)) ∙ ap (λ z. z + one_if (ltb x (of_member l k))) (many_listed x l k (omega arith))

pub many_others : (x : ℕ) (l : List ℕ) (k : ℕ) → k ≤ length l → many_above k (of_member l) x + count_by (ltb x) (drop k l) ≡ many_above (length l) (of_member l) x
many_others x l k h =
    ap (λ z. z + count_by (ltb x) (drop k l)) (sym (many_listed x l k h))
    ∙ sum_by-take-drop (λ y. cond (ltb x y) 1 0) l k
    ∙ ap (count_by (ltb x)) (sym (take_all (length l) l (omega arith)))
    ∙ many_listed x l (length l) (omega arith)

-- two sums that differ only below c
total-from : (c n : ℕ) (f g : ℕ → ℕ) → c ≤ n → ((j : ℕ) → c ≤ j → f j ≡ g j) → total c g + total n f ≡ total c f + total n g
total-from c zero f g b h = let e : c ≡ 0 = omega arith in rw e refl
total-from c (suc n) f g b h =
    elim (eq-or-lt_of_le b) as (λ _. total c g + total (suc n) f ≡ total c f + total (suc n) g)
    [ inl q ↦ rw q (omega arith) | inr q ↦ omega (arith, total-from c n f g (omega arith) h, h n (omega arith)) ]

-- two tests, each of which says the other
same_test : (s t : Bool) → (s ≡ true → t ≡ true) → (t ≡ true → s ≡ true) → s ≡ t
same_test true t h k = sym (h refl)
same_test false true h k = k refl
same_test false false h k = refl

module _ (n : ℕ) (r : ℕ → ℕ) (i : ℕ) where
  -- a member of a lower account comes before i exactly if his remainder is no smaller
  lower : 0 < r i → (j : ℕ) → j < i → before r j i ≡ ltb (r i - 1) (r j)
  unfolding before
  lower p j b =
      same_test (before r j i) (ltb (r i - 1) (r j))
      (λ e. lt-ltb (r i - 1) (r j) (⊎_elim (λ h. omega arith) (λ h. omega arith) (comes_true (r j) j (r i) i e)))
      (λ e. is-before r j i (at_least (ltb-true (r i - 1) (r j) e)))
    where
      at_least : r i - 1 < r j → Comes (r j) j (r i) i
      at_least h = ⊎_elim (λ e. inl (ltb-true (r i) (r j) e)) (λ e. inr (omega (arith, ltb-false (r i) (r j) e), b)) (true_or_false (ltb (r i) (r j)))

  -- one of a higher account exactly if it is larger
  higher : (j : ℕ) → i ≤ j → before r j i ≡ ltb (r i) (r j)
  unfolding before
  higher j b =
      same_test (before r j i) (ltb (r i) (r j))
      (λ e. lt-ltb (r i) (r j) (⊎_elim (λ h. h) (λ h. absurd (omega arith)) (comes_true (r j) j (r i) i e)))
      (λ e. is-before r j i (inl (ltb-true (r i) (r j) e)))

  -- so these two counts are of those who come before i
  pub before-is : i < n → 0 < r i → (a b : ℕ) → a ≡ many_above i r (r i - 1) → many_above i r (r i) + b ≡ many_above n r (r i) →
      a + b ≡ how_many_before n r i
  unfolding many_above how_many_before
  before-is l p a b e f =
      omega (
        arith,
        total-same i (λ j. one_if (before r j i)) (λ j. one_if (ltb (r i - 1) (r j))) (λ j c. rw (lower p j c) refl),
        total-from i n (λ j. one_if (before r j i)) (λ j. one_if (ltb (r i) (r j))) (omega arith) (λ j c. rw (higher j c) refl),
      )

-- The order of the remainders: of two members one comes before the other, no two have as many before them, and so of n members
-- exactly l have fewer than l before them, for each l up to n. Assumes nothing.
use Rattle.std.specs.Prelude.{◌≡◌, Bool, true, false, ◌&&◌, ◌||◌, ◌⊎◌, ℕ, zero, suc, ◌+◌, ◌-◌, ◌≤◌, ◌<◌, ltb, eqb}
use Rattle.std.proofs.Math.Path.{refl}
use Rattle.std.proofs.Common.{sym, ◌∙◌, inl, inr, zero-le, add-suc, add-zero, arith, ltb-true, ltb-false, eqb-true, lt-ltb, le-ltb, eq-eqb}
use Rattle.std.proofs.Math.Logic.{⊎_elim}
use Rattle.std.proofs.lemmas.Bool.{eqb-false}
use Rattle.whole.specs.Counting.{how_many, one_if}
use Rattle.whole.specs.CountingLaws.{total-same, total-le, total-add, many_lt, many_none, many_all, many_once}
use Rattle.whole.specs.Signs.{false_true}
use Rattle.whole.specs.Tests.{is_false, clash}
use Rattle.portions.specs.Share.{comes_before, before, how_many_before}

-- what it says that j, with the remainder x, comes before i, with the remainder y
abbrev pub Comes : ℕ → ℕ → ℕ → ℕ → Type 0
Comes x j y i = (y < x) ⊎ ((x ≡ y) × (j < i))

pub comes_true : (x j y i : ℕ) → comes_before x j y i ≡ true → Comes x j y i
comes_true x j y i e = go (ltb y x) (eqb x y) (ltb j i) refl refl refl e
  where
    go : (s t u : Bool) → ltb y x ≡ s → eqb x y ≡ t → ltb j i ≡ u → (s || (t && u)) ≡ true → Comes x j y i
    go true t u p q v e = inl (ltb-true y x p)
    go false true true p q v e = inr (eqb-true x y q, ltb-true j i v)
    go false true false p q v e = absurd (false_true e)
    go false false u p q v e = absurd (false_true e)

pub is_comes : (x j y i : ℕ) → Comes x j y i → comes_before x j y i ≡ true
is_comes x j y i (inl h) = rw (lt-ltb y x h)
is_comes x j y i (inr h) = rw (eq-eqb x y h.0, lt-ltb j i h.1) (either (ltb y x))
  where
    either : (t : Bool) → (t || true) ≡ true
    either true = refl
    either false = refl

pub comes_trans : (x a y b z c : ℕ) → comes_before x a y b ≡ true → comes_before y b z c ≡ true → comes_before x a z c ≡ true
comes_trans x a y b z c p q = is_comes x a z c (go (comes_true x a y b p) (comes_true y b z c q))
  where
    go : Comes x a y b → Comes y b z c → Comes x a z c
    go (inl h) (inl k) = inl (omega arith)
    go (inl h) (inr k) = inl (omega arith)
    go (inr h) (inl k) = inl (omega arith)
    go (inr h) (inr k) = inr (omega arith, omega arith)

module _ (r : ℕ → ℕ) where
  pub is-before : (j i : ℕ) → Comes (r j) j (r i) i → before r j i ≡ true
  unfolding before
  is-before j i h = is_comes (r j) j (r i) i h

  pub not-before_self : (i : ℕ) → before r i i ≡ false
  unfolding before
  not-before_self i = is_false (before r i i) (λ e. ⊎_elim (λ h. omega arith) (λ h. omega arith) (comes_true (r i) i (r i) i e))

  pub before_trans : (a b c : ℕ) → before r a b ≡ true → before r b c ≡ true → before r a c ≡ true
  unfolding before
  before_trans a b c = comes_trans (r a) a (r b) b (r c) c

  -- of two members one comes first
  pub one-first : (i j : ℕ) → i < j → (before r i j ≡ true) ⊎ (before r j i ≡ true)
  one-first i j b = go (ltb (r i) (r j)) refl
    where
      go : (t : Bool) → ltb (r i) (r j) ≡ t → (before r i j ≡ true) ⊎ (before r j i ≡ true)
      go true e = inr (is-before j i (inl (ltb-true (r i) (r j) e)))
      go false e = inl (is-before i j (closer (ltb (r j) (r i)) refl))
        where
          closer : (t : Bool) → ltb (r j) (r i) ≡ t → Comes (r i) i (r j) j
          closer true f = inl (ltb-true (r j) (r i) f)
          closer false f = inr (omega (arith, ltb-false (r j) (r i) f, ltb-false (r i) (r j) e), b)

pub three_ways : (i t : ℕ) → (i < t) ⊎ ((t < i) ⊎ (i ≡ t))
three_ways i t = go (ltb i t) (ltb t i) refl refl
  where
    go : (a b : Bool) → ltb i t ≡ a → ltb t i ≡ b → (i < t) ⊎ ((t < i) ⊎ (i ≡ t))
    go true b e f = inl (ltb-true i t e)
    go false true e f = inr (inl (ltb-true t i f))
    go false false e f = inr (inr (omega (arith, ltb-false i t e, ltb-false t i f)))

-- ---- how many come before: of n members exactly l have fewer than l before them

module _ (n : ℕ) (r : ℕ → ℕ) where
  pub many_before-lt : (i j : ℕ) → i < n → before r i j ≡ true → how_many_before n r i < how_many_before n r j
  unfolding how_many_before
  many_before-lt i j b e = many_lt n (λ a. before r a i) (λ a. before r a j) i b (not-before_self r i) e (λ a c h. before_trans r a i j h e)

  pub many_before-most : (i : ℕ) → i < n → how_many_before n r i < n
  unfolding how_many_before
  many_before-most i b = omega (arith, many_all n (λ a. true) (λ a c. refl), many_lt n (λ a. before r a i) (λ a. true) i b (not-before_self r i) refl (λ a c h. refl))

  apart : (i j : ℕ) → i < j → j < n → how_many_before n r i ≡ how_many_before n r j → ⊥
  apart i j b c e = ⊎_elim (λ h. omega (arith, many_before-lt i j (omega arith) h)) (λ h. omega (arith, many_before-lt j i c h)) (one-first r i j b)

  abbrev pub served : ℕ → ℕ
  served l = how_many n (λ i. ltb (how_many_before n r i) l)

  next : (l p : ℕ) → one_if (ltb p (suc l)) ≤ one_if (ltb p l) + one_if (eqb p l)
  next l p = go (ltb p l) (eqb p l) refl refl
    where
      go : (s t : Bool) → ltb p l ≡ s → eqb p l ≡ t → one_if (ltb p (suc l)) ≤ one_if s + one_if t
      go true t e f = rw (lt-ltb p (suc l) (omega (arith, ltb-true p l e))) (omega arith)
      go false true e f = rw (lt-ltb p (suc l) (omega (arith, eqb-true p l f))) (omega arith)
      go false false e f = let h = eqb-false p l f in rw (le-ltb p (suc l) (omega (arith, ltb-false p l e))) (omega arith)

  served-suc : (l : ℕ) → served (suc l) ≤ served l + 1
  served-suc l =
      omega (
        arith,
        total-le n (λ i. one_if (ltb (how_many_before n r i) (suc l))) (λ i. one_if (ltb (how_many_before n r i) l) + one_if (eqb (how_many_before n r i) l)) (λ i b. next l (how_many_before n r i)),
        total-add n (λ i. one_if (ltb (how_many_before n r i) l)) (λ i. one_if (eqb (how_many_before n r i) l)),
        many_once n (λ i. eqb (how_many_before n r i) l) (λ i j b c e f. apart i j b c (eqb-true (how_many_before n r i) l e ∙ sym (eqb-true (how_many_before n r j) l f))),
      )

  served-none : served 0 ≡ 0
  served-none = many_none n (λ i. ltb (how_many_before n r i) 0) (λ i b. le-ltb (how_many_before n r i) 0 zero-le)

  served-all : served n ≡ n
  served-all = many_all n (λ i. ltb (how_many_before n r i) n) (λ i b. lt-ltb (how_many_before n r i) n (many_before-most i b))

  served-le : (l : ℕ) → served l ≤ l
  served-le zero = omega (arith, served-none)
  served-le (suc l) = omega (arith, served-suc l, served-le l)

  served-more : (l k : ℕ) → served (l + k) ≤ served l + k
  served-more l zero = rw (add-zero l) (omega arith)
  served-more l (suc k) = rw (add-suc l k) (omega (arith, served-suc (l + k), served-more l k))

  pub served-is : (l : ℕ) → l ≤ n → served l ≡ l
  served-is l h = let e : l + (n - l) ≡ n = omega arith in omega (arith, served-le l, rw e at (served-more l (n - l)), served-all)

-- who does not come after another comes before him or is he
module _ (n : ℕ) (r : ℕ → ℕ) where
  pub not_after : (i t : ℕ) → i < n → before r t i ≡ false → how_many_before n r i ≤ how_many_before n r t
  not_after i t c h = ⊎_elim (λ l. lower l) (λ l. ⊎_elim (λ m. higher m) (λ e. rw e (omega arith)) l) (three_ways i t)
    where
      lower : i < t → how_many_before n r i ≤ how_many_before n r t
      lower l = ⊎_elim (λ k. omega (arith, many_before-lt n r i t c k)) (λ k. clash k h) (one-first r i t l)

      higher : t < i → how_many_before n r i ≤ how_many_before n r t
      higher l = ⊎_elim (λ k. clash k h) (λ k. omega (arith, many_before-lt n r i t c k)) (one-first r t i l)

-- how many come before depends on the remainders of the n members alone
pub many_before-same : (n : ℕ) (r s : ℕ → ℕ) → ((i : ℕ) → i < n → r i ≡ s i) → (i : ℕ) → i < n → how_many_before n r i ≡ how_many_before n s i
unfolding how_many_before before
many_before-same n r s h i b = total-same n (λ j. one_if (before r j i)) (λ j. one_if (before s j i)) (λ j c. rw (h i b, h j c) refl)

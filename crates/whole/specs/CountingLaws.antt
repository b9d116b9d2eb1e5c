-- Laws of the tests, sums, counts and searches over the numbers below n. Assumes nothing.
use Rattle.std.specs.Prelude.{◌≡◌, refl, ◌≢◌, Bool, true, false, cond, ℕ, zero, suc, ◌+◌, ◌-◌, ◌*◌, ◌≤◌, ◌<◌, eqb, ℤ, nat_abs, neg_ℤ, ◌+ℤ◌, ◌-ℤ◌}
use Rattle.std.proofs.Common.{sym, ap, ap₂, subst, ◌∙◌, inl, inr, ⊎_elim, zero-le, add-one, arith, eq-eqb, ne_eqb}
use native.Mathlib.Nat.{zero-mul, suc-mul, add-zero, add-suc, not-suc-le-zero}
use Rattle.std.proofs.Math.Decide.{ℕ_discrete}
use Rattle.std.proofs.Math.IntN.{+ℤ_assoc, +ℤ_comm, +ℤ-neg_ℤ_cancel}
use Rattle.whole.specs.Counting.{all, sum, total, least, how_many, one_if}
use Rattle.whole.specs.Tests.{both, clash, abs_add, below-or-last, true_or_false, is_false}

pub all-at : (n : ℕ) (f : ℕ → Bool) → all n f ≡ true → (i : ℕ) → i < n → f i ≡ true
all-at zero f e i h = absurd (omega arith)
all-at (suc n) f e i h =
    let b = both (all n f) (f n) e in
    elim (native.Mathlib.Nat.eq-or-lt_of_le h) as (λ _. f i ≡ true) [ inl q ↦ rw (native.Mathlib.Nat.suc_inj q) b.1 | inr q ↦ all-at n f b.0 i (omega arith) ]

pub all-is : (n : ℕ) (f : ℕ → Bool) → ((i : ℕ) → i < n → f i ≡ true) → all n f ≡ true
all-is zero f h = refl
all-is (suc n) f h = rw (all-is n f (λ i k. h i (omega arith))) (h n (omega arith))

pub all-fails : (n : ℕ) (f : ℕ → Bool) (i : ℕ) → i < n → f i ≡ false → all n f ≡ false
all-fails n f i h e = go (all n f) refl
  where
    go : (t : Bool) → all n f ≡ t → t ≡ false
    go true q = clash (all-at n f q i h) e
    go false q = refl

pub all_more : (i : ℕ) (f : ℕ → Bool) → all i f ≡ true → f i ≡ true → all (i + 1) f ≡ true
all_more i f e h = rw (add-one, e) h

pub sum_same : (n : ℕ) (f g : ℕ → ℤ) → ((i : ℕ) → i < n → f i ≡ g i) → sum n f ≡ sum n g
sum_same zero f g h = refl
sum_same (suc n) f g h = ap₂ (λ x y. x +ℤ y) (sum_same n f g (λ i k. h i (omega arith))) (h n (omega arith))

pub sum_abs : (b n : ℕ) (f : ℕ → ℤ) → ((i : ℕ) → i < n → nat_abs (f i) ≤ b) → nat_abs (sum n f) ≤ n * b
sum_abs b zero f h = rw zero-mul (omega arith)
sum_abs b (suc n) f h = rw suc-mul (omega (arith, abs_add (sum n f) (f n), sum_abs b n f (λ i k. h i (omega arith)), h n (omega arith)))

pub total-same : (n : ℕ) (f g : ℕ → ℕ) → ((i : ℕ) → i < n → f i ≡ g i) → total n f ≡ total n g
total-same zero f g h = refl
total-same (suc n) f g h = ap₂ ◌+◌ (total-same n f g (λ i k. h i (omega arith))) (h n (omega arith))

pub total-most : (b n : ℕ) (f : ℕ → ℕ) → ((i : ℕ) → i < n → f i ≤ b) → total n f ≤ n * b
total-most b zero f h = rw zero-mul (omega arith)
total-most b (suc n) f h = rw suc-mul (omega (arith, total-most b n f (λ i k. h i (omega arith)), h n (omega arith)))

pub total_mono : (c d : ℕ) (f : ℕ → ℕ) → total c f ≤ total (c + d) f
total_mono c zero f = rw add-zero (omega arith)
total_mono c (suc d) f = rw add-suc (omega (arith, total_mono c d f))

-- a part of a sum is at most the sum
pub total-part : (c n : ℕ) (f : ℕ → ℕ) → c ≤ n → total c f ≤ total n f
total-part c n f h = let e : c + (n - c) ≡ n = omega arith in rw e at (total_mono c (n - c) f)

pub least-is : (n : ℕ) (f : ℕ → Bool) (r : ℕ) → r ≤ n → ((k : ℕ) → k < r → f k ≡ false) → (r < n → f r ≡ true) → least n f ≡ r
least-is zero f r h b t = omega arith
least-is (suc n) f zero h b t = rw (t (omega arith))
least-is (suc n) f (suc r) h b t = rw (b 0 (omega arith)) (ap suc (least-is n (λ k. f (suc k)) r (omega arith) (λ k l. b (suc k) (omega arith)) (λ l. t (omega arith))))

pub least-most : (n : ℕ) (f : ℕ → Bool) → least n f ≤ n
least-most zero f = omega arith
least-most (suc n) f = go (f 0) (least-most n (λ k. f (suc k)))
  where
    go : (t : Bool) {m : ℕ} → m ≤ n → cond t 0 (suc m) ≤ suc n
    go true h = omega arith
    go false h = omega arith

-- it is at most any number below n that passes
pub least_at : (n : ℕ) (f : ℕ → Bool) (r : ℕ) → r < n → f r ≡ true → least n f ≤ r
least_at zero f r h e = absurd (not-suc-le-zero h)
least_at (suc n) f zero h e = rw e (omega arith)
least_at (suc n) f (suc r) h e = go (f 0) (least_at n (λ k. f (suc k)) r (omega arith) e)
  where
    go : (t : Bool) {m : ℕ} → m ≤ r → cond t 0 (suc m) ≤ suc r
    go true h = omega arith
    go false h = omega arith

-- where it is below n it passes itself
pub least-found : (n : ℕ) (f : ℕ → Bool) → least n f < n → f (least n f) ≡ true
least-found zero f h = absurd (not-suc-le-zero h)
least-found (suc n) f h = go (f 0) refl h (least-found n (λ k. f (suc k)))
  where
    go : (t : Bool) → f 0 ≡ t → cond t 0 (suc (least n (λ k. f (suc k)))) < suc n → (least n (λ k. f (suc k)) < n → f (suc (least n (λ k. f (suc k)))) ≡ true)
        → f (cond t 0 (suc (least n (λ k. f (suc k))))) ≡ true
    go true e h rest = e
    go false e h rest = rest (omega arith)

-- two tests that agree below n
pub least-same : (n : ℕ) (f g : ℕ → Bool) → ((i : ℕ) → i < n → f i ≡ g i) → least n f ≡ least n g
least-same zero f g h = refl
least-same (suc n) f g h =
    ap₂ (λ t m. cond t 0 (suc m)) (h 0 (omega arith)) (least-same n (λ k. f (suc k)) (λ k. g (suc k)) (λ i k. h (suc i) (omega arith)))

least_step : (n : ℕ) (f : ℕ → Bool) → (least n (λ k. f (suc k)) ≡ n → (i : ℕ) → i < n → f (suc i) ≡ false) → least (suc n) f ≡ suc n → (i : ℕ) → i < suc n → f i ≡ false
least_step n f more e = go (f 0) refl
  where
    rest : f 0 ≡ false → least n (λ k. f (suc k)) ≡ n
    rest q = let z : suc (least n (λ k. f (suc k))) ≡ suc n = rw q at e in omega arith

    go : (t : Bool) → f 0 ≡ t → (i : ℕ) → i < suc n → f i ≡ false
    go true q i h = let z : ◌≡◌ {A = ℕ} 0 (suc n) = rw q at e in absurd (omega arith)
    go false q zero h = q
    go false q (suc i) h = more (rest q) i (omega arith)

-- where the search found none, f holds of none
pub least-none : (n : ℕ) (f : ℕ → Bool) → least n f ≡ n → (i : ℕ) → i < n → f i ≡ false
least-none zero f e i h = absurd (omega arith)
least-none (suc n) f e i h = least_step n f (least-none n (λ k. f (suc k))) e i h

pub total-le : (n : ℕ) (f g : ℕ → ℕ) → ((i : ℕ) → i < n → f i ≤ g i) → total n f ≤ total n g
total-le zero f g h = zero-le
total-le (suc n) f g h = omega (arith, total-le n f g (λ i b. h i (omega arith)), h n (omega arith))

-- smaller at one index, and nowhere larger
pub total-lt : (n : ℕ) (f g : ℕ → ℕ) (k : ℕ) → k < n → f k < g k → ((i : ℕ) → i < n → f i ≤ g i) → total n f < total n g
total-lt zero f g k b s h = absurd (not-suc-le-zero b)
total-lt (suc n) f g k b s h =
    ⊎_elim
    (λ c. omega (arith, total-lt n f g k c s (λ i d. h i (omega arith)), h n (omega arith)))
    (λ q. omega (arith, total-le n f g (λ i d. h i (omega arith)), rw q at s))
    (below-or-last k n b)

pub total-add : (n : ℕ) (f g : ℕ → ℕ) → total n (λ i. f i + g i) ≡ total n f + total n g
total-add zero f g = refl
total-add (suc n) f g = omega (arith, total-add n f g)

pub total_times : (n : ℕ) (f : ℕ → ℕ) (k : ℕ) → total n (λ i. f i * k) ≡ total n f * k
total_times zero f k = omega arith
total_times (suc n) f k = omega (arith, total_times n f k)

-- one of the numbers is at most their total
pub total-one : (n : ℕ) (f : ℕ → ℕ) (k : ℕ) → k < n → f k ≤ total n f
total-one zero f k b = absurd (not-suc-le-zero b)
total-one (suc n) f k b = ⊎_elim (λ c. omega (arith, total-one n f k c)) (λ q. rw q (omega arith)) (below-or-last k n b)

one_if_le : (s t : Bool) → (s ≡ true → t ≡ true) → one_if s ≤ one_if t
one_if_le false t h = zero-le
one_if_le true t h = rw (h refl) (omega arith)

pub one_if_most : (t : Bool) → one_if t ≤ 1
one_if_most true = omega arith
one_if_most false = omega arith

pub many_le : (n : ℕ) (p q : ℕ → Bool) → ((i : ℕ) → i < n → p i ≡ true → q i ≡ true) → how_many n p ≤ how_many n q
many_le n p q h = total-le n (λ i. one_if (p i)) (λ i. one_if (q i)) (λ i b. one_if_le (p i) (q i) (h i b))

pub many_lt : (n : ℕ) (p q : ℕ → Bool) (k : ℕ) → k < n → p k ≡ false → q k ≡ true → ((i : ℕ) → i < n → p i ≡ true → q i ≡ true) → how_many n p < how_many n q
many_lt n p q k b s t h = total-lt n (λ i. one_if (p i)) (λ i. one_if (q i)) k b (rw (s, t) (omega arith)) (λ i c. one_if_le (p i) (q i) (h i c))

pub many_none : (n : ℕ) (p : ℕ → Bool) → ((i : ℕ) → i < n → p i ≡ false) → how_many n p ≡ 0
many_none zero p h = refl
many_none (suc n) p h = rw (h n (omega arith)) (omega (arith, many_none n p (λ i c. h i (omega arith))))

pub many_all : (n : ℕ) (p : ℕ → Bool) → ((i : ℕ) → i < n → p i ≡ true) → how_many n p ≡ n
many_all zero p h = refl
many_all (suc n) p h = rw (h n (omega arith)) (omega (arith, many_all n p (λ i c. h i (omega arith))))

-- a test that no two indices pass
pub many_once : (n : ℕ) (p : ℕ → Bool) → ((i j : ℕ) → i < j → j < n → p i ≡ true → p j ≡ true → ⊥) → how_many n p ≤ 1
many_once zero p h = zero-le
many_once (suc n) p h =
    ⊎_elim
    (λ e. rw e (omega (arith, many_none n p (λ i b. is_false (p i) (λ q. h i n b (omega arith) q e)))))
    (λ e. rw e (omega (arith, many_once n p (λ i j b c. h i j b (omega arith)))))
    (true_or_false (p n))

-- a loop's turn: the next number is added
pub total-step : (n : ℕ) (f : ℕ → ℕ) (now v : ℕ) → now ≡ total n f → v ≡ f n → now + v ≡ total (n + 1) f
total-step n f now v e q = rw (e, q, add-one) refl

pub sum_step : (n : ℕ) (f : ℕ → ℤ) (now v : ℤ) → now ≡ sum n f → v ≡ f n → now +ℤ v ≡ sum (n + 1) f
sum_step n f now v e q = rw (e, q, add-one) refl

-- ---- a sum of which one term rises by x
sum_one : (n : ℕ) (f g : ℕ → ℤ) (a : ℕ) (x : ℤ) → a < n → g a ≡ f a +ℤ x → ((i : ℕ) → i < n → i ≢ a → g i ≡ f i) → sum n g ≡ sum n f +ℤ x
sum_one zero f g a x h e o = absurd (omega arith)
sum_one (suc n) f g a x h e o = go (sum_one n f g a x) (ℕ_discrete a n)
  where
    go : (a < n → g a ≡ f a +ℤ x → ((i : ℕ) → i < n → i ≢ a → g i ≡ f i) → sum n g ≡ sum n f +ℤ x) → Dec (a ≡ n) → sum n g +ℤ g n ≡ sum n f +ℤ f n +ℤ x
    go rest (yes q) =
        ap₂ ◌+ℤ◌ (sum_same n g f (λ i k. o i (omega arith) (λ z. omega arith))) (subst (λ i. g i ≡ f i +ℤ x) q e) ∙ sym (+ℤ_assoc (sum n f) (f n) x)
    go rest (no q) =
        ap₂ ◌+ℤ◌ (rest (omega arith) e (λ i k. o i (omega arith))) (o n (omega arith) (λ z. q (sym z)))
        ∙ +ℤ_assoc (sum n f) x (f n) ∙ ap (λ z. sum n f +ℤ z) (+ℤ_comm x (f n)) ∙ sym (+ℤ_assoc (sum n f) (f n) x)

-- one term rises by x and another falls by it
pub two_terms : (n : ℕ) (f g : ℕ → ℤ) (a b : ℕ) (x : ℤ) → a < n → b < n → a ≢ b → g a ≡ f a +ℤ x → g b ≡ f b -ℤ x → ((i : ℕ) → i < n → i ≢ a → i ≢ b → g i ≡ f i)
    → sum n g ≡ sum n f
two_terms n f g a b x ha hb ne ea eb o =
    sum_one n middle g b (neg_ℤ x) hb (eb ∙ ap (λ z. z +ℤ neg_ℤ x) (sym (off b (λ q. ne (sym q))))) (λ i h k. rest i h k (ℕ_discrete i a))
    ∙ ap (λ z. z +ℤ neg_ℤ x) (sum_one n f middle a x ha (there a refl) (λ i h k. off i k))
    ∙ +ℤ-neg_ℤ_cancel (sum n f) x
  where
    -- the sum after the rise alone
    middle : ℕ → ℤ
    middle i = cond (eqb i a) (f a +ℤ x) (f i)

    there : (i : ℕ) → i ≡ a → middle i ≡ f a +ℤ x
    there i q = rw (eq-eqb i a q)

    off : (i : ℕ) → i ≢ a → middle i ≡ f i
    off i q = rw (ne_eqb i a q)

    rest : (i : ℕ) → i < n → i ≢ b → Dec (i ≡ a) → g i ≡ middle i
    rest i h k (yes q) = ap g q ∙ ea ∙ sym (there i q)
    rest i h k (no q) = o i h q k ∙ sym (off i q)

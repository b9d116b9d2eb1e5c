-- Laws of the list f 0, f 1, .. f (n - 1), and of a list whose first n words are that list: what a loop leaves that fills it. Assumes nothing.
use Rattle.std.specs.Prelude.{◌≡◌, refl, List, [], ◌∷◌, ◌++◌, ℕ, zero, suc, ◌+◌, ◌≤◌, ◌<◌, ltb, ℤ, pos, nat_abs, length, get_or, drop, set}
use Rattle.std.proofs.Common.{ap, ap₂, ◌∙◌, ⊎_elim, append_assoc, append-nil, zero-le, not-suc-le-zero, add-one, arith, length-append, length-drop, drop_of_length-le, drop-cons, ltb-true, ltb-false}
use Rattle.std.proofs.Math.ListN.{get_or-append, get_or-eq_default}
use Rattle.std.proofs.lemmas.List.{set_at, get_or_at}
use Rattle.whole.specs.Counting.{listed}
use Rattle.whole.specs.Reps.{Each}
use Rattle.whole.specs.Tests.{below-or-last, true_or_false}

pub length-listed : {A : Type 0} (n : ℕ) (f : ℕ → A) → length (listed n f) ≡ n
unfolding listed
length-listed zero f = refl
length-listed (suc n) f = rw (length-append (listed n f) (f n ∷ []), length-listed n f) (omega arith)

pub get_or-listed : {A : Type 0} (n : ℕ) (f : ℕ → A) (d : A) (i : ℕ) → i < n → get_or (listed n f) i d ≡ f i
unfolding listed
get_or-listed zero f d i b = absurd (not-suc-le-zero b)
get_or-listed (suc n) f d i b =
    ⊎_elim
    (λ c. get_or-append (listed n f) (f n ∷ []) d i (rw (length-listed n f) c) ∙ get_or-listed n f d i c)
    (λ q. rw q (get_or_at (listed n f) (f n) [] d n (length-listed n f)))
    (below-or-last i n b)

-- words that are all at most b, past the end too
pub listed-most : (n : ℕ) (f : ℕ → ℕ) (b : ℕ) → ((i : ℕ) → f i ≤ b) → (i : ℕ) → get_or (listed n f) i 0 ≤ b
listed-most n f b h i =
    ⊎_elim
    (λ e. rw (get_or-listed n f 0 i (ltb-true i n e)) (h i))
    (λ e. rw (get_or-eq_default (listed n f) 0 {n = i} (rw (length-listed n f) (ltb-false i n e))) zero-le)
    (true_or_false (ltb i n))

-- a bound on each word of a list is one on what is read past its end, which is 0
pub each_of : (b : ℕ) (l : List ℤ) → ((i : ℕ) → i < length l → nat_abs (get_or l i (pos 0)) ≤ b) → Each b l
each_of b l h =
    record {
      at =
          λ i. ⊎_elim
          (λ e. h i (ltb-true i (length l) e))
          (λ e. rw (get_or-eq_default l (pos 0) {n = i} (ltb-false i (length l) e)) zero-le)
          (true_or_false (ltb i (length l)));
    }

pub listed_same : {A : Type 0} (n : ℕ) (f g : ℕ → A) → ((i : ℕ) → i < n → f i ≡ g i) → listed n f ≡ listed n g
unfolding listed
listed_same zero f g h = refl
listed_same (suc n) f g h = ap₂ ◌++◌ (listed_same n f g (λ i b. h i (omega arith))) (ap (λ x. x ∷ []) (h n (omega arith)))

-- a list l of which the first n words are f's
abbrev pub filled : {A : Type 0} → ℕ → (ℕ → A) → List A → List A
filled n f l = listed n f ++ drop n l

pub filled_none : {A : Type 0} (f : ℕ → A) (l : List A) → l ≡ filled 0 f l
unfolding listed
filled_none f l = refl

pub filled_more : {A : Type 0} (n : ℕ) (f : ℕ → A) (l : List A) (d : A) → n < length l → set (filled n f l) n (f n) ≡ filled (suc n) f l
unfolding listed
filled_more n f l d h = rw (drop-cons l n d h, set_at (listed n f) (get_or l n d) (drop (suc n) l) (f n) n (length-listed n f), append_assoc (listed n f) (f n ∷ []) (drop (suc n) l))

pub filled_next : {A : Type 0} (n : ℕ) (f : ℕ → A) (l : List A) (d : A) → n < length l → get_or (filled n f l) n d ≡ get_or l n d
filled_next n f l d h = rw (drop-cons l n d h) (get_or_at (listed n f) (get_or l n d) (drop (suc n) l) d n (length-listed n f))

pub length-filled : {A : Type 0} (n : ℕ) (f : ℕ → A) (l : List A) → n ≤ length l → length (filled n f l) ≡ length l
length-filled n f l h = rw (length-append (listed n f) (drop n l), length-listed n f, length-drop n l) (omega arith)

pub filled-all : {A : Type 0} (n : ℕ) (f : ℕ → A) (l : List A) → length l ≤ n → filled n f l ≡ listed n f
filled-all n f l h = ap (λ x. listed n f ++ x) (drop_of_length-le l h) ∙ append-nil (listed n f)

-- what stands in the part that is filled
pub get_or-filled : {A : Type 0} (n : ℕ) (f : ℕ → A) (l : List A) (d : A) (i : ℕ) → i < n → get_or (filled n f l) i d ≡ f i
get_or-filled n f l d i b = get_or-append (listed n f) (drop n l) d i (rw (length-listed n f) b) ∙ get_or-listed n f d i b

-- a loop's turn: the next word is stored
pub filled-step : {A : Type 0} (n : ℕ) (f : ℕ → A) (l now : List A) (v : A) → now ≡ filled n f l → n < length l → v ≡ f n → set now n v ≡ filled (n + 1) f l
filled-step n f l now v e h q = rw (e, q, add-one) (filled_more n f l (f n) h)

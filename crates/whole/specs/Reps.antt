-- A whole number of the code as a difference p - n of two naturals (`Rep`), and a natural that comes from whole numbers (`Num`): found by
-- `search` from the form of the term, with what is known of the numbers in it and what has to hold for it (that each sum on the way fits).
-- Assumes nothing.
use Rattle.std.specs.Prelude.{◌≡◌, refl, Bool, true, false, cond, ℕ, suc, ◌+◌, ◌*◌, ◌-◌, ◌/◌, ◌%◌, ◌≤◌, ◌<◌, ◌^◌, min, max, List, get_or, T, ltb, ℤ, pos, negsuc, neg_ℤ, nat_abs, ◌+ℤ◌, ◌-ℤ◌, ◌*ℤ◌, ◌≤ℤ◌}
use Rattle.std.proofs.Common.{sym, ap, ap₂, ◌∙◌, mul-le-mul, div-le_self, arith, ltb→lt, Fits, SFits, to_z, of_z}
use Rattle.std.proofs.Math.Nat.{zero-div, zero-mod, div-eq_of_lt, add-div_right}
use Rattle.std.specs.Int.Signed.{mag, le_z, quot_z, rem_z}
use Rattle.std.specs.Int.{w64}
use Rattle.std.proofs.lemmas.Int.{to_z-of_z, to_z_pos}
use Rattle.whole.specs.Number.{min_z, max_z, floor_div, pp, nn}
use Rattle.whole.specs.Signs.{abs_is, pn_add, p_neg, n_neg, pn_mul, sfits_pn, le_true, le_false, word_back, Word, word}

-- ---- a difference p - n that z is, if `need` holds; `known` is what is known of the numbers in it
pub record Rep (z : ℤ) : Type 1 where
  pub p : ℕ
  pub n : ℕ
  pub need : Type 0
  pub known : Type 0
  pub told : known
  pub is : need → pp z + n ≡ nn z + p

abbrev pub rep_pos : (k : ℕ) → Rep (pos k)
rep_pos k = record { p = k; n = 0; need = Unit {0}; known = Unit {0}; told = tt; is = λ h. omega arith }

abbrev pub rep_negsuc : (k : ℕ) → Rep (negsuc k)
rep_negsuc k = record { p = 0; n = suc k; need = Unit {0}; known = Unit {0}; told = tt; is = λ h. omega arith }

-- any number at all, as it stands: for a call's list, `search (reps, leaf z)`
abbrev pub leaf : (z : ℤ) → Rep z
leaf z = record { p = pp z; n = nn z; need = Unit {0}; known = nat_abs z ≡ pp z + nn z; told = abs_is z; is = λ h. omega arith }

abbrev pub rep_leaf : (z : ℤ) → SFits w64 z → Rep z
rep_leaf z h = record { p = pp z; n = nn z; need = Unit {0}; known = Word z; told = word z h; is = λ h. omega arith }

abbrev pub rep_abs : (z : ℤ) (k : ℕ) → nat_abs z ≤ k → Rep z
rep_abs z k h = leaf z

pub bits_is : (z : ℤ) (p n : ℕ) → pp z + n ≡ nn z + p → p < 2 ^ 63 + n → n ≤ 2 ^ 63 + p → pp (to_z w64 (of_z w64 z)) + n ≡ nn (to_z w64 (of_z w64 z)) + p
bits_is z p n e h i = rw (to_z-of_z w64 z (sfits_pn z (omega arith) (omega arith))) e

pub word-is : (z : ℤ) → SFits w64 z → pp (to_z w64 (of_z w64 z)) + nn z ≡ nn (to_z w64 (of_z w64 z)) + pp z
word-is z h = rw (to_z-of_z w64 z h) (omega arith)

abbrev pub rep_word : (z : ℤ) → SFits w64 z → Rep (to_z w64 (of_z w64 z))
rep_word z h = record { p = pp z; n = nn z; need = Unit {0}; known = Word z; told = word z h; is = λ i. word-is z h }

-- of a call's result, `.ok` says the bound alone
abbrev pub rep_ok : (z : ℤ) → mag z < 2 ^ 63 → Rep z
rep_ok z h = rep_leaf z (record { sfits = h })

abbrev pub rep_word_ok : (z : ℤ) → mag z < 2 ^ 63 → Rep (to_z w64 (of_z w64 z))
rep_word_ok z h = rep_word z (record { sfits = h })

-- ---- words of a list, every one of them within b of 0
pub record Each (b : ℕ) (s : List ℤ) : Type 0 where
  pub at : (k : ℕ) → nat_abs (get_or s k (pos 0)) ≤ b

abbrev pub AtMost : ℤ → ℕ → Type 0
AtMost z b = (nat_abs z ≡ pp z + nn z) × (nat_abs z ≤ b)

pub small : (z : ℤ) (b : ℕ) → nat_abs z ≤ b → b < 2 ^ 63 → SFits w64 z
small z b h i = sfits_pn z (omega (arith, abs_is z)) (omega (arith, abs_is z))

pub at-most-told : (z : ℤ) (b : ℕ) → nat_abs z ≤ b → AtMost z b
at-most-told z b h = (abs_is z, h)

-- for `simp`: every read of a word of s, at once
pub reads : {b : ℕ} {s : List ℤ} → Each b s → T (ltb b (2 ^ 63)) → (k : ℕ) → to_z w64 (of_z w64 (get_or s k (pos 0))) ≡ get_or s k (pos 0)
reads {b} {s} e t k = to_z-of_z w64 (get_or s k (pos 0)) (small (get_or s k (pos 0)) b (e.at k) (ltb→lt b (2 ^ 63) t))

abbrev pub rep_get : (b : ℕ) (s : List ℤ) (k : ℕ) → Each b s → Rep (get_or s k (pos 0))
rep_get b s k e = record { p = pp (get_or s k (pos 0)); n = nn (get_or s k (pos 0)); need = Unit {0}; known = AtMost (get_or s k (pos 0)) b; told = at-most-told (get_or s k (pos 0)) b (e.at k); is = λ h. omega arith }

abbrev pub rep_get_word : (b : ℕ) (s : List ℤ) (k : ℕ) → Each b s → Rep (to_z w64 (of_z w64 (get_or s k (pos 0))))
rep_get_word b s k e = record { p = pp (get_or s k (pos 0)); n = nn (get_or s k (pos 0)); need = b < 2 ^ 63; known = AtMost (get_or s k (pos 0)) b; told = at-most-told (get_or s k (pos 0)) b (e.at k); is = λ h. word-is (get_or s k (pos 0)) (small (get_or s k (pos 0)) b (e.at k) h) }

abbrev pub rep_bits : (z : ℤ) → Rep z → Rep (to_z w64 (of_z w64 z))
rep_bits z r = record { p = r.p; n = r.n; need = r.need × (r.p < 2 ^ 63 + r.n) × (r.n ≤ 2 ^ 63 + r.p); known = r.known; told = r.told; is = λ h. bits_is z r.p r.n (r.is h.0) h.1 h.2 }

pub neg_is : (a : ℤ) (p n : ℕ) → pp a + n ≡ nn a + p → pp (neg_ℤ a) + p ≡ nn (neg_ℤ a) + n
neg_is a p n h = omega (arith, p_neg a, n_neg a)

abbrev pub rep_neg : (a : ℤ) → Rep a → Rep (neg_ℤ a)
rep_neg a r = record { p = r.n; n = r.p; need = r.need; known = r.known; told = r.told; is = λ h. neg_is a r.p r.n (r.is h) }

pub add_is : (a b : ℤ) (p n q m : ℕ) → pp a + n ≡ nn a + p → pp b + m ≡ nn b + q → pp (a +ℤ b) + (n + m) ≡ nn (a +ℤ b) + (p + q)
add_is a b p n q m h i = omega (arith, pn_add a b)

abbrev pub rep_add : (a b : ℤ) → Rep a → Rep b → Rep (a +ℤ b)
rep_add a b r s = record { p = r.p + s.p; n = r.n + s.n; need = r.need × s.need; known = r.known × s.known; told = (r.told, s.told); is = λ h. add_is a b r.p r.n s.p s.n (r.is h.0) (s.is h.1) }

-- with a numeral first, as in `0 - x`, the sum computes to another form
abbrev pub rep_plus : (k : ℕ) (b : ℤ) → Rep b → Rep (pos k +ℤ b)
rep_plus k b s = rep_add (pos k) b (rep_pos k) s

abbrev pub rep_minus : (k : ℕ) (b : ℤ) → Rep b → Rep (pos k -ℤ b)
rep_minus k b s = rep_add (pos k) (neg_ℤ b) (rep_pos k) (rep_neg b s)

pub mul_is : (a b : ℤ) (p n q m : ℕ) → pp a + n ≡ nn a + p → pp b + m ≡ nn b + q → pp (a *ℤ b) + (p * m + n * q) ≡ nn (a *ℤ b) + (p * q + n * m)
mul_is a b p n q m h i = omega (arith, pn_mul a b, ap (λ (x : ℕ). x * pp b) h, ap (λ (x : ℕ). x * nn b) h, ap (λ (x : ℕ). x * p) i, ap (λ (x : ℕ). x * n) i)

abbrev pub rep_mul : (a b : ℤ) → Rep a → Rep b → Rep (a *ℤ b)
rep_mul a b r s = record { p = r.p * s.p + r.n * s.n; n = r.p * s.n + r.n * s.p; need = r.need × s.need; known = r.known × s.known; told = (r.told, s.told); is = λ h. mul_is a b r.p r.n s.p s.n (r.is h.0) (s.is h.1) }

-- quotients by a numeral
pub canon_p : (z : ℤ) (p n : ℕ) → pp z + n ≡ nn z + p → pp z ≡ p - n
canon_p (pos a) p n h = omega arith
canon_p (negsuc a) p n h = omega arith

pub canon_n : (z : ℤ) (p n : ℕ) → pp z + n ≡ nn z + p → nn z ≡ n - p
canon_n (pos a) p n h = omega arith
canon_n (negsuc a) p n h = omega arith

quot_p : (z : ℤ) (k : ℕ) → pp (quot_z z (pos k)) ≡ pp z / k
quot_p (pos a) k = refl
quot_p (negsuc a) k = p_neg (pos (suc a / k)) ∙ sym (zero-div k)

quot_n : (z : ℤ) (k : ℕ) → nn (quot_z z (pos k)) ≡ nn z / k
quot_n (pos a) k = sym (zero-div k)
quot_n (negsuc a) k = n_neg (pos (suc a / k))

pub quot_is : (z : ℤ) (k p n : ℕ) → pp z + n ≡ nn z + p → pp (quot_z z (pos k)) + (n - p) / k ≡ nn (quot_z z (pos k)) + (p - n) / k
quot_is z k p n h = rw (quot_p z k, quot_n z k, canon_p z p n h, canon_n z p n h) (omega arith)

abbrev pub rep_quot : (a : ℤ) (k : ℕ) → Rep a → Rep (quot_z a (pos k))
rep_quot a k r = record { p = (r.p - r.n) / k; n = (r.n - r.p) / k; need = r.need; known = r.known; told = r.told; is = λ h. quot_is a k r.p r.n (r.is h) }

rem-p : (z : ℤ) (k : ℕ) → pp (rem_z z (pos k)) ≡ pp z % k
rem-p (pos a) k = refl
rem-p (negsuc a) k = p_neg (pos (suc a % k)) ∙ sym (zero-mod k)

rem-n : (z : ℤ) (k : ℕ) → nn (rem_z z (pos k)) ≡ nn z % k
rem-n (pos a) k = sym (zero-mod k)
rem-n (negsuc a) k = n_neg (pos (suc a % k))

pub rem_is : (z : ℤ) (k p n : ℕ) → pp z + n ≡ nn z + p → pp (rem_z z (pos k)) + (n - p) % k ≡ nn (rem_z z (pos k)) + (p - n) % k
rem_is z k p n h = rw (rem-p z k, rem-n z k, canon_p z p n h, canon_n z p n h) (omega arith)

abbrev pub rep_rem : (a : ℤ) (k : ℕ) → Rep a → Rep (rem_z a (pos k))
rep_rem a k r = record { p = (r.p - r.n) % k; n = (r.n - r.p) % k; need = r.need; known = r.known; told = r.told; is = λ h. rem_is a k r.p r.n (r.is h) }

-- quotients by a word that is above 0: the quotients are unknowns to `omega`, at most what is divided
pub quot_word-is : (a b : ℤ) (p n : ℕ) → SFits w64 b → pos 1 ≤ℤ b → pp a + n ≡ nn a + p → pp (quot_z a (to_z w64 (of_z w64 b))) + (n - p) / nat_abs b ≡ nn (quot_z a (to_z w64 (of_z w64 b))) + (p - n) / nat_abs b
quot_word-is a (pos b) p n f h e = rw (to_z-of_z w64 (pos b) f) (quot_is a b p n e)
quot_word-is a (negsuc b) p n f h e = absurd h.le

abbrev pub rep_quot_word : (a b : ℤ) → Rep a → SFits w64 b → pos 1 ≤ℤ b → Rep (quot_z a (to_z w64 (of_z w64 b)))
rep_quot_word a b r f h =
    record {
      p = (r.p - r.n) / nat_abs b;
      n = (r.n - r.p) / nat_abs b;
      need = r.need;
      known = r.known × ((r.p - r.n) / nat_abs b ≤ r.p - r.n) × ((r.n - r.p) / nat_abs b ≤ r.n - r.p);
      told = (r.told, div-le_self (r.p - r.n) (nat_abs b), div-le_self (r.n - r.p) (nat_abs b));
      is = λ g. quot_word-is a b r.p r.n f h (r.is g);
    }

pub via : {a c : ℤ} (b : ℤ) → a ≡ b → b ≡ c → a ≡ c
via b e f = e ∙ f

-- ---- rounded down

floor-p : (z : ℤ) (k : ℕ) → pp (floor_div z k) ≡ pp z / k
unfolding floor_div
floor-p (pos a) k = refl
floor-p (negsuc a) k = sym (zero-div k)

floor-n : (z : ℤ) (k : ℕ) → 0 < k → nn (floor_div z k) ≡ (nn z + (k - 1)) / k
unfolding floor_div
floor-n (pos a) k h = sym (div-eq_of_lt (omega arith))
floor-n (negsuc a) k h =
    let e : suc a + (k - 1) ≡ a + k = omega arith in
    let f : (suc a + (k - 1)) / k ≡ a / k + 1 = rw e (add-div_right a h) in
    omega arith

pub floor-is : (z : ℤ) (k p n : ℕ) → 0 < k → pp z + n ≡ nn z + p → pp (floor_div z k) + ((n - p) + (k - 1)) / k ≡ nn (floor_div z k) + (p - n) / k
floor-is z k p n i h = rw (floor-p z k, floor-n z k i, canon_p z p n h, canon_n z p n h) (omega arith)

abbrev pub rep_floor : (a : ℤ) (k : ℕ) → Rep a → Rep (floor_div a k)
rep_floor a k r = record { p = (r.p - r.n) / k; n = ((r.n - r.p) + (k - 1)) / k; need = r.need × (0 < k); known = r.known; told = r.told; is = λ h. floor-is a k r.p r.n h.1 (r.is h.0) }

-- ---- the lesser and the greater of two, and a choice that a test has made
pub min-is : (a b : ℤ) (p n q m : ℕ) → pp a + n ≡ nn a + p → pp b + m ≡ nn b + q → pp (min_z a b) + (n + m) ≡ nn (min_z a b) + min (p + m) (q + n)
unfolding min_z
min-is a b p n q m h i = go (le_z a b) refl
  where
    go : (t : Bool) → le_z a b ≡ t → pp (cond t a b) + (n + m) ≡ nn (cond t a b) + min (p + m) (q + n)
    go true e = omega (arith, le_true a b e)
    go false e = omega (arith, le_false a b e)

pub max-is : (a b : ℤ) (p n q m : ℕ) → pp a + n ≡ nn a + p → pp b + m ≡ nn b + q → pp (max_z a b) + (n + m) ≡ nn (max_z a b) + max (p + m) (q + n)
unfolding max_z
max-is a b p n q m h i = go (le_z a b) refl
  where
    go : (t : Bool) → le_z a b ≡ t → pp (cond t b a) + (n + m) ≡ nn (cond t b a) + max (p + m) (q + n)
    go true e = omega (arith, le_true a b e)
    go false e = omega (arith, le_false a b e)

abbrev pub rep_min : (a b : ℤ) → Rep a → Rep b → Rep (min_z a b)
rep_min a b r s = record { p = min (r.p + s.n) (s.p + r.n); n = r.n + s.n; need = r.need × s.need; known = r.known × s.known; told = (r.told, s.told); is = λ h. min-is a b r.p r.n s.p s.n (r.is h.0) (s.is h.1) }

abbrev pub rep_max : (a b : ℤ) → Rep a → Rep b → Rep (max_z a b)
rep_max a b r s = record { p = max (r.p + s.n) (s.p + r.n); n = r.n + s.n; need = r.need × s.need; known = r.known × s.known; told = (r.told, s.told); is = λ h. max-is a b r.p r.n s.p s.n (r.is h.0) (s.is h.1) }

abbrev pub rep_yes : (t : Bool) (a b : ℤ) → t ≡ true → Rep a → Rep (cond t a b)
rep_yes t a b e r = record { p = r.p; n = r.n; need = r.need; known = r.known; told = r.told; is = λ h. rw e (r.is h) }

abbrev pub rep_no : (t : Bool) (a b : ℤ) → t ≡ false → Rep b → Rep (cond t a b)
rep_no t a b e r = record { p = r.p; n = r.n; need = r.need; known = r.known; told = r.told; is = λ h. rw e (r.is h) }

-- what an equation in reach says of a number, as a call's `ensures`
abbrev pub rep_eq : (a b : ℤ) → a ≡ b → Rep b → Rep a
rep_eq a b e r = record { p = r.p; n = r.n; need = r.need; known = r.known; told = r.told; is = λ h. rw e (r.is h) }

-- ---- a natural number of the code, with the numbers in it that come from whole numbers
pub record Num (k : ℕ) : Type 1 where
  pub v : ℕ
  pub need : Type 0
  pub known : Type 0
  pub told : known
  pub is : need → k ≡ v

abbrev pub num : (k : ℕ) → Num k
num k = record { v = k; need = Unit {0}; known = Unit {0}; told = tt; is = λ h. refl }

abbrev pub num_lit : (k : ℕ) → T (ltb k (2 ^ 64)) → Num k
num_lit k h = num k

abbrev pub num_fits : (k : ℕ) → Fits w64 k → Num k
num_fits k h = num k

abbrev pub num_below : (k m : ℕ) → k < m → Num k
num_below k m h = num k

abbrev pub num_most : (k m : ℕ) → k ≤ m → Num k
num_most k m h = num k

abbrev pub num_suc : (a : ℕ) → Num a → Num (suc a)
num_suc a r = record { v = suc r.v; need = r.need; known = r.known; told = r.told; is = λ h. ap suc (r.is h) }

pub abs_is_diff : (z : ℤ) (p n : ℕ) → pp z + n ≡ nn z + p → nat_abs z ≡ (p - n) + (n - p)
abs_is_diff z p n h = omega (arith, abs_is z, canon_p z p n h, canon_n z p n h)

abbrev pub num_abs : (z : ℤ) → Rep z → Num (nat_abs z)
num_abs z r = record { v = (r.p - r.n) + (r.n - r.p); need = r.need; known = r.known; told = r.told; is = λ h. abs_is_diff z r.p r.n (r.is h) }

abbrev pub num_word : (z : ℤ) → SFits w64 z → Num (nat_abs z)
num_word z h = record { v = nat_abs z; need = Unit {0}; known = Word z; told = word z h; is = λ h. refl }

abbrev pub num_back : (z : ℤ) → SFits w64 z → Num (nat_abs (to_z w64 (of_z w64 z)))
num_back z h = record { v = nat_abs z; need = Unit {0}; known = Word z; told = word z h; is = λ i. word_back z h }

abbrev pub num_get : (b : ℕ) (s : List ℤ) (k : ℕ) → Each b s → Num (nat_abs (get_or s k (pos 0)))
num_get b s k e = record { v = nat_abs (get_or s k (pos 0)); need = Unit {0}; known = AtMost (get_or s k (pos 0)) b; told = at-most-told (get_or s k (pos 0)) b (e.at k); is = λ h. refl }

abbrev pub num_get_back : (b : ℕ) (s : List ℤ) (k : ℕ) → Each b s → Num (nat_abs (to_z w64 (of_z w64 (get_or s k (pos 0)))))
num_get_back b s k e = record { v = nat_abs (get_or s k (pos 0)); need = b < 2 ^ 63; known = AtMost (get_or s k (pos 0)) b; told = at-most-told (get_or s k (pos 0)) b (e.at k); is = λ h. word_back (get_or s k (pos 0)) (small (get_or s k (pos 0)) b (e.at k) h) }

abbrev pub num_add : (a b : ℕ) → Num a → Num b → Num (a + b)
num_add a b r s = record { v = r.v + s.v; need = r.need × s.need; known = r.known × s.known; told = (r.told, s.told); is = λ h. ap₂ ◌+◌ (r.is h.0) (s.is h.1) }

abbrev pub num_mul : (a b : ℕ) → Num a → Num b → Num (a * b)
num_mul a b r s = record { v = r.v * s.v; need = r.need × s.need; known = r.known × s.known; told = (r.told, s.told); is = λ h. ap₂ ◌*◌ (r.is h.0) (s.is h.1) }

abbrev pub num_div : (a b : ℕ) → Num a → Num b → Num (a / b)
num_div a b r s = record { v = r.v / s.v; need = r.need × s.need; known = r.known × s.known; told = (r.told, s.told); is = λ h. ap₂ ◌/◌ (r.is h.0) (s.is h.1) }

-- a `u64` that was cast to an `i64`, and is read back
pub cast_is : (k v : ℕ) → k ≡ v → v < 2 ^ 63 → pp (to_z w64 k) + 0 ≡ nn (to_z w64 k) + v
cast_is k v e h = rw (to_z_pos w64 k (omega arith)) (omega arith)

abbrev pub rep_cast : (k : ℕ) → Num k → Rep (to_z w64 k)
rep_cast k r = record { p = r.v; n = 0; need = r.need × (r.v < 2 ^ 63); known = r.known; told = r.told; is = λ h. cast_is k r.v (r.is h.0) h.1 }

-- a variable that the arms of a branch, or an invariant, say the bits of
abbrev pub rep_read : (t u : ℕ) → t ≡ u → Rep (to_z w64 u) → Rep (to_z w64 t)
rep_read t u e r = record { p = r.p; n = r.n; need = r.need; known = r.known; told = r.told; is = λ h. rw e (r.is h) }

-- the product of two numbers of which a bound is known: `omega (facts, prod x y h i)`
pub prod : (x y : ℤ) {m n : ℕ} → nat_abs x ≤ m → nat_abs y ≤ n → pp x * pp y + pp x * nn y + nn x * pp y + nn x * nn y ≤ m * n
prod x y {m} {n} h i = let e = rw (abs_is x, abs_is y) at (mul-le-mul h i) in omega (arith, e)

pub ruleset nums = (num_lit, num_get, num_get_back, num_fits, num_below, num_most, num_suc, num_word, num_back, num_abs, num_add, num_mul, num_div)

pub ruleset reps = (tt, rep_pos, rep_negsuc, rep_get, rep_get_word, rep_word, rep_leaf, rep_word_ok, rep_ok, rep_abs, rep_bits, rep_cast, rep_neg, rep_add, rep_plus, rep_minus, rep_mul, rep_quot, rep_rem, rep_quot_word, rep_floor, rep_min, rep_max, rep_yes, rep_no, rep_eq, rep_read, nums)

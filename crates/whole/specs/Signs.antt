-- A whole number by its part above 0 and its part below 0, two naturals of which one is 0; tests and orders of whole numbers as
-- tests and orders of these; and what is known of a number that fits a machine word. Assumes nothing.
use Rattle.std.specs.Prelude.{◌≡◌, refl, Bool, true, false, cond, ℕ, zero, suc, ◌+◌, ◌*◌, ◌-◌, ◌≤◌, ◌<◌, ◌^◌, max, T, ltb, ℤ, pos, negsuc, neg_ℤ, nat_abs, ◌+ℤ◌, ◌*ℤ◌, ◌≤ℤ◌, ◌<ℤ◌}
use Rattle.std.proofs.Common.{ap, ◌∙◌, arith, SFits, to_z, of_z, ltb-true, ltb-false, leb-true, leb-false, lt-ltb, le-ltb, le-leb}
use Rattle.std.proofs.Math.IntN.{sub_ℕ}
use Rattle.std.specs.Int.Signed.{mag, lt_z, le_z}
use Rattle.std.specs.Int.{w64}
use Rattle.std.proofs.lemmas.Int.{to_z-of_z}
use Rattle.whole.specs.Number.{pp, nn}
use Rattle.std.proofs.lemmas.Bool.{lt-leb}

-- ---- the part above 0 and the part below 0
pub abs_is : (z : ℤ) → nat_abs z ≡ pp z + nn z
abs_is (pos n) = omega arith
abs_is (negsuc n) = omega arith

pub pn_sub : (a b : ℕ) → pp (sub_ℕ a b) + b ≡ nn (sub_ℕ a b) + a
pn_sub a b = go (ltb a b) refl
  where
    go : (t : Bool) → ltb a b ≡ t → pp (cond t (negsuc (b - suc a)) (pos (a - b))) + b ≡ nn (cond t (negsuc (b - suc a)) (pos (a - b))) + a
    go true e = omega (arith, ltb-true a b e)
    go false e = omega (arith, ltb-false a b e)

pub pn_add : (a b : ℤ) → pp (a +ℤ b) + (nn a + nn b) ≡ nn (a +ℤ b) + (pp a + pp b)
pn_add (pos a) (pos b) = omega arith
pn_add (pos a) (negsuc b) = omega (arith, pn_sub a (suc b))
pn_add (negsuc a) (pos b) = omega (arith, pn_sub b (suc a))
pn_add (negsuc a) (negsuc b) = omega arith

pub p_neg : (a : ℤ) → pp (neg_ℤ a) ≡ nn a
p_neg (pos zero) = refl
p_neg (pos (suc n)) = refl
p_neg (negsuc n) = refl

pub n_neg : (a : ℤ) → nn (neg_ℤ a) ≡ pp a
n_neg (pos zero) = refl
n_neg (pos (suc n)) = refl
n_neg (negsuc n) = refl

pub pn_mul : (a b : ℤ) → pp (a *ℤ b) + (pp a * nn b + nn a * pp b) ≡ nn (a *ℤ b) + (pp a * pp b + nn a * nn b)
pn_mul (pos a) (pos b) = omega arith
pn_mul (pos a) (negsuc b) = omega (arith, p_neg (pos (a * suc b)), n_neg (pos (a * suc b)))
pn_mul (negsuc a) (pos b) = omega (arith, p_neg (pos (suc a * b)), n_neg (pos (suc a * b)))
pn_mul (negsuc a) (negsuc b) = omega arith

pub sfits_pn : (z : ℤ) → pp z < 2 ^ 63 + nn z → nn z ≤ 2 ^ 63 + pp z → SFits w64 z
sfits_pn (pos k) h i = omega arith
sfits_pn (negsuc k) h i = omega arith

pub pn_inj : (a b : ℤ) → pp a + nn b ≡ pp b + nn a → a ≡ b
pn_inj (pos a) (pos b) h = ap pos (omega arith)
pn_inj (pos a) (negsuc b) h = absurd (omega arith)
pn_inj (negsuc a) (pos b) h = absurd (omega arith)
pn_inj (negsuc a) (negsuc b) h = ap negsuc (omega arith)

-- ---- tests
pub lt_true : (a b : ℤ) → lt_z a b ≡ true → pp a + nn b < pp b + nn a
lt_true (pos a) (pos b) e = omega (arith, ltb-true a b e)
lt_true (pos a) (negsuc b) e = let z : ◌≡◌ {A = ℕ} 0 1 = cc in omega arith
lt_true (negsuc a) (pos b) e = omega arith
lt_true (negsuc a) (negsuc b) e = omega (arith, ltb-true b a e)

pub lt_false : (a b : ℤ) → lt_z a b ≡ false → pp b + nn a ≤ pp a + nn b
lt_false (pos a) (pos b) e = omega (arith, ltb-false a b e)
lt_false (pos a) (negsuc b) e = omega arith
lt_false (negsuc a) (pos b) e = let z : ◌≡◌ {A = ℕ} 0 1 = cc in omega arith
lt_false (negsuc a) (negsuc b) e = omega (arith, ltb-false b a e)

pub le_true : (a b : ℤ) → le_z a b ≡ true → pp a + nn b ≤ pp b + nn a
le_true (pos a) (pos b) e = omega (arith, leb-true a b e)
le_true (pos a) (negsuc b) e = let z : ◌≡◌ {A = ℕ} 0 1 = cc in omega arith
le_true (negsuc a) (pos b) e = omega arith
le_true (negsuc a) (negsuc b) e = omega (arith, leb-true b a e)

pub le_false : (a b : ℤ) → le_z a b ≡ false → pp b + nn a < pp a + nn b
le_false (pos a) (pos b) e = omega (arith, leb-false a b e)
le_false (pos a) (negsuc b) e = omega arith
le_false (negsuc a) (pos b) e = let z : ◌≡◌ {A = ℕ} 0 1 = cc in omega arith
le_false (negsuc a) (negsuc b) e = omega (arith, leb-false b a e)

pub is_lt : (a b : ℤ) → pp a + nn b < pp b + nn a → lt_z a b ≡ true
is_lt (pos a) (pos b) h = lt-ltb a b (omega arith)
is_lt (pos a) (negsuc b) h = absurd (omega arith)
is_lt (negsuc a) (pos b) h = refl
is_lt (negsuc a) (negsuc b) h = lt-ltb b a (omega arith)

pub not-lt : (a b : ℤ) → pp b + nn a ≤ pp a + nn b → lt_z a b ≡ false
not-lt (pos a) (pos b) h = le-ltb a b (omega arith)
not-lt (pos a) (negsuc b) h = refl
not-lt (negsuc a) (pos b) h = absurd (omega arith)
not-lt (negsuc a) (negsuc b) h = le-ltb b a (omega arith)

pub is_le : (a b : ℤ) → pp a + nn b ≤ pp b + nn a → le_z a b ≡ true
is_le (pos a) (pos b) h = le-leb a b (omega arith)
is_le (pos a) (negsuc b) h = absurd (omega arith)
is_le (negsuc a) (pos b) h = refl
is_le (negsuc a) (negsuc b) h = le-leb b a (omega arith)

pub not-le : (a b : ℤ) → pp b + nn a < pp a + nn b → le_z a b ≡ false
not-le (pos a) (pos b) h = lt-leb a b (omega arith)
not-le (pos a) (negsuc b) h = refl
not-le (negsuc a) (pos b) h = absurd (omega arith)
not-le (negsuc a) (negsuc b) h = lt-leb b a (omega arith)

-- orders as the contracts state them
pub is_true : (t : Bool) → T t → t ≡ true
is_true true h = refl
is_true false h = absurd h

pub false_true : false ≡ true → ⊥
false_true e = let z : ◌≡◌ {A = ℕ} 0 1 = cc in omega arith

pub le_is : (a b : ℤ) → a ≤ℤ b → pp a + nn b ≤ pp b + nn a
le_is a b h = le_true a b (is_true (le_z a b) h.le)

pub lt-is : (a b : ℤ) → a <ℤ b → pp a + nn b < pp b + nn a
lt-is a b h = lt_true a b (is_true (lt_z a b) h.lt)

-- with a numeral on one side they say the sign as well
pub le-zero : (z : ℤ) → pos 0 ≤ℤ z → nn z ≡ 0
le-zero (pos a) h = refl
le-zero (negsuc a) h = absurd h.le

pub le-pos : (k : ℕ) (z : ℤ) → pos k ≤ℤ z → max k (pp z) + nn z ≤ pp z
le-pos k (pos a) h = omega (arith, le_is (pos k) (pos a) h)
le-pos k (negsuc a) h = absurd h.le

pub le-negsuc : (z : ℤ) (k : ℕ) → z ≤ℤ negsuc k → max (suc k) (nn z) + pp z ≤ nn z
le-negsuc (pos a) k h = absurd h.le
le-negsuc (negsuc a) k h = omega (arith, le_is (negsuc a) (negsuc k) h)

-- ---- a word: what is known of a number that fits, and of what the machine reads back from its bits
pub word_back : (z : ℤ) → SFits w64 z → nat_abs (to_z w64 (of_z w64 z)) ≡ nat_abs z
word_back z h = ap nat_abs (to_z-of_z w64 z h)

-- the same of a call's result, of which `.ok` says the bound: `back c.f.result c.f.ok`
pub back : (z : ℤ) → mag z < 2 ^ 63 → to_z w64 (of_z w64 z) ≡ z
back z h = to_z-of_z w64 z (record { sfits = h })

-- the same of an argument, `arg s.fits.x`, and of a call's result with what the callee ensures of it, `came c.f.result c.f.ok c.f.ensures`
pub arg : {z : ℤ} → SFits w64 z → to_z w64 (of_z w64 z) ≡ z
arg {z} h = to_z-of_z w64 z h

pub came : (r : ℤ) {z : ℤ} → mag r < 2 ^ 63 → r ≡ z → to_z w64 (of_z w64 r) ≡ z
came r h e = back r h ∙ e

abbrev pub Word : ℤ → Type 0
Word z = (nat_abs z ≡ pp z + nn z) × (pp z < 2 ^ 63) × (nn z ≤ 2 ^ 63) × (nat_abs (to_z w64 (of_z w64 z)) ≡ nat_abs z)

pub word : (z : ℤ) → SFits w64 z → Word z
word (pos n) h = (omega arith, omega arith, omega arith, word_back (pos n) h)
word (negsuc n) h = (omega arith, omega arith, omega arith, word_back (negsuc n) h)

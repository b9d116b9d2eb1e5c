-- Signed needs in one line. A whole number is read as a difference of two naturals (`Reps`), so that `omega` serves for it.
--     by (search whole depth 20) (omega facts)            shows a need: a fit, an equation, an order, a test, a cast
--     told h (search known depth 20) (omega facts)        what a test or an equation h says, for a call's list: omega (facts, told ..)
-- Assumes nothing.
use Rattle.std.specs.Prelude.{◌≡◌, refl, Bool, true, false, not, ◌&&◌, ◌||◌, ◌≢◌, ℕ, ◌+◌, ◌-◌, ◌≤◌, ◌<◌, ◌^◌, T, ltb, leb, ℤ, pos, negsuc, nat_abs, ◌≤ℤ◌, ◌<ℤ◌}
use Rattle.std.proofs.Common.{sym, ap, ◌∙◌, subst, arith, leb→le, Fits, SFits, to_z, of_z, ltb-true, leb-true, leb-false, le-leb}
use Rattle.std.specs.Int.Signed.{lt_z, le_z, non_neg, quot_z}
use Rattle.std.specs.Int.{w64}
use Rattle.std.proofs.lemmas.Int.{to_z-of_z}
use Rattle.std.proofs.lemmas.Bool.{lt-leb, not-true, not-false}
use Rattle.whole.specs.Number.{pp, nn}
use Rattle.whole.specs.Signs.{false_true, abs_is, sfits_pn, pn_inj, lt_true, lt_false, le_true, le_false, is_lt, not-lt, is_le, not-le, le_is, lt-is, le-zero, le-pos, le-negsuc, word_back, Word, word}
use Rattle.whole.specs.Reps.{Rep, Num, reps}

-- ---- what a test says, found by `search tests`
pub record Test (t : Bool) : Type 1 where
  pub need : Type 0
  pub known : Type 0
  pub told : known
  pub yes : Type 0
  pub no : Type 0
  pub is_yes : need → t ≡ true → yes
  pub is_no : need → t ≡ false → no
  pub yes_is : need → yes → t ≡ true
  pub no_is : need → no → t ≡ false

module _ (a b : ℤ) (p n q m : ℕ) (h : pp a + n ≡ nn a + p) (i : pp b + m ≡ nn b + q) where
  pub lt_yes : lt_z a b ≡ true → p + m < q + n
  lt_yes e = omega (arith, lt_true a b e)

  pub lt_no : lt_z a b ≡ false → q + n ≤ p + m
  lt_no e = omega (arith, lt_false a b e)

  pub yes_lt : p + m < q + n → lt_z a b ≡ true
  yes_lt e = is_lt a b (omega arith)

  pub no_lt : q + n ≤ p + m → lt_z a b ≡ false
  no_lt e = not-lt a b (omega arith)

  pub le_yes : le_z a b ≡ true → p + m ≤ q + n
  le_yes e = omega (arith, le_true a b e)

  pub le-no : le_z a b ≡ false → q + n < p + m
  le-no e = omega (arith, le_false a b e)

  pub yes_le : p + m ≤ q + n → le_z a b ≡ true
  yes_le e = is_le a b (omega arith)

  pub no_le : q + n < p + m → le_z a b ≡ false
  no_le e = not-le a b (omega arith)

pub leb_yes : (a b v w : ℕ) → a ≡ v → b ≡ w → leb a b ≡ true → v ≤ w
leb_yes a b v w h i e = omega (arith, leb-true a b e)

pub leb_no : (a b v w : ℕ) → a ≡ v → b ≡ w → leb a b ≡ false → w < v
leb_no a b v w h i e = omega (arith, leb-false a b e)

pub yes_leb : (a b v w : ℕ) → a ≡ v → b ≡ w → v ≤ w → leb a b ≡ true
yes_leb a b v w h i e = le-leb a b (omega arith)

pub no_leb : (a b v w : ℕ) → a ≡ v → b ≡ w → w < v → leb a b ≡ false
no_leb a b v w h i e = lt-leb a b (omega arith)

pub and_l : (s t : Bool) → (s && t) ≡ true → s ≡ true
and_l true t e = refl
and_l false t e = e

pub and_r : (s t : Bool) → (s && t) ≡ true → t ≡ true
and_r true t e = e
and_r false t e = absurd (false_true e)

pub and_no : (s t : Bool) → (s && t) ≡ false → s ≡ true → t ≡ false
and_no true t e i = e
and_no false t e i = absurd (false_true i)

pub and_yes : (s t : Bool) → s ≡ true → t ≡ true → (s && t) ≡ true
and_yes true t h i = i
and_yes false t h i = h

pub and-fails : (s t : Bool) → (s ≡ true → t ≡ false) → (s && t) ≡ false
and-fails true t f = f refl
and-fails false t f = refl

abbrev pub test_lt : (a b : ℤ) → Rep a → Rep b → Test (lt_z a b)
test_lt a b r s =
    record {
      need = r.need × s.need;
      known = r.known × s.known;
      told = (r.told, s.told);
      yes = r.p + s.n < s.p + r.n;
      no = s.p + r.n ≤ r.p + s.n;
      is_yes = λ h. lt_yes a b r.p r.n s.p s.n (r.is h.0) (s.is h.1);
      is_no = λ h. lt_no a b r.p r.n s.p s.n (r.is h.0) (s.is h.1);
      yes_is = λ h. yes_lt a b r.p r.n s.p s.n (r.is h.0) (s.is h.1);
      no_is = λ h. no_lt a b r.p r.n s.p s.n (r.is h.0) (s.is h.1);
    }

abbrev pub test_le : (a b : ℤ) → Rep a → Rep b → Test (le_z a b)
test_le a b r s =
    record {
      need = r.need × s.need;
      known = r.known × s.known;
      told = (r.told, s.told);
      yes = r.p + s.n ≤ s.p + r.n;
      no = s.p + r.n < r.p + s.n;
      is_yes = λ h. le_yes a b r.p r.n s.p s.n (r.is h.0) (s.is h.1);
      is_no = λ h. le-no a b r.p r.n s.p s.n (r.is h.0) (s.is h.1);
      yes_is = λ h. yes_le a b r.p r.n s.p s.n (r.is h.0) (s.is h.1);
      no_is = λ h. no_le a b r.p r.n s.p s.n (r.is h.0) (s.is h.1);
    }

abbrev pub test_leb : (a b : ℕ) → Num a → Num b → Test (leb a b)
test_leb a b r s =
    record {
      need = r.need × s.need;
      known = r.known × s.known;
      told = (r.told, s.told);
      yes = r.v ≤ s.v;
      no = s.v < r.v;
      is_yes = λ h. leb_yes a b r.v s.v (r.is h.0) (s.is h.1);
      is_no = λ h. leb_no a b r.v s.v (r.is h.0) (s.is h.1);
      yes_is = λ h. yes_leb a b r.v s.v (r.is h.0) (s.is h.1);
      no_is = λ h. no_leb a b r.v s.v (r.is h.0) (s.is h.1);
    }

-- a word against 0
pub neg_yes : (z : ℤ) → SFits w64 z → lt_z (to_z w64 (of_z w64 z)) (pos 0) ≡ true → (pp z ≡ 0) × (0 < nn z)
neg_yes z h = rw (to_z-of_z w64 z h) (go z)
  where
    go : (y : ℤ) → lt_z y (pos 0) ≡ true → (pp y ≡ 0) × (0 < nn y)
    go (pos k) e = omega (arith, ltb-true k 0 e)
    go (negsuc k) e = omega arith

pub neg_no : (z : ℤ) → SFits w64 z → lt_z (to_z w64 (of_z w64 z)) (pos 0) ≡ false → nn z ≡ 0
neg_no z h = rw (to_z-of_z w64 z h) (go z)
  where
    go : (y : ℤ) → lt_z y (pos 0) ≡ false → nn y ≡ 0
    go (pos k) e = refl
    go (negsuc k) e = absurd (false_true (sym e))

pub yes_neg : (z : ℤ) → SFits w64 z → (pp z ≡ 0) × (0 < nn z) → lt_z (to_z w64 (of_z w64 z)) (pos 0) ≡ true
yes_neg z h i = rw (to_z-of_z w64 z h) (is_lt z (pos 0) (omega arith))

pub no_neg : (z : ℤ) → SFits w64 z → nn z ≡ 0 → lt_z (to_z w64 (of_z w64 z)) (pos 0) ≡ false
no_neg z h i = rw (to_z-of_z w64 z h) (not-lt z (pos 0) (omega arith))

abbrev pub test_neg : (z : ℤ) → SFits w64 z → Test (lt_z (to_z w64 (of_z w64 z)) (pos 0))
test_neg z h = record { need = Unit {0}; known = Word z; told = word z h; yes = (pp z ≡ 0) × (0 < nn z); no = nn z ≡ 0; is_yes = λ i. neg_yes z h; is_no = λ i. neg_no z h; yes_is = λ i. yes_neg z h; no_is = λ i. no_neg z h }

-- of two tests, `no` says what the second says where the first holds
abbrev pub test_and : (s t : Bool) → Test s → Test t → Test (s && t)
test_and s t r u =
    record {
      need = r.need × u.need;
      known = r.known × u.known;
      told = (r.told, u.told);
      yes = r.yes × u.yes;
      no = r.yes → u.no;
      is_yes = λ h e. (r.is_yes h.0 (and_l s t e), u.is_yes h.1 (and_r s t e));
      is_no = λ h e y. u.is_no h.1 (and_no s t e (r.yes_is h.0 y));
      yes_is = λ h e. and_yes s t (r.yes_is h.0 e.0) (u.yes_is h.1 e.1);
      no_is = λ h f. and-fails s t (λ e. u.no_is h.1 (f (r.is_yes h.0 e)));
    }

abbrev pub test_not : (t : Bool) → Test t → Test (not t)
test_not t r =
    record {
      need = r.need;
      known = r.known;
      told = r.told;
      yes = r.no;
      no = r.yes;
      is_yes = λ h e. r.is_no h (not-true t e);
      is_no = λ h e. r.is_yes h (not-false t e);
      yes_is = λ h e. ap not (r.no_is h e);
      no_is = λ h e. ap not (r.yes_is h e);
    }

pub or-fails : (s t : Bool) → s ≡ false → t ≡ false → (s || t) ≡ false
or-fails true t h i = h
or-fails false t h i = i

pub or_l : (s t : Bool) → (s || t) ≡ false → s ≡ false
or_l true t e = e
or_l false t e = refl

pub or_r : (s t : Bool) → (s || t) ≡ false → t ≡ false
or_r true t e = absurd (false_true (sym e))
or_r false t e = e

pub or_yes : (s t : Bool) → (s || t) ≡ true → s ≡ false → t ≡ true
or_yes true t e i = absurd (false_true (sym i))
or_yes false t e i = e

pub or_holds : (s t : Bool) → (s ≡ false → t ≡ true) → (s || t) ≡ true
or_holds true t f = refl
or_holds false t f = f refl

-- of two tests, `yes` says what the second says where the first fails
abbrev pub test_or : (s t : Bool) → Test s → Test t → Test (s || t)
test_or s t r u =
    record {
      need = r.need × u.need;
      known = r.known × u.known;
      told = (r.told, u.told);
      yes = r.no → u.yes;
      no = r.no × u.no;
      is_yes = λ h e y. u.is_yes h.1 (or_yes s t e (r.no_is h.0 y));
      is_no = λ h e. (r.is_no h.0 (or_l s t e), u.is_no h.1 (or_r s t e));
      yes_is = λ h f. or_holds s t (λ e. u.yes_is h.1 (f (r.is_no h.0 e)));
      no_is = λ h e. or-fails s t (r.no_is h.0 e.0) (u.no_is h.1 e.1);
    }

pub ruleset tests = (test_not, test_or, reps, test_neg, test_lt, test_le, test_leb, test_and)

-- ---- what is to be shown: `by (search whole depth 20) (omega facts)`
pub record Need (G : Type 0) : Type 1 where
  pub known : Type 0
  pub told : known
  pub asks : Type 0
  pub is : asks → G

pub by : {G : Type 0} (g : Need G) → (g.known → g.asks) → G
by g h = g.is (h g.told)

pub fits : (z : ℤ) (p n : ℕ) → pp z + n ≡ nn z + p → p < 2 ^ 63 + n → n ≤ 2 ^ 63 + p → SFits w64 z
fits z p n e h i = sfits_pn z (omega arith) (omega arith)

abbrev pub need_fits : (z : ℤ) → Rep z → Need (SFits w64 z)
need_fits z r = record { known = r.known; told = r.told; asks = r.need × (r.p < 2 ^ 63 + r.n) × (r.n ≤ 2 ^ 63 + r.p); is = λ h. fits z r.p r.n (r.is h.0) h.1 h.2 }

pub same : (a b : ℤ) (p n q m : ℕ) → pp a + n ≡ nn a + p → pp b + m ≡ nn b + q → p + m ≡ q + n → a ≡ b
same a b p n q m h i e = pn_inj a b (omega arith)

abbrev pub need_same : (a b : ℤ) → Rep a → Rep b → Need (a ≡ b)
need_same a b r s = record { known = r.known × s.known; told = (r.told, s.told); asks = r.need × s.need × (r.p + s.n ≡ s.p + r.n); is = λ h. same a b r.p r.n s.p s.n (r.is h.0) (s.is h.1) h.2 }

-- a cast to a `u64`
pub casts : (z : ℤ) (p n : ℕ) → pp z + n ≡ nn z + p → n ≤ p → p < 2 ^ 64 + n → T (non_neg z) × Fits w64 (nat_abs z)
casts (pos a) p n e h i = (tt, omega arith)
casts (negsuc a) p n e h i = absurd (omega arith)

-- found where z is a parameter: a cast of a computed number goes through a function
abbrev pub need_cast : (z : ℤ) → Rep z → Need (T (non_neg z) × Fits w64 (nat_abs z))
need_cast z r = record { known = r.known; told = r.told; asks = r.need × (r.n ≤ r.p) × (r.p < 2 ^ 64 + r.n); is = λ h. casts z r.p r.n (r.is h.0) h.1 h.2 }

pub nat_fits : (k v : ℕ) → k ≡ v → v < 2 ^ 64 → Fits w64 k
nat_fits k v e h = omega arith

abbrev pub need_nat_fits : (k : ℕ) → Num k → Need (Fits w64 k)
need_nat_fits k r = record { known = r.known; told = r.told; asks = r.need × (r.v < 2 ^ 64); is = λ h. nat_fits k r.v (r.is h.0) h.1 }

abbrev pub need_nat_same : (a b : ℕ) → Num a → Num b → Need (a ≡ b)
need_nat_same a b r s = record { known = r.known × s.known; told = (r.told, s.told); asks = r.need × s.need × (r.v ≡ s.v); is = λ h. r.is h.0 ∙ h.2 ∙ sym (s.is h.1) }

pub nat_le : (a b v w : ℕ) → a ≡ v → b ≡ w → v ≤ w → a ≤ b
nat_le a b v w h i e = omega arith

abbrev pub need_nat_le : (a b : ℕ) → Num a → Num b → Need (a ≤ b)
need_nat_le a b r s = record { known = r.known × s.known; told = (r.told, s.told); asks = r.need × s.need × (r.v ≤ s.v); is = λ h. nat_le a b r.v s.v (r.is h.0) (s.is h.1) h.2 }

-- orders and tests
pub true_le : (a b : ℤ) → le_z a b ≡ true → a ≤ℤ b
true_le a b e = record { le = subst T (sym e) tt }

pub true_lt : (a b : ℤ) → lt_z a b ≡ true → a <ℤ b
true_lt a b e = record { lt = subst T (sym e) tt }

abbrev pub need_le : (a b : ℤ) → Test (le_z a b) → Need (a ≤ℤ b)
need_le a b r = record { known = r.known; told = r.told; asks = r.need × r.yes; is = λ h. true_le a b (r.yes_is h.0 h.1) }

abbrev pub need_lt : (a b : ℤ) → Test (lt_z a b) → Need (a <ℤ b)
need_lt a b r = record { known = r.known; told = r.told; asks = r.need × r.yes; is = λ h. true_lt a b (r.yes_is h.0 h.1) }

abbrev pub need_true : (t : Bool) → Test t → Need (t ≡ true)
need_true t r = record { known = r.known; told = r.told; asks = r.need × r.yes; is = λ h. r.yes_is h.0 h.1 }

abbrev pub need_false : (t : Bool) → Test t → Need (t ≡ false)
need_false t r = record { known = r.known; told = r.told; asks = r.need × r.no; is = λ h. r.no_is h.0 h.1 }

abbrev pub true_need : (t : Bool) → Test t → Need (true ≡ t)
true_need t r = record { known = r.known; told = r.told; asks = r.need × r.yes; is = λ h. sym (r.yes_is h.0 h.1) }

abbrev pub false_need : (t : Bool) → Test t → Need (false ≡ t)
false_need t r = record { known = r.known; told = r.told; asks = r.need × r.no; is = λ h. sym (r.no_is h.0 h.1) }

pub agree : (s t : Bool) (r : Test s) (u : Test t) → r.need → u.need → (r.yes → u.yes) → (r.no → u.no) → s ≡ t
agree s t r u m n y f = go s refl
  where
    go : (b : Bool) → s ≡ b → b ≡ t
    go true e = sym (u.yes_is n (y (r.is_yes m e)))
    go false e = sym (u.no_is n (f (r.is_no m e)))

abbrev pub need_agree : (s t : Bool) → Test s → Test t → Need (s ≡ t)
need_agree s t r u = record { known = r.known × u.known; told = (r.told, u.told); asks = r.need × u.need × (r.yes → u.yes) × (r.no → u.no); is = λ h. agree s t r u h.0 h.1 h.2 h.3 }

-- a division: the divisor is above 0
pub nonzero : (b : ℤ) (p n : ℕ) → pp b + n ≡ nn b + p → n < p → 0 < of_z w64 b
nonzero (pos b) p n e h = omega arith
nonzero (negsuc b) p n e h = absurd (omega arith)

abbrev pub need_div : (a b : ℤ) → Rep b → Need (SFits w64 (quot_z a (to_z w64 (of_z w64 b)))) → Need ((0 < of_z w64 b) × SFits w64 (quot_z a (to_z w64 (of_z w64 b))))
need_div a b r f = record { known = r.known × f.known; told = (r.told, f.told); asks = r.need × (r.n < r.p) × f.asks; is = λ h. (nonzero b r.p r.n (r.is h.0) h.1, f.is h.2) }

abbrev pub need_lit : (a b : ℕ) → T (leb a b) → Need (a ≤ b)
need_lit a b t = record { known = Unit {0}; told = tt; asks = Unit {0}; is = λ h. leb→le a b t }

abbrev pub need_both : (A B : Type 0) → Need A → Need B → Need (A × B)
need_both A B r s = record { known = r.known × s.known; told = (r.told, s.told); asks = r.asks × s.asks; is = λ h. (r.is h.0, s.is h.1) }

pub ruleset whole = (tests, need_fits, need_same, need_cast, need_nat_fits, need_nat_same, need_nat_le, need_le, need_lt, need_true, need_false, true_need, false_need, need_agree, need_div, need_lit, need_both)

-- ---- what is known: `told h (search known depth 20) (omega facts)` goes into a call's list
pub record Fact (P : Type 0) : Type 1 where
  pub known : Type 0
  pub told : known
  pub need : Type 0
  pub says : Type 0
  pub is : need → P → says

pub told : {P : Type 0} → P → (f : Fact P) → (f.known → f.need) → f.says × f.known
told h f n = (f.is (n f.told) h, f.told)

abbrev pub fact_yes : (t : Bool) → Test t → Fact (t ≡ true)
fact_yes t r = record { known = r.known; told = r.told; need = r.need; says = r.yes; is = r.is_yes }

abbrev pub fact_no : (t : Bool) → Test t → Fact (t ≡ false)
fact_no t r = record { known = r.known; told = r.told; need = r.need; says = r.no; is = r.is_no }

pub same-says : (a b : ℤ) (p n q m : ℕ) → pp a + n ≡ nn a + p → pp b + m ≡ nn b + q → a ≡ b → p + m ≡ q + n
same-says a b p n q m h i e = omega (arith, ap pp e, ap nn e)

abbrev pub fact_same : (a b : ℤ) → Rep a → Rep b → Fact (a ≡ b)
fact_same a b r s = record { known = r.known × s.known; told = (r.told, s.told); need = r.need × s.need; says = r.p + s.n ≡ s.p + r.n; is = λ h. same-says a b r.p r.n s.p s.n (r.is h.0) (s.is h.1) }

pub nat-says : (a b v w : ℕ) → a ≡ v → b ≡ w → a ≡ b → v ≡ w
nat-says a b v w h i e = sym h ∙ e ∙ i

abbrev pub fact_nat : (a b : ℕ) → Num a → Num b → Fact (a ≡ b)
fact_nat a b r s = record { known = r.known × s.known; told = (r.told, s.told); need = r.need × s.need; says = r.v ≡ s.v; is = λ h. nat-says a b r.v s.v (r.is h.0) (s.is h.1) }

-- `==` and `!=` compare bits
pub bits_say : (z : ℤ) (k : ℕ) → SFits w64 z → k < 2 ^ 63 → of_z w64 z ≡ k → (pp z ≡ k) × (nn z ≡ 0)
bits_say (pos a) k f h e = (e, refl)
bits_say (negsuc a) k f h e = absurd (omega arith)

abbrev pub fact_bits : (z : ℤ) (k : ℕ) → SFits w64 z → T (ltb k (2 ^ 63)) → Fact (of_z w64 z ≡ k)
fact_bits z k f t = record { known = Word z; told = word z f; need = k < 2 ^ 63; says = (pp z ≡ k) × (nn z ≡ 0); is = bits_say z k f }

-- a literal below 0 has its bits from 2 ^ 63 on
pub bits_say_neg : (z : ℤ) (k : ℕ) → SFits w64 z → (2 ^ 63 ≤ k) × (k < 2 ^ 64) → of_z w64 z ≡ k → (pp z ≡ 0) × (nn z ≡ 2 ^ 64 - k)
bits_say_neg (pos a) k f h e = absurd (omega arith)
bits_say_neg (negsuc a) k f h e = omega arith

abbrev pub fact_bits_neg : (z : ℤ) (k : ℕ) → SFits w64 z → T (leb (2 ^ 63) k) → Fact (of_z w64 z ≡ k)
fact_bits_neg z k f t = record { known = Word z; told = word z f; need = (2 ^ 63 ≤ k) × (k < 2 ^ 64); says = (pp z ≡ 0) × (nn z ≡ 2 ^ 64 - k); is = bits_say_neg z k f }

pub bits_deny : (z : ℤ) (k : ℕ) → (of_z w64 z ≡ k → ⊥) → pp z ≢ k + nn z
bits_deny (pos a) k f e = f (omega arith)
bits_deny (negsuc a) k f e = omega arith

pub bits_deny_neg : (z : ℤ) (k : ℕ) → k < 2 ^ 64 → (of_z w64 z ≡ k → ⊥) → pp z + (2 ^ 64 - k) ≢ nn z
bits_deny_neg (pos a) k h f e = omega arith
bits_deny_neg (negsuc a) k h f e = f (omega arith)

-- the number stands under a binder here, where `search` takes no field: so nothing is asked of it
abbrev pub fact_not_bits : (z : ℤ) (k : ℕ) → T (ltb k (2 ^ 63)) → Fact (of_z w64 z ≡ k → ⊥)
fact_not_bits z k t = record { known = nat_abs z ≡ pp z + nn z; told = abs_is z; need = Unit {0}; says = pp z ≢ k + nn z; is = λ h. bits_deny z k }

abbrev pub fact_not_bits_neg : (z : ℤ) (k : ℕ) → T (leb (2 ^ 63) k) → Fact (of_z w64 z ≡ k → ⊥)
fact_not_bits_neg z k t = record { known = nat_abs z ≡ pp z + nn z; told = abs_is z; need = k < 2 ^ 64; says = pp z + (2 ^ 64 - k) ≢ nn z; is = λ h. bits_deny_neg z k h }

pub of_z-same : (a b : ℤ) → SFits w64 a → SFits w64 b → of_z w64 a ≡ of_z w64 b → a ≡ b
of_z-same a b f g e = sym (to_z-of_z w64 a f) ∙ ap (to_z w64) e ∙ to_z-of_z w64 b g

pub bits_same : (a b : ℤ) → SFits w64 a → SFits w64 b → of_z w64 a ≡ of_z w64 b → pp a + nn b ≡ pp b + nn a
bits_same a b f g e = let h = of_z-same a b f g e in omega (arith, ap pp h, ap nn h)

abbrev pub fact_bits_same : (a b : ℤ) → SFits w64 a → SFits w64 b → Fact (of_z w64 a ≡ of_z w64 b)
fact_bits_same a b f g = record { known = Word a × Word b; told = (word a f, word b g); need = Unit {0}; says = pp a + nn b ≡ pp b + nn a; is = λ h. bits_same a b f g }

abbrev pub fact_bits_differ : (a b : ℤ) → Fact (of_z w64 a ≡ of_z w64 b → ⊥)
fact_bits_differ a b = record { known = Unit {0}; told = tt; need = Unit {0}; says = pp a + nn b ≢ pp b + nn a; is = λ h k e. k (ap (of_z w64) (pn_inj a b e)) }

pub ruleset known = (fact_bits, fact_bits_neg, fact_not_bits, fact_not_bits_neg, fact_bits_same, fact_bits_differ, tests, fact_yes, fact_no, fact_same, fact_nat)

pub ruleset facts = (arith, word_back, le-zero, le-pos, le-negsuc, le_is, lt-is)

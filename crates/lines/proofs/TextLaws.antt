-- Laws of words and of runs of digits, at a position of a list. Assumes nothing.
use mathlib.Core.Path.{◌≡◌, refl, sym, ◌∙◌, ap}
use mathlib.Core.Bool.{Bool, true, false, true≢false, cond, ◌&&◌}
use mathlib.Core.List.{List, [], ◌∷◌}
use Prim.Native.Nat.{ℕ, suc, ◌+◌, ◌*◌, ◌-◌, ◌≤◌, ◌<◌, min}
use native.Mathlib.Numerals.{add-one}
use native.Mathlib.Omega.{arith}
use borrow.Author.Tests.{lt-ltb, le-ltb, eq-eqb, ne_eqb, eqb-true, ltb-true, ltb-false}
use lib.Dec.{ltb, eqb}
use lib.IntN.{pos, neg_ℤ}
use lib.ListN.{length, take, drop, get_or, drop_of_length-le, length-take, length-drop, get_or-eq_default}
use lib.Seq.{drop-cons, take_all}
use native.Mathlib.Nat.{add-zero}
use Rattle.std.proofs.Common.{None, ◌⊎◌, inl, inr}
use Rattle.std.specs.List.{starts_with as prefix}
use Rattle.lines.specs.InsideLines.{capped, digits_at}
use Rattle.lines.specs.Text.{starts_with, word_at, leading_digits, nat_from, numeral, minus_of, plain_of, number_at}
use Rattle.lines.specs.declared.LeadingDigits.{LeadingDigits}

-- ---- words
-- the library's test of a prefix is that of the definition
starts_one : (w b : ℕ) (x y : Bool) (t : Bool) → eqb w b ≡ t → x ≡ y → (t && x) ≡ cond (eqb b w) y false
starts_one w b x y true e h = rw (eq-eqb b w (sym (eqb-true w b e))) h
starts_one w b x y false e h = rw (ne_eqb b w (λ q. true≢false (sym (eq-eqb w b (sym q)) ∙ e))) refl

starts_same : (w s : List ℕ) → prefix eqb s w ≡ starts_with w s
starts_same [] s = refl
starts_same (w ∷ ws) [] = refl
starts_same (w ∷ ws) (b ∷ bs) = starts_one w b _ (starts_with ws bs) (eqb w b) refl (starts_same ws bs)

drop_least : (text : List ℕ) (at : ℕ) (t : Bool) → ltb (length text) at ≡ t → drop (min at (length text)) text ≡ drop at text
drop_least text at true e =
    let h = ltb-true (length text) at e in
    rw (drop_of_length-le text {i = at} (omega arith), drop_of_length-le text {i = min at (length text)} (omega arith)) refl
drop_least text at false e =
    let h = ltb-false (length text) at e in
    let m : min at (length text) ≡ at = omega arith in rw m refl

part-all : (text : List ℕ) (at : ℕ) → take (length text - at) (drop at text) ≡ drop at text
part-all text at = take_all (length text - at) (drop at text) (omega (arith, length-drop at text))

pub word_there : (text : List ℕ) (at k : ℕ) (w : List ℕ) → k ≡ min at (length text) → prefix eqb (take (length text - k) (drop k text)) w ≡ word_at text at w
word_there text at k w e =
    ap (λ (s : List ℕ). prefix eqb s w) (part-all text k ∙ ap (λ (n : ℕ). drop n text) e ∙ drop_least text at (ltb (length text) at) refl) ∙ starts_same w (drop at text)

-- the contract's Bool is exact: it is true where the bytes are the word, and only there
starts_by : (w b : ℕ) (ws bs : List ℕ) (t : Bool) → eqb b w ≡ t → (starts_with ws bs ≡ true → take (length ws) bs ≡ ws) → cond t (starts_with ws bs) false ≡ true → b ∷ take (length ws) bs ≡ w ∷ ws
starts_by w b ws bs true p k h = λ i. eqb-true b w p i ∷ k h i
starts_by w b ws bs false p k h = absurd (true≢false (sym h))

pub starts_is : (w s : List ℕ) → starts_with w s ≡ true → take (length w) s ≡ w
starts_is [] s e = refl
starts_is (w ∷ ws) [] e = absurd (true≢false (sym e))
starts_is (w ∷ ws) (b ∷ bs) e = starts_by w b ws bs (eqb b w) refl (starts_is ws bs) e

nil_cons : (w : ℕ) (ws : List ℕ) → [] ≡ w ∷ ws → ⊥
nil_cons w ws e = let z : ◌≡◌ {A = ℕ} 0 1 = cc in omega arith

pub is_starts : (w s : List ℕ) → take (length w) s ≡ w → starts_with w s ≡ true
is_starts [] s e = refl
is_starts (w ∷ ws) [] e = absurd (nil_cons w ws e)
is_starts (w ∷ ws) (b ∷ bs) e =
    let p : b ≡ w = (cc) in
    let q : take (length ws) bs ≡ ws = (cc) in
    rw (eq-eqb b w p) (is_starts ws bs q)

pub word_fits : (text : List ℕ) (at : ℕ) (w : List ℕ) → word_at text at w ≡ true → length w ≤ length text - at
word_fits text at w e = omega (arith, simp (length-take, length-drop) at (ap length (starts_is w (drop at text) e)))

-- ---- runs of digits
pub leading_end : (text : List ℕ) (i : ℕ) → length text ≤ i → leading_digits (drop i text) ≡ []
leading_end text i h = rw (drop_of_length-le text h)

pub leading_other : (text : List ℕ) (i : ℕ) → i < length text → (get_or text i 0 < 48) ⊎ (57 < get_or text i 0) → leading_digits (drop i text) ≡ []
leading_other text i p (inl h) = rw (drop-cons text i 0 p, lt-ltb (get_or text i 0) 48 h)
leading_other text i p (inr h) = rw (drop-cons text i 0 p, le-ltb (get_or text i 0) 48 (omega arith), lt-ltb 57 (get_or text i 0) h)

pub leading_more : (text : List ℕ) (i : ℕ) → i < length text → 48 ≤ get_or text i 0 → get_or text i 0 ≤ 57 → leading_digits (drop i text) ≡ get_or text i 0 ∷ leading_digits (drop (i + 1) text)
leading_more text i p l h = rw (add-one i, drop-cons text i 0 p, le-ltb (get_or text i 0) 48 l, le-ltb 57 (get_or text i 0) h)

pub data Capped (v : ℕ) : Type 0 where
  under : capped v ≡ v → v ≤ 9223372036854775809 → Capped v
  over : capped v ≡ 9223372036854775809 → 9223372036854775809 < v → Capped v

cap_by : (v : ℕ) (t : Bool) → ltb 9223372036854775809 v ≡ t → Capped v
cap_by v true e = over (rw e) (ltb-true 9223372036854775809 v e)
cap_by v false e = under (rw e) (ltb-false 9223372036854775809 v e)

pub cap : (v : ℕ) → Capped v
cap v = cap_by v (ltb 9223372036854775809 v) refl

-- what a loop has seen of the digits from `at`, once it stands at i: v is their value so far
pub record Seen (text : List ℕ) (at i value : ℕ) : Type 0 where
  pub v : ℕ
  pub ends : at + length (leading_digits (drop at text)) ≡ i + length (leading_digits (drop i text))
  pub reads : nat_from 0 (leading_digits (drop at text)) ≡ nat_from v (leading_digits (drop i text))
  pub caps : value ≡ capped v

pub seen_done : (text : List ℕ) (at i value : ℕ) → leading_digits (drop i text) ≡ [] → Seen text at i value → ◌≡◌ {A = LeadingDigits} (record { end = i; value = value }) (digits_at text at)
unfolding digits_at
seen_done text at i value e s = λ j. record { end = ends_at j; value = value_is j }
  where
    ends_at : i ≡ at + length (leading_digits (drop at text))
    ends_at = omega (arith, s.ends, ap length e)

    value_is : value ≡ capped (nat_from 0 (leading_digits (drop at text)))
    value_is = s.caps ∙ ap capped (sym (s.reads ∙ ap (nat_from s.v) e))

module _ (text : List ℕ) (at i value : ℕ) (within : i < length text) (low : 48 ≤ get_or text i 0) (high : get_or text i 0 ≤ 57) (s : Seen text at i value) where
  ends_on : at + length (leading_digits (drop at text)) ≡ i + 1 + length (leading_digits (drop (i + 1) text))
  ends_on = omega (arith, s.ends, ap length (leading_more text i within low high))

  reads_on : nat_from 0 (leading_digits (drop at text)) ≡ nat_from (s.v * 10 + (get_or text i 0 - 48)) (leading_digits (drop (i + 1) text))
  reads_on = s.reads ∙ ap (nat_from s.v) (leading_more text i within low high)

  small : value ≤ 922337203685477580 → Capped s.v → s.v ≡ value
  small h (under e l) = omega (arith, s.caps, e)
  small h (over e l) = omega (arith, s.caps, e)

  large : 922337203685477580 < value → Capped s.v → 922337203685477580 < s.v
  large h (under e l) = omega (arith, s.caps, e)
  large h (over e l) = omega arith

  at_cap : (w : ℕ) → w ≤ 9223372036854775809 → Capped w → w ≡ capped w
  at_cap w h (under e l) = sym e
  at_cap w h (over e l) = omega arith

  past-cap : (w : ℕ) → 9223372036854775809 ≤ w → Capped w → 9223372036854775809 ≡ capped w
  past-cap w h (under e l) = omega (arith, e)
  past-cap w h (over e l) = sym e

  pub seen_more : value ≤ 922337203685477580 → Seen text at (i + 1) (value * 10 + (get_or text i 0 - 48))
  seen_more h = record {
    v = s.v * 10 + (get_or text i 0 - 48);
    ends = ends_on;
    reads = reads_on;
    caps = ap (λ (n : ℕ). n * 10 + (get_or text i 0 - 48)) (sym (small h (cap s.v))) ∙ at_cap _ (omega (arith, small h (cap s.v))) (cap _);
  }

  pub seen-large : 922337203685477580 < value → Seen text at (i + 1) 9223372036854775809
  seen-large h = record {
    v = s.v * 10 + (get_or text i 0 - 48);
    ends = ends_on;
    reads = reads_on;
    caps = past-cap (s.v * 10 + (get_or text i 0 - 48)) (omega (arith, large h (cap s.v))) (cap _);
  }

-- ---- numbers
minus_cap : (lead from end v : ℕ) → Capped v → minus_of lead from end (capped v) ≡ minus_of lead from end v
minus_cap lead from end v (under e l) = ap (minus_of lead from end) e
minus_cap lead from end v (over e l) = ap (minus_of lead from end) e ∙ ap (λ (t : Bool). cond (eqb end from) None (cond (eqb lead 48) None (cond t None (numeral (neg_ℤ (pos v)) end)))) (sym (lt-ltb 9223372036854775808 v (omega arith)))

plain_cap : (lead from end v : ℕ) → Capped v → plain_of lead from end (capped v) ≡ plain_of lead from end v
plain_cap lead from end v (under e l) = ap (plain_of lead from end) e
plain_cap lead from end v (over e l) =
    ap (plain_of lead from end) e ∙
    ap (λ (t : Bool). cond (eqb end from) None (cond (eqb lead 48) (cond (eqb end (from + 1)) (numeral (pos 0) end) None) (cond t None (numeral (pos v) end)))) (sym (lt-ltb 9223372036854775807 v (omega arith)))

pub numeral_none : (text : List ℕ) (at : ℕ) → length text ≤ at → None ≡ number_at text at
unfolding number_at
numeral_none text at h = rw (get_or-eq_default text 0 h, drop_of_length-le text h, add-zero at, eq-eqb at at refl)

pub numeral_minus : (text : List ℕ) (at lead : ℕ) (d : LeadingDigits) → get_or text at 0 ≡ 45 → lead ≡ get_or text (at + 1) 0 → d ≡ digits_at text (at + 1) → minus_of lead (at + 1) d.end d.value ≡ number_at text at
unfolding number_at digits_at
numeral_minus text at lead d first e r =
    ap (λ (x : LeadingDigits). minus_of lead (at + 1) x.end x.value) r ∙ minus_cap lead (at + 1) _ (nat_from 0 (leading_digits (drop (at + 1) text))) (cap _) ∙
    rw (eq-eqb (get_or text at 0) 45 first) (ap (λ (l : ℕ). minus_of l (at + 1) (at + 1 + length (leading_digits (drop (at + 1) text))) (nat_from 0 (leading_digits (drop (at + 1) text)))) e)

pub numeral_plain : (text : List ℕ) (at : ℕ) (d : LeadingDigits) → (get_or text at 0 ≡ 45 → ⊥) → d ≡ digits_at text at → plain_of (get_or text at 0) at d.end d.value ≡ number_at text at
unfolding number_at digits_at
numeral_plain text at d first r =
    ap (λ (x : LeadingDigits). plain_of (get_or text at 0) at x.end x.value) r ∙ plain_cap (get_or text at 0) at _ (nat_from 0 (leading_digits (drop at text))) (cap _) ∙
    rw (ne_eqb (get_or text at 0) 45 first)

-- ---- a run of one digit
empty_is : (l : List ℕ) → length l ≡ 0 → l ≡ []
empty_is [] e = refl
empty_is (x ∷ l) e = absurd (omega arith)

small-cap : (v : ℕ) → v < 10 → Capped v → capped v ≡ v
small-cap v h (under e l) = e
small-cap v h (over e l) = omega arith

one_by : (b : ℕ) (bs : List ℕ) (low high : Bool) → ltb 57 b ≡ high →
    length (cond low [] (cond high [] (b ∷ leading_digits bs))) ≡ 1 → capped (nat_from 0 (cond low [] (cond high [] (b ∷ leading_digits bs)))) ≡ b - 48
one_by b bs true high e k = omega arith
one_by b bs false true e k = omega arith
one_by b bs false false e k =
    ap (λ (l : List ℕ). capped (nat_from (0 + (b - 48)) l)) (empty_is (leading_digits bs) (omega arith)) ∙
    small-cap (0 + (b - 48)) (omega (arith, ltb-false 57 b e)) (cap _) ∙ omega arith

pub one_digit : (text : List ℕ) (at : ℕ) (d : LeadingDigits) → at < length text → d ≡ digits_at text at → d.end ≡ at + 1 → d.value ≡ get_or text at 0 - 48
unfolding digits_at
one_digit text at d within r e =
    let k = drop-cons text at 0 within in
    ap (λ (x : LeadingDigits). x.value) r ∙ ap (λ (s : List ℕ). capped (nat_from 0 (leading_digits s))) k ∙
    one_by (get_or text at 0) (drop (suc at) text) (ltb (get_or text at 0) 48) (ltb 57 (get_or text at 0)) refl
    (omega (arith, e, ap (λ (x : LeadingDigits). x.end) r, ap (λ (s : List ℕ). length (leading_digits s)) k))

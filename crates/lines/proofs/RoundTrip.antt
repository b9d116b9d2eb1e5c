-- Every number that the sheet prints, read by the day file's own reader, is that number; so is every line of numbers. Assumes nothing.
use mathlib.Core.Path.{◌≡◌, refl, sym, ◌∙◌, ap}
use mathlib.Core.Bool.{Bool, true, false, cond}
use mathlib.Core.List.{List, [], ◌∷◌, ◌++◌, append_assoc, append-nil}
use Prim.Native.Nat.{ℕ, zero, suc, ◌+◌, ◌-◌, ◌*◌, ◌/◌, ◌%◌, ◌^◌, ◌≤◌, ◌<◌}
use native.Mathlib.Nat.{not-suc-le-zero, add-zero}
use native.Mathlib.Omega.{arith}
use borrow.Author.Tests.{lt-ltb, le-ltb, eq-eqb, ne_eqb, ltb-true, ltb-false}
use lib.Dec.{ltb}
use lib.IntN.{ℤ, pos, negsuc, neg_ℤ}
use lib.ListN.{length, drop, get_or, length-drop, length-append}
use lib.Seq.{get_or-drop, drop-drop, get_or-append_seam, drop-append_seam}
use mir.Syntax.{w64}
use mir.Val.{SFits}
use Rattle.lines.specs.Lines.{field_at, closed_field, close_of, follow, figures_at}
use Rattle.lines.specs.Print.{digits, natural, decimal, field, numbers_line}
use Rattle.lines.specs.Text.{leading_digits, nat_from, numeral, number_at}
use Rattle.lines.specs.declared.Field.{Field}

-- ---- digits are read as digits
leading_one : (d : ℕ) (tail : List ℕ) → 48 ≤ d → d ≤ 57 → leading_digits (d ∷ tail) ≡ d ∷ leading_digits tail
leading_one d tail l h = rw (le-ltb d 48 l, le-ltb 57 d h)

leading_step : (k n : ℕ) (t : Bool) (tail : List ℕ) → ltb n 10 ≡ t → ((u : List ℕ) → leading_digits (digits k (n / 10) ++ u) ≡ digits k (n / 10) ++ leading_digits u) → leading_digits (cond t ((48 + n) ∷ []) (digits k (n / 10) ++ ((48 + n % 10) ∷ [])) ++ tail) ≡ cond t ((48 + n) ∷ []) (digits k (n / 10) ++ ((48 + n % 10) ∷ [])) ++ leading_digits tail
leading_step k n true tail e h = leading_one (48 + n) tail (omega arith) (omega (arith, ltb-true n 10 e))
leading_step k n false tail e h =
    ap leading_digits (append_assoc (digits k (n / 10)) ((48 + n % 10) ∷ []) tail) ∙ h ((48 + n % 10) ∷ tail)
    ∙ ap (λ (l : List ℕ). digits k (n / 10) ++ l) (leading_one (48 + n % 10) tail (omega arith) (omega arith)) ∙ sym (append_assoc (digits k (n / 10)) ((48 + n % 10) ∷ []) (leading_digits tail))

leading-digits : (k n : ℕ) (tail : List ℕ) → leading_digits (digits k n ++ tail) ≡ digits k n ++ leading_digits tail
unfolding digits
leading-digits zero n tail = refl
leading-digits (suc k) n tail = leading_step k n (ltb n 10) tail refl (leading-digits k (n / 10))

-- ---- and stand for the number
nat_snoc : (v d : ℕ) (l : List ℕ) → nat_from v (l ++ (d ∷ [])) ≡ nat_from v l * 10 + (d - 48)
nat_snoc v d [] = refl
nat_snoc v d (x ∷ l) = nat_snoc (v * 10 + (x - 48)) d l

nat-step : (k n : ℕ) (t : Bool) → ltb n 10 ≡ t → nat_from 0 (digits k (n / 10)) ≡ n / 10 → nat_from 0 (cond t ((48 + n) ∷ []) (digits k (n / 10) ++ ((48 + n % 10) ∷ []))) ≡ n
nat-step k n true e h = omega arith
nat-step k n false e h = nat_snoc 0 (48 + n % 10) (digits k (n / 10)) ∙ omega (arith, h)

nat-digits : (k n : ℕ) → n < 10 ^ k → nat_from 0 (digits k n) ≡ n
unfolding digits
nat-digits zero n h = omega (arith, h)
nat-digits (suc k) n h = nat-step k n (ltb n 10) refl (nat-digits k (n / 10) (omega (arith, h)))

-- ---- the first digit is 0 only of 0
lead_step : (k n : ℕ) (t : Bool) (tail : List ℕ) → ltb n 10 ≡ t → 1 ≤ n → ((u : List ℕ) → 1 ≤ n / 10 → 48 < get_or (digits k (n / 10) ++ u) 0 0) → 48 < get_or (cond t ((48 + n) ∷ []) (digits k (n / 10) ++ ((48 + n % 10) ∷ [])) ++ tail) 0 0
lead_step k n true tail e h i = omega arith
lead_step k n false tail e h i = rw (append_assoc (digits k (n / 10)) ((48 + n % 10) ∷ []) tail) (i ((48 + n % 10) ∷ tail) (omega (arith, ltb-false n 10 e)))

lead_digits : (k n : ℕ) (tail : List ℕ) → n < 10 ^ k → 1 ≤ n → 48 < get_or (digits k n ++ tail) 0 0
unfolding digits
lead_digits zero n tail l h = absurd (not-suc-le-zero (none h))
  where
    none : 1 ≤ n → 1 ≤ 0
    none h = omega (arith, l)
lead_digits (suc k) n tail l h = lead_step k n (ltb n 10) tail refl h (λ u. lead_digits k (n / 10) u (omega (arith, l)))

some-step : (k n : ℕ) (t : Bool) → 1 ≤ length (cond t ((48 + n) ∷ []) (digits k (n / 10) ++ ((48 + n % 10) ∷ [])))
some-step k n true = omega arith
some-step k n false = omega (arith, length-append (digits k (n / 10)) ((48 + n % 10) ∷ []))

some-digits : (k n : ℕ) → 1 ≤ length (digits (suc k) n)
unfolding digits
some-digits k n = some-step k n (ltb n 10)

zero-digits : (k : ℕ) → digits (suc k) 0 ≡ 48 ∷ []
unfolding digits
zero-digits k = refl

-- ---- a number without its sign, at a place of a text
module _ (text : List ℕ) (at n close : ℕ) (post : List ℕ) (low : close < 48) (small : n < 10 ^ 20) (there : drop at text ≡ natural n ++ (close ∷ post)) where
  leading_there : leading_digits (drop at text) ≡ natural n
  leading_there = ap leading_digits there ∙ leading-digits 20 n (close ∷ post) ∙ ap (λ (l : List ℕ). natural n ++ l) none ∙ append-nil (natural n)
    where
      none : leading_digits (close ∷ post) ≡ []
      none = rw (lt-ltb close 48 low)

  value_there : nat_from 0 (leading_digits (drop at text)) ≡ n
  value_there = ap (nat_from 0) leading_there ∙ nat-digits 20 n small

  close_there : get_or text (at + length (natural n)) 0 ≡ close
  close_there = sym (get_or-drop at text (length (natural n)) 0) ∙ ap (λ (l : List ℕ). get_or l (length (natural n)) 0) there ∙ get_or-append_seam (natural n) close post 0

  inside : at + length (natural n) < length text
  inside = omega (arith, length-drop at text, ap length there, length-append (natural n) (close ∷ post))

  lead_there : get_or text at 0 ≡ get_or (natural n ++ (close ∷ post)) 0 0
  lead_there = ap (λ (k : ℕ). get_or text k 0) (sym (add-zero at)) ∙ sym (get_or-drop at text 0 0) ∙ ap (λ (l : List ℕ). get_or l 0 0) there

  close-good : (v : ℤ) → closed_field text close (numeral v (at + length (natural n))) ≡ record { value = v; next = at + length (natural n) + 1 }
  close-good v = rw (lt-ltb (at + length (natural n)) (length text) inside, eq-eqb (get_or text (at + length (natural n)) 0) close close_there)

  lead_some : 1 ≤ n → 48 < get_or text at 0
  lead_some h = rw lead_there (lead_digits 20 n (close ∷ post) small h)

  pub plain_some : 1 ≤ n → n < 2 ^ 63 → number_at text at ≡ numeral (pos n) (at + length (natural n))
  unfolding number_at
  plain_some h m =
      rw
      (ne_eqb (get_or text at 0) 45 (λ e. apart e), leading_there, nat-digits 20 n small, ne_eqb (at + length (natural n)) at (λ e. longer e), ne_eqb (get_or text at 0) 48 (λ e. above e), le-ltb 9223372036854775807 n (omega arith))
    where
      apart : get_or text at 0 ≡ 45 → ⊥
      apart e = omega (arith, lead_some h)

      above : get_or text at 0 ≡ 48 → ⊥
      above e = omega (arith, lead_some h)

      longer : at + length (natural n) ≡ at → ⊥
      longer e = omega (arith, some-digits 19 n)

  -- behind a minus
  pub minus_some : (from : ℕ) → from + 1 ≡ at → get_or text from 0 ≡ 45 → 1 ≤ n → n ≤ 2 ^ 63 → number_at text from ≡ numeral (neg_ℤ (pos n)) (at + length (natural n))
  unfolding number_at
  minus_some from e s h m =
      rw
      (eq-eqb (get_or text from 0) 45 s, e, leading_there, nat-digits 20 n small, ne_eqb (at + length (natural n)) at (λ q. longer q), ne_eqb (get_or text at 0) 48 (λ q. above q), le-ltb 9223372036854775808 n (omega arith))
    where
      above : get_or text at 0 ≡ 48 → ⊥
      above e = omega (arith, lead_some h)

      longer : at + length (natural n) ≡ at → ⊥
      longer e = omega (arith, some-digits 19 n)

plain_zero : (text : List ℕ) (at close : ℕ) (post : List ℕ) → close < 48 → drop at text ≡ 48 ∷ close ∷ post → number_at text at ≡ numeral (pos 0) (at + 1)
unfolding number_at
plain_zero text at close post low there =
    rw (lead_is, leading_is, ne_eqb (at + 1) at (λ e. longer e), eq-eqb (at + 1) (at + 1) refl)
  where
    leading_is : leading_digits (drop at text) ≡ 48 ∷ []
    leading_is = ap leading_digits there ∙ rw (lt-ltb close 48 low)

    lead_is : get_or text at 0 ≡ 48
    lead_is = ap (λ (k : ℕ). get_or text k 0) (sym (add-zero at)) ∙ sym (get_or-drop at text 0 0) ∙ ap (λ (l : List ℕ). get_or l 0 0) there

    longer : at + 1 ≡ at → ⊥
    longer e = omega arith

plain_back : (text : List ℕ) (at n close : ℕ) (post : List ℕ) → close < 48 → n < 2 ^ 63 → drop at text ≡ natural n ++ (close ∷ post) → number_at text at ≡ numeral (pos n) (at + length (natural n))
plain_back text at zero close post low small there =
    plain_zero text at close post low (there ∙ ap (λ (l : List ℕ). l ++ (close ∷ post)) (zero-digits 19)) ∙ ap (λ (l : List ℕ). numeral (pos 0) (at + length l)) (sym (zero-digits 19))
plain_back text at (suc n) close post low small there = plain_some text at (suc n) close post low (omega arith) there (omega arith) small

-- a printed number, read at its place
pub field_back : (text : List ℕ) (at : ℕ) (x : ℤ) (close : ℕ) (post : List ℕ) → close < 48 → SFits w64 x → drop at text ≡ field x close ++ post → field_at text at close ≡ record { value = x; next = at + length (field x close) }
unfolding field_at decimal
field_back text at (pos n) close post low fits there =
    let t = there ∙ append_assoc (natural n) (close ∷ []) post in
    let small : n < 2 ^ 63 = fits.sfits in
    ap (closed_field text close) (plain_back text at n close post low small t) ∙ close-good text at n close post low (omega arith) t (pos n)
    ∙ (λ i. record { value = pos n; next = longer i })
  where
    longer : at + length (natural n) + 1 ≡ at + length (natural n ++ (close ∷ []))
    longer = omega (arith, length-append (natural n) (close ∷ []))
field_back text at (negsuc n) close post low fits there =
    let t : drop (at + 1) text ≡ natural (suc n) ++ (close ∷ post) = sym (drop-drop 1 at text) ∙ ap (drop 1) there ∙ append_assoc (natural (suc n)) (close ∷ []) post in
    let small : n < 2 ^ 63 = fits.sfits in
    let sign : get_or text at 0 ≡ 45 = ap (λ (k : ℕ). get_or text k 0) (sym (add-zero at)) ∙ sym (get_or-drop at text 0 0) ∙ ap (λ (l : List ℕ). get_or l 0 0) there in
    ap (closed_field text close) (minus_some text (at + 1) (suc n) close post low (omega arith) t at refl sign (omega arith) (omega arith))
    ∙ close-good text (at + 1) (suc n) close post low (omega arith) t (negsuc n) ∙ (λ i. record { value = negsuc n; next = longer i })
  where
    longer : at + 1 + length (natural (suc n)) + 1 ≡ at + length (45 ∷ (natural (suc n) ++ (close ∷ [])))
    longer = omega (arith, length-append (natural (suc n)) (close ∷ []))

-- a printed line, read at its place: its numbers, and the place of the next line
pub data AllFit : List ℤ → Type 0 where
  none : AllFit []
  more : {z : ℤ} {zs : List ℤ} → SFits w64 z → AllFit zs → AllFit (z ∷ zs)

close-low : (k : ℕ) → close_of k < 48
close-low zero = omega arith
close-low (suc k) = omega arith

pub line_back : (text : List ℕ) (at : ℕ) (zs : List ℤ) (post : List ℕ) → AllFit zs → drop at text ≡ numbers_line zs ++ post → figures_at text at (length zs) ≡ record { values = zs; next = at + length (numbers_line zs) }
unfolding figures_at numbers_line
line_back text at [] post fits there = let e : at ≡ at + 0 = omega arith in (λ i. record { values = []; next = e i })
line_back text at (z ∷ zs) post (more f fs) there =
    let close = close_of (length zs) in
    let t = there ∙ append_assoc (field z close) (numbers_line zs) post in
    let e = field_back text at z close (numbers_line zs ++ post) (close-low (length zs)) f t in
    let d : drop (at + length (field z close)) text ≡ numbers_line zs ++ post = sym (drop-drop (length (field z close)) at text) ∙ ap (drop (length (field z close))) t ∙ drop-append_seam (field z close) (numbers_line zs ++ post) in
    ap (λ (g : Field). follow g.value (figures_at text g.next (length zs))) e ∙ ap (follow z) (line_back text (at + length (field z close)) zs post fs d)
    ∙ (λ i. record { values = z ∷ zs; next = longer i })
  where
    longer : at + length (field z (close_of (length zs))) + length (numbers_line zs) ≡ at + length (field z (close_of (length zs)) ++ numbers_line zs)
    longer = omega (arith, length-append (field z (close_of (length zs))) (numbers_line zs))

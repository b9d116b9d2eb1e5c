-- Two windows judged: the larger rate by one root, and the answer of the call by what they come to. Assumes nothing.
use Rattle.std.specs.Prelude.{◌≡◌, refl, Result, Ok, Err, Bool, true, false, ◌&&◌, List, ℕ, ◌*◌, ◌-◌, ◌≤◌, ◌<◌, max, leb, ltb, eqb, ℤ, pos, nat_abs}
use Rattle.std.proofs.Common.{sym, ◌∙◌, ⊎_elim, arith, leb-true, leb-false, le-leb, ltb-true, ltb-false, ne_eqb}
use Rattle.std.proofs.Math.Path.{ap}
use Rattle.std.proofs.Math.Bool.{cond}
use Rattle.std.proofs.Math.Nat.{le-max_left, le-max_right, max-le}
use Rattle.std.proofs.Math.ListN.{length}
use Rattle.std.specs.Borrow.{Bor}
use Rattle.std.proofs.lemmas.Bool.{lt-leb}
use Rattle.whole.specs.Tests.{both, clash, none, true_or_false}
use Rattle.rates.specs.MarginRate.{length_ok, figures_ok, refusal, window_rate, governs, Part, part_of, empty_of, rated, rated_in_c}
use Rattle.rates.specs.SumsLaws.{Accepted, accepted}
use Rattle.rates.specs.RateLaws.{square_of, square_of-some, root_some, rate_at-most, rate_most, rate_above}
use Rattle.rates.specs.declared.Judged.{Judged}
use Rattle.rules.specs.Refusal.{number_of}
use Rattle.rules.specs.declared.refusal.Refusal.{Refusal}

max-left : (a b : ℕ) → b ≤ a → max a b ≡ a
max-left a b h = omega arith

max_right : (a b : ℕ) → a < b → max a b ≡ b
max_right a b h = omega arith

-- ---- one root for both: that of the larger least square; and whether one less would do for the first window

module _ (first second : List ℤ) (a : Accepted first) (b : Accepted second) (r : ℕ) (some : 1 ≤ r) (most : r ≤ 6591)
    (covers : max (square_of first) (square_of second) ≤ r * r) (least : (r - 1) * (r - 1) < max (square_of first) (square_of second)) where
  first-most : window_rate first ≤ r
  first-most = rate_at-most first a r some (omega arith) (omega (arith, le-max_left (square_of first) (square_of second)))

  second-most : window_rate second ≤ r
  second-most = rate_at-most second b r some (omega arith) (omega (arith, le-max_right (square_of first) (square_of second)))

  -- the first has the rate r where one less is not enough for it, and governs
  first-is : (r - 1) * (r - 1) < square_of first → window_rate first ≡ r
  first-is h = omega (arith, first-most, rate_above first a (r - 1) h)

  first-governs : (r - 1) * (r - 1) < square_of first → leb (window_rate second) (window_rate first) ≡ true
  first-governs h = le-leb (window_rate second) (window_rate first) (omega (arith, second-most, first-is h))

  -- else the second has it, and the first a smaller one
  second_is : square_of first ≤ (r - 1) * (r - 1) → window_rate second ≡ r
  second_is h = omega (arith, second-most, rate_above second b (r - 1) (omega arith))

  first-less : square_of first ≤ (r - 1) * (r - 1) → window_rate first ≤ r - 1
  first-less h = rate_at-most first a (r - 1) (root_some (r - 1) (omega (arith, square_of-some first))) (omega arith) h

  second-governs : square_of first ≤ (r - 1) * (r - 1) → leb (window_rate second) (window_rate first) ≡ false
  second-governs h = lt-leb (window_rate second) (window_rate first) (omega (arith, second_is h, first-less h))

  pub larger-is : max (window_rate first) (window_rate second) ≡ r
  larger-is =
      ⊎_elim
      (λ e. omega (arith, first-is (ltb-true _ _ e), second-most))
      (λ e. omega (arith, second_is (ltb-false _ _ e), first-most))
      (true_or_false (ltb ((r - 1) * (r - 1)) (square_of first)))

  pub governs-is : leb (window_rate second) (window_rate first) ≡ ltb ((r - 1) * (r - 1)) (square_of first)
  governs-is =
      ⊎_elim
      (λ e. first-governs (ltb-true _ _ e) ∙ sym e)
      (λ e. second-governs (ltb-false _ _ e) ∙ sym e)
      (true_or_false (ltb ((r - 1) * (r - 1)) (square_of first)))

-- ---- what two windows come to, as the call answers it: the number, the rate and the part handed back

abbrev pub answer : Result Judged Refusal → Bor (List ℤ) → ℕ × ℤ × Part
answer (Ok judged) weeks8 = (0, judged.rate, part_of judged.figures)
answer (Err refusal) weeks8 = (number_of refusal, pos 0, empty_of weeks8)

-- ---- the refusals, in their order: 2 for a list too short or too long, whichever it is; then 8 for a figure out of range; else the larger rate

module _ (weeks8 weeks104 : Bor (List ℤ)) where
  pub short-first : length_ok weeks8.now ≡ false → rated weeks8 weeks104 ≡ (2, pos 0, empty_of weeks8)
  unfolding rated refusal
  short-first h = rw h

  pub short-second : length_ok weeks104.now ≡ false → rated weeks8 weeks104 ≡ (2, pos 0, empty_of weeks8)
  unfolding rated refusal
  short-second h = rw (none (length_ok weeks8.now) (length_ok weeks104.now) h)

  pub out_first : length_ok weeks8.now ≡ true → length_ok weeks104.now ≡ true → figures_ok weeks8.now ≡ false
      → rated weeks8 weeks104 ≡ (8, pos 0, empty_of weeks8)
  unfolding rated refusal
  out_first h i j = rw (h, i, j)

  pub out_second : length_ok weeks8.now ≡ true → length_ok weeks104.now ≡ true → figures_ok weeks104.now ≡ false
      → rated weeks8 weeks104 ≡ (8, pos 0, empty_of weeks8)
  unfolding rated refusal
  out_second h i j = rw (h, i, none (figures_ok weeks8.now) (figures_ok weeks104.now) j)

  pub taken : length_ok weeks8.now ≡ true → length_ok weeks104.now ≡ true → figures_ok weeks8.now ≡ true → figures_ok weeks104.now ≡ true
      → rated weeks8 weeks104 ≡ (0, pos (window_rate (governs weeks8 weeks104).now), part_of (governs weeks8 weeks104))
  unfolding rated refusal
  taken h i j k = rw (h, i, j, k)

-- ---- the answer of the call by what the windows come to

module _ (weeks8 weeks104 : Bor (List ℤ)) where
  pub rated-taken : eqb (refusal weeks8.now weeks104.now) 0 ≡ true
      → rated weeks8 weeks104 ≡ (0, pos (window_rate (governs weeks8 weeks104).now), part_of (governs weeks8 weeks104))
  unfolding rated
  rated-taken e = rw e

  pub rated-not : eqb (refusal weeks8.now weeks104.now) 0 ≡ false → rated weeks8 weeks104 ≡ (refusal weeks8.now weeks104.now, pos 0, empty_of weeks8)
  unfolding rated
  rated-not e = rw e

  pub governs-eight : leb (window_rate weeks104.now) (window_rate weeks8.now) ≡ true → governs weeks8 weeks104 ≡ weeks8
  unfolding governs
  governs-eight e = rw e

  pub governs-other : leb (window_rate weeks104.now) (window_rate weeks8.now) ≡ false → governs weeks8 weeks104 ≡ weeks104
  unfolding governs
  governs-other e = rw e

  -- the rate of the window that governs is the larger
  pub larger_rate : window_rate (governs weeks8 weeks104).now ≡ max (window_rate weeks8.now) (window_rate weeks104.now)
  larger_rate =
      ⊎_elim
      (λ e. ap (λ z. window_rate z.now) (governs-eight e) ∙ sym (max-left _ _ (leb-true _ _ e)))
      (λ e. ap (λ z. window_rate z.now) (governs-other e) ∙ sym (max_right _ _ (leb-false _ _ e)))
      (true_or_false (leb (window_rate weeks104.now) (window_rate weeks8.now)))

-- ---- the answer for C, of a list p that is handed back with the number n and the figure f

passed : (s t : Bool) → eqb (cond s (cond t 0 8) 2) 0 ≡ true → (s ≡ true) × (t ≡ true)
passed true true e = (refl, refl)
passed true false e = (refl, e)
passed false t e = clash e refl

pub unrefused : (weeks8 weeks104 : List ℤ) → eqb (refusal weeks8 weeks104) 0 ≡ true → Accepted weeks8 × Accepted weeks104
unfolding refusal
unrefused weeks8 weeks104 e =
    let t = passed (length_ok weeks8 && length_ok weeks104) (figures_ok weeks8 && figures_ok weeks104) e in
    let l = both (length_ok weeks8) (length_ok weeks104) t.0 in
    let f = both (figures_ok weeks8) (figures_ok weeks104) t.1 in
    (accepted weeks8 l.0 f.0, accepted weeks104 l.1 f.1)

module _ (weeks8 weeks104 : Bor (List ℤ)) (n : ℕ) (f : ℤ) (p : Bor (List ℤ)) (is : (n, f, part_of p) ≡ rated weeks8 weeks104) where
  -- the figure is a small number, so a word has it
  pub figure_most : nat_abs f ≤ 6591
  figure_most =
      ⊎_elim
      (λ e. let a = unrefused weeks8.now weeks104.now e in
      rw (ap (λ o. o.1) (is ∙ rated-taken weeks8 weeks104 e), larger_rate weeks8 weeks104) (max-le (rate_most weeks8.now a.0) (rate_most weeks104.now a.1)))
      (λ e. rw (ap (λ o. o.1) (is ∙ rated-not weeks8 weeks104 e)) (omega arith))
      (true_or_false (eqb (refusal weeks8.now weeks104.now) 0))

  -- a part with a figure in it is that of a call that is not refused, whose windows have figures
  governs-some : eqb (refusal weeks8.now weeks104.now) 0 ≡ true → 2 ≤ length p.now
  governs-some e =
      let q : p.now ≡ (governs weeks8 weeks104).now = ap (λ o. o.2.1) (is ∙ rated-taken weeks8 weeks104 e) in
      let a = unrefused weeks8.now weeks104.now e in
      ⊎_elim
      (λ l. rw (q, governs-eight weeks8 weeks104 l) a.0.two)
      (λ l. rw (q, governs-other weeks8 weeks104 l) a.1.two)
      (true_or_false (leb (window_rate weeks104.now) (window_rate weeks8.now)))

  pub eight-some : 0 < length p.now → eqb (length weeks8.now) 0 ≡ false
  eight-some h =
      ⊎_elim
      (λ e. ne_eqb (length weeks8.now) 0 (λ z. omega (arith, (unrefused weeks8.now weeks104.now e).0.two)))
      (λ e. let z : length p.now ≡ 0 = ap (λ o. length o.2.1) (is ∙ rated-not weeks8 weeks104 e) in absurd (omega arith))
      (true_or_false (eqb (refusal weeks8.now weeks104.now) 0))

  -- one without begins where the 8-week list does
  pub begins_with_eight : length p.now ≡ 0 → p.ref_ptr ≡ weeks8.ref_ptr
  begins_with_eight h =
      ⊎_elim
      (λ e. absurd (omega (arith, governs-some e)))
      (λ e. ap (λ o. o.2.0) (is ∙ rated-not weeks8 weeks104 e))
      (true_or_false (eqb (refusal weeks8.now weeks104.now) 0))

  pub answer_in_c : (before at : ℕ × ℕ) → at ≡ cond (eqb (length weeks8.now) 0) before p.ref_ptr
      → (record { number = n; figure = f }, length p.now, at) ≡ rated_in_c weeks8 weeks104 before
  unfolding rated_in_c
  answer_in_c before at q =
      let p = q ∙ ap (λ o. cond (eqb (length weeks8.now) 0) before o.2.0) is in
      λ i. (record { number = (is i).0; figure = (is i).1 }, length (is i).2.1, p i)

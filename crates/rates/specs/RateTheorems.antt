-- What the desk and the secretary will ask of a rate (M-105): that it is the least and the only one, how large it can be, that 01's close takes it, that it is 01's
-- rate of a product, and that the window handed back gave it. Assumes nothing.
use Rattle.std.specs.Prelude.{◌≡◌, refl, true, false, ◌&&◌, List, [], ◌∷◌, leb, eqb, ℤ, negsuc}
use Rattle.std.proofs.Math.Path.{sym, ap}
use Rattle.std.proofs.Common.{◌∙◌, ⊎_elim, arith, leb-true, leb-false, le-leb, eq-eqb}
use Prim.Native.Nat.{ℕ, ◌*◌, ◌-◌, ◌≤◌, ◌<◌, max}
use Rattle.std.proofs.Math.IntN.{pos}
use Rattle.std.specs.Borrow.{Bor}
use Rattle.std.proofs.lemmas.Bool.{lt-leb}
use Rattle.whole.specs.Number.{max_z, between}
use Rattle.whole.specs.Tests.{true_or_false, is_in}
use Rattle.rules.specs.Sizes.{most_rate}
use Rattle.rules.specs.Product.{least_rate, rate_of}
use Rattle.rates.specs.MarginRate.{length_ok, figures_ok, refusal, sum_of, squares_of, spread_of, enough, window_rate, governs, part_of, rated}
use Rattle.rates.specs.SumsLaws.{Accepted, accepted}
use Rattle.rates.specs.RateLaws.{square_of, enough-is, rate_at-most, rate_most, rate_some, rate_enough, rate_above}
use Rattle.rates.specs.JudgedLaws.{rated-taken, governs-eight, governs-other, larger_rate}

-- ---- the rate of a window

-- r is the least whole number, at least 1, that is not below the exact figure
pub record Least (window : List ℤ) (r : ℕ) : Type 0 where
  pub some : 1 ≤ r
  pub is_enough : enough window r ≡ true
  pub none_less : (q : ℕ) → 1 ≤ q → enough window q ≡ true → r ≤ q

-- two such are one
pub least-only : (window : List ℤ) (r s : ℕ) → Least window r → Least window s → r ≡ s
least-only window r s h i = omega (arith, h.none_less s i.some i.is_enough, i.none_less r h.some h.is_enough)

module _ (window : List ℤ) (length-is : length_ok window ≡ true) (figures-are : figures_ok window ≡ true) where
  is_accepted : Accepted window
  is_accepted = accepted window length-is figures-are

  none_below : (q : ℕ) → 1 ≤ q → enough window q ≡ true → window_rate window ≤ q
  none_below q h e =
      ⊎_elim
      (λ l. rate_at-most window is_accepted q h (leb-true q most_rate l) (leb-true (square_of window) (q * q) (sym (enough-is window is_accepted q h) ∙ e)))
      (λ l. omega (arith, leb-false q most_rate l, rate_most window is_accepted))
      (true_or_false (leb q most_rate))

  -- the rate of an accepted window is the least
  pub rate_is-least : Least window (window_rate window)
  rate_is-least = record { some = rate_some window is_accepted; is_enough = rate_enough window is_accepted; none_less = none_below }

  -- and at most 6,591: none above 10,000 can arise
  pub rate_is-most : window_rate window ≤ 6591
  rate_is-most = rate_most window is_accepted

  -- so a close takes it
  pub close_takes : between (pos 1) (pos most_rate) (pos (window_rate window)) ≡ true
  close_takes = is_in 1 most_rate (window_rate window) (rate_some window is_accepted) (omega (arith, rate_is-most))

  -- two tests settle a rate: r is enough, and one less is not, or is 0
  pub by_two_tests : (r : ℕ) → 1 ≤ r → enough window r ≡ true → (leb 2 r && enough window (r - 1)) ≡ false → window_rate window ≡ r
  by_two_tests r h e l = ⊎_elim above first (true_or_false (leb 2 r))
    where
      above : leb 2 r ≡ true → window_rate window ≡ r
      above t =
          let m : 1 ≤ r - 1 = omega (arith, leb-true 2 r t) in
          let n : enough window (r - 1) ≡ false = rw t at l in
          let k : (r - 1) * (r - 1) < square_of window = leb-false (square_of window) ((r - 1) * (r - 1)) (sym (enough-is window is_accepted (r - 1) m) ∙ n) in
          omega (arith, none_below r h e, rate_above window is_accepted (r - 1) k)

      first : leb 2 r ≡ false → window_rate window ≡ r
      first t = omega (arith, leb-false 2 r t, none_below r h e, rate_some window is_accepted)

-- 6,591 is reached, by two figures at either end
abbrev pub widest : List ℤ
widest = negsuc 19999 ∷ pos 20000 ∷ []

pub most-reached : window_rate widest ≡ 6591
unfolding enough spread_of sum_of squares_of
most-reached = by_two_tests widest refl refl 6591 (omega arith) refl refl

-- ---- the call

not-refused : (weeks8 weeks104 : List ℤ) → refusal weeks8 weeks104 ≡ 0 → eqb (refusal weeks8 weeks104) 0 ≡ true
not-refused weeks8 weeks104 e = eq-eqb (refusal weeks8 weeks104) 0 e

max-is : (a b : ℕ) → max_z (pos a) (pos b) ≡ pos (max a b)
unfolding max_z
max-is a b = ⊎_elim
    (λ e. rw e (ap pos (right (leb-true a b e))))
    (λ e. rw e (ap pos (left (leb-false a b e))))
    (true_or_false (leb a b))
  where
    right : a ≤ b → b ≡ max a b
    right h = omega arith

    left : b < a → a ≡ max a b
    left h = omega arith

max_self : (a : ℕ) → max a a ≡ a
max_self a = omega arith

max-zero : (a : ℕ) → max_z (pos a) (pos 0) ≡ pos a
max-zero a = max-is a 0 ∙ ap pos (zero-max a)
  where
    zero-max : (a : ℕ) → max a 0 ≡ a
    zero-max a = omega arith

module _ (weeks8 weeks104 : Bor (List ℤ)) (taken : refusal weeks8.now weeks104.now ≡ 0) where
  answer : rated weeks8 weeks104 ≡ (0, pos (window_rate (governs weeks8 weeks104).now), part_of (governs weeks8 weeks104))
  answer = rated-taken weeks8 weeks104 (not-refused weeks8.now weeks104.now taken)

  -- the figure is the larger of the two rates
  pub figure_is-larger : (rated weeks8 weeks104).1 ≡ pos (max (window_rate weeks8.now) (window_rate weeks104.now))
  figure_is-larger = ap (λ o. o.1) answer ∙ ap pos (larger_rate weeks8 weeks104)

  -- 01, "Rate of a product", of these two rates: the call's figure where no floor mark stands, and else 400 where that is larger
  pub as_in_01 : (mark : ℤ) → rate_of mark (pos (window_rate weeks8.now)) (pos (window_rate weeks104.now)) ≡ max_z (rated weeks8 weeks104).1 (least_rate mark)
  unfolding rate_of
  as_in_01 mark = ap (λ z. max_z z (least_rate mark)) (max-is (window_rate weeks8.now) (window_rate weeks104.now) ∙ sym figure_is-larger)

  pub without_floor : rate_of (pos 0) (pos (window_rate weeks8.now)) (pos (window_rate weeks104.now)) ≡ (rated weeks8 weeks104).1
  without_floor =
      as_in_01 (pos 0)
      ∙ ap (λ z. max_z z (pos 0)) figure_is-larger
      ∙ max-zero (max (window_rate weeks8.now) (window_rate weeks104.now))
      ∙ sym figure_is-larger

  -- so a close that is given the figure in place of both rates has the same rate
  pub in_both-places : (mark : ℤ)
      → rate_of mark (rated weeks8 weeks104).1 (rated weeks8 weeks104).1 ≡ rate_of mark (pos (window_rate weeks8.now)) (pos (window_rate weeks104.now))
  unfolding rate_of
  in_both-places mark =
      let m = max (window_rate weeks8.now) (window_rate weeks104.now) in
      ap (λ z. max_z (max_z z z) (least_rate mark)) figure_is-larger
      ∙ ap (λ z. max_z z (least_rate mark)) (max-is m m ∙ ap pos (max_self m) ∙ sym figure_is-larger)
      ∙ sym (as_in_01 mark)

  -- the part handed back gave the figure
  pub handed_back_gave_it : pos (window_rate (rated weeks8 weeks104).2.1) ≡ (rated weeks8 weeks104).1
  handed_back_gave_it = ap (λ o. pos (window_rate o.2.1)) answer ∙ sym (ap (λ o. o.1) answer)

  -- it is all of the 8-week list, where the caller lent it, exactly where that list's rate is not the smaller, and else all of the 104-week list
  pub eight_handed_back : window_rate weeks104.now ≤ window_rate weeks8.now → (rated weeks8 weeks104).2 ≡ part_of weeks8
  eight_handed_back h = ap (λ o. o.2) answer ∙ ap part_of (governs-eight weeks8 weeks104 (le-leb (window_rate weeks104.now) (window_rate weeks8.now) h))

  pub other_handed_back : window_rate weeks8.now < window_rate weeks104.now → (rated weeks8 weeks104).2 ≡ part_of weeks104
  other_handed_back h = ap (λ o. o.2) answer ∙ ap part_of (governs-other weeks8 weeks104 (lt-leb (window_rate weeks104.now) (window_rate weeks8.now) h))

-- the rate of one window: lent twice, it is answered
pub one_window : (window : Bor (List ℤ)) → refusal window.now window.now ≡ 0 → rated window window ≡ (0, pos (window_rate window.now), part_of window)
one_window window taken =
    answer window window taken
    ∙ ap (λ g. (0, pos (window_rate g.now), part_of g)) (governs-eight window window (le-leb (window_rate window.now) (window_rate window.now) (omega arith)))

-- A window that is accepted, and what one pass over it leaves: the figures added up and their squares, small enough for a word at every turn. Words for contracts
-- behind the call. Assumes nothing.
use Rattle.std.specs.Prelude.{◌≡◌, ◌+◌, Option, Some, None, is_some, Bool, true, false, cond, List, ℕ, ◌*◌, ◌≤◌, ◌<◌, leb, ℤ, pos, nat_abs, ◌+ℤ◌, ◌-ℤ◌, ◌*ℤ◌, length, ◌≤ℤ◌}
use Rattle.std.proofs.Common.{sym, ap, ◌∙◌, subst, add-one, ⊎_elim, arith, SFits, to_z, of_z, leb-true}
use Rattle.std.specs.Int.{w64}
use Rattle.std.proofs.lemmas.Option.{cond_some, none-some}
use Rattle.whole.specs.Number.{within}
use Rattle.whole.specs.Counting.{all, sum, figure_at}
use Rattle.whole.specs.CountingLaws.{all-at, all-is, all-fails, all_more, sum_abs}
use Rattle.whole.specs.Reps.{prod}
use Rattle.whole.specs.Tests.{both, clash, true_or_false, is_false, within_true}
use Rattle.whole.specs.Whole.{whole, facts, by}
use Rattle.rates.specs.MarginRate.{most_count, most_size, length_ok, figures_ok, sum_of, squares_of, spread_of}
use Rattle.rates.specs.declared.windows.Sums.{Sums}
use Rattle.rates.specs.SpreadLaws.{spread_not-below}

abbrev pub in_range : List ℤ → ℕ → Bool
in_range window i = within most_size (figure_at window i)

abbrev pub square_at : List ℤ → ℕ → ℤ
square_at window i = figure_at window i *ℤ figure_at window i

-- ---- an accepted window

pub record Accepted (window : List ℤ) : Type 0 where
  pub two : 2 ≤ length window
  pub few : length window ≤ most_count
  pub in-range : all (length window) (in_range window) ≡ true

pub accepted : (window : List ℤ) → length_ok window ≡ true → figures_ok window ≡ true → Accepted window
accepted window h i =
    let b = both (leb 2 (length window)) (leb (length window) most_count) h in
    record { two = leb-true 2 (length window) b.0; few = leb-true (length window) most_count b.1; in-range = i }

-- ---- what a pass leaves of the first n figures of a window, and of all; nothing once a figure is out of range

abbrev pub added_to : List ℤ → ℕ → Sums
added_to window n = record { sum = sum n (figure_at window); squares = sum n (square_at window) }

unfoldable pub sums_to : List ℤ → ℕ → Option Sums
sums_to window n = cond (all n (in_range window)) (Some (added_to window n)) None

abbrev pub sums_of : List ℤ → Option Sums
sums_of window = sums_to window (length window)

pub to_in : (window : List ℤ) (n : ℕ) → all n (in_range window) ≡ true → sums_to window n ≡ Some (added_to window n)
unfolding sums_to
to_in window n e = rw e

pub to_out : (window : List ℤ) (n : ℕ) → all n (in_range window) ≡ false → sums_to window n ≡ None
unfolding sums_to
to_out window n e = rw e

-- some are left exactly where all figures are in range
pub sums_ok : (window : List ℤ) (n : ℕ) → is_some (sums_to window n) ≡ all n (in_range window)
sums_ok window n = ⊎_elim (λ e. ap is_some (to_in window n e) ∙ sym e) (λ e. ap is_some (to_out window n e) ∙ sym e) (true_or_false (all n (in_range window)))

-- sums that are left are those of figures in range
pub left : (window : List ℤ) (n : ℕ) (s : Sums) → Some s ≡ sums_to window n → (all n (in_range window) ≡ true) × (added_to window n ≡ s)
unfolding sums_to
left window n s e = cond_some (all n (in_range window)) (added_to window n) s (sym e)

-- a figure out of range ends them
pub out : (window : List ℤ) (n i : ℕ) → i < n → in_range window i ≡ false → sums_to window n ≡ None
unfolding sums_to
out window n i b e = rw (all-fails n (in_range window) i b e)

-- what one figure more leaves
abbrev pub next : Sums → ℤ → Option Sums
next s x = cond (within most_size x) (Some (record { sum = s.sum +ℤ x; squares = s.squares +ℤ x *ℤ x })) None

pub next_is : (window : List ℤ) (n : ℕ) (s : Sums) → Some s ≡ sums_to window n → next s (figure_at window n) ≡ sums_to window (n + 1)
next_is window n s e = ⊎_elim more none (true_or_false (in_range window n))
  where
    more : in_range window n ≡ true → next s (figure_at window n) ≡ sums_to window (n + 1)
    more t =
        let h = left window n s e in
        rw (t, ← h.1, add-one) (sym (rw add-one at (to_in window (n + 1) (all_more n (in_range window) h.0 t))))

    none : in_range window n ≡ false → next s (figure_at window n) ≡ sums_to window (n + 1)
    none t = rw t (sym (out window (n + 1) n (omega arith) t))

-- where none are left of the first figures, none are left of all
pub ended : (window : List ℤ) (n m : ℕ) → n ≤ m → sums_to window n ≡ None → sums_to window m ≡ None
unfolding sums_to
ended window n m h e =
    ⊎_elim
    (λ t. absurd (none-some (added_to window n) (sym (rw t at e))))
    (λ o. rw (is_false (all m (in_range window)) (λ t. clash (all-is n (in_range window) (λ i b. all-at m (in_range window) t i (omega arith))) o)))
    (true_or_false (all n (in_range window)))

-- once out of range, always
pub stays_out : (window : List ℤ) (n m : ℕ) → n ≤ m → is_some (sums_to window n) ≡ false → sums_to window n ≡ sums_to window m
stays_out window n m h e = let o = to_out window n (sym (sums_ok window n) ∙ e) in o ∙ sym (ended window n m h o)

-- ---- sizes, of the first n figures where these are in range: a word has each sum, and takes one figure more

square_most : (x : ℤ) → nat_abs x ≤ most_size → nat_abs (x *ℤ x) ≤ 400000000
square_most x h = by (search whole depth 20) (omega (facts, prod x x h h))

module _ (window : List ℤ) (n : ℕ) (few : n ≤ most_count) (before : all n (in_range window) ≡ true) where
  passed : (i : ℕ) → i < n → nat_abs (figure_at window i) ≤ most_size
  passed i b = within_true most_size (figure_at window i) (all-at n (in_range window) before i b)

  pub squares_most : nat_abs (sum n (square_at window)) ≤ n * 400000000
  squares_most = sum_abs 400000000 n (square_at window) (λ i b. square_most (figure_at window i) (passed i b))

  pub sum-small : nat_abs (sum n (figure_at window)) ≤ 10400000
  sum-small = omega (arith, sum_abs most_size n (figure_at window) passed)

  pub squares_small : nat_abs (sum n (square_at window)) ≤ 208000000000
  squares_small = omega (arith, squares_most)

  pub sum-word : to_z w64 (of_z w64 (sum n (figure_at window))) ≡ sum n (figure_at window)
  sum-word = let h = sum-small in by (search whole depth 20) (omega facts)

  pub squares_word : to_z w64 (of_z w64 (sum n (square_at window))) ≡ sum n (square_at window)
  squares_word = let h = squares_small in by (search whole depth 20) (omega facts)

  module _ (next : in_range window n ≡ true) where
    next_in : nat_abs (figure_at window n) ≤ most_size
    next_in = within_true most_size (figure_at window n) next

    pub sum_fits : SFits w64 (sum n (figure_at window) +ℤ figure_at window n)
    sum_fits = let h = sum-small in let j = next_in in by (search whole depth 20) (omega facts)

    pub square_fits : SFits w64 (square_at window n)
    square_fits = let j = next_in in by (search whole depth 20) (omega (facts, prod (figure_at window n) (figure_at window n) j j))

    pub squares_fit : SFits w64 (sum n (square_at window) +ℤ square_at window n)
    squares_fit = let h = squares_small in let j = next_in in by (search whole depth 20) (omega (facts, prod (figure_at window n) (figure_at window n) j j))

-- so a word has the sums that are left
pub left_small : (window : List ℤ) (n : ℕ) (s : Sums) → n ≤ most_count → Some s ≡ sums_to window n → (nat_abs s.sum ≤ 10400000) × (nat_abs s.squares ≤ 208000000000)
left_small window n s few e =
    let h = left window n s e in
    (subst (λ (s : Sums). nat_abs s.sum ≤ 10400000) h.1 (sum-small window n few h.0), subst (λ (s : Sums). nat_abs s.squares ≤ 208000000000) h.1 (squares_small window n few h.0))

-- ---- the sums of an accepted window of m figures

pub record Summed (m : ℕ) (sum squares : ℤ) : Type 0 where
  pub two : 2 ≤ m
  pub few : m ≤ most_count
  pub sum_in : nat_abs sum ≤ 10400000
  pub squares_in : nat_abs squares ≤ 208000000000
  pub natural : pos 0 ≤ℤ ((pos m *ℤ squares) -ℤ (sum *ℤ sum))

module _ (window : List ℤ) (a : Accepted window) where
  pub sums_accepted : sums_of window ≡ Some (added_to window (length window))
  sums_accepted = to_in window (length window) a.in-range

  pub squares-of : nat_abs (squares_of window) ≤ length window * 400000000
  unfolding squares_of
  squares-of = squares_most window (length window) a.few a.in-range

  pub summed : Summed (length window) (sum (length window) (figure_at window)) (sum (length window) (square_at window))
  unfolding spread_of sum_of squares_of
  summed =
      record {
        two = a.two;
        few = a.few;
        sum_in = sum-small window (length window) a.few a.in-range;
        squares_in = squares_small window (length window) a.few a.in-range;
        natural = spread_not-below window;
      }

-- The second pass: a call's line and its figures, one call more, one account more. Assumes nothing.
use mathlib.Core.Path.{◌≡◌, refl, ◌∙◌, ap}
use mathlib.Core.Bool.{Bool, true, false, cond}
use mathlib.Core.List.{List, [], ◌++◌, append_assoc}
use Prim.Native.Nat.{ℕ, zero, suc, ◌+◌, ◌-◌, ◌≤◌, ◌<◌}
use native.Mathlib.Nat.{not-suc-le-zero}
use native.Mathlib.Omega.{arith}
use lib.Dec.{ltb}
use lib.IntN.{ℤ}
use lib.ListN.{length, get_or}
use Rattle.places.specs.declared.Shape.{Shape}
use Rattle.lines.specs.Lines.{lost, field_at, close_of, FiguresRead, figures_at}
use Rattle.lines.specs.Print.{numbers_line}
use Rattle.dayfile.specs.CallLines.{most_figures, figures_of, call_at, calls_at}
use Rattle.dayfile.specs.InsideDayfile.{given_of}
use Rattle.day.specs.InsideDay.{done_at}
use Rattle.calls.specs.Ledger.{LedgerRules}
use Rattle.day.specs.Sheet.{reply_line, account_numbers, accounts_part, house_part, end_part, calls_part}

figures_length : (text : List ℕ) (at k : ℕ) → length (figures_at text at k).values ≡ k
unfolding figures_at
figures_length text at zero = refl
figures_length text at (suc k) = ap suc (figures_length text (field_at text at (close_of k)).next k)

cond-length : (t : Bool) (f : FiguresRead) (k : ℕ) → length f.values ≡ k → length (cond {A = FiguresRead} t (record { values = []; next = lost }) f).values ≡ cond t 0 k
cond-length true f k e = refl
cond-length false f k e = e

pub call_length : (text : List ℕ) (p at : ℕ) → length (call_at text p at).values ≡ given_of p (get_or text at 0)
unfolding call_at given_of
call_length text p at = cond-length (ltb most_figures (figures_of p (get_or text at 0))) _ (figures_of p (get_or text at 0)) (figures_length text _ (figures_of p (get_or text at 0)))

module _ (l : LedgerRules) (s : Shape) where
  pub calls-more : (text : List ℕ) (at left : ℕ) (words : List ℤ) → 0 < left → calls_part l s (calls_at text s.p at left) words
      ≡ reply_line (done_at l text s.p at words).0 ++ calls_part l s (calls_at text s.p (call_at text s.p at).next (left - 1)) (done_at l text s.p at words).1
  unfolding calls_part calls_at
  calls-more text at zero words h = absurd (not-suc-le-zero h)
  calls-more text at (suc k) words h = let e : suc k - 1 ≡ k = omega arith in rw e

  pub calls-none : (text : List ℕ) (at left : ℕ) (words : List ℤ) → left ≤ 0 → calls_part l s (calls_at text s.p at left) words ≡ end_part l s words
  unfolding calls_part calls_at
  calls-none text at zero words h = refl
  calls-none text at (suc k) words h = absurd (not-suc-le-zero h)

  accounts-step : (a k : ℕ) (words : List ℤ) → 0 < k → accounts_part l s a k words
      ≡ numbers_line (account_numbers l s a words) ++ accounts_part l s (a + 1) (k - 1) words
  unfolding accounts_part
  accounts-step a zero words h = absurd (not-suc-le-zero h)
  accounts-step a (suc k) words h = let e : suc k - 1 ≡ k = omega arith in rw e

  pub accounts-more : (a : ℕ) (words : List ℤ) → a < s.n → accounts_part l s a (s.n - a) words ++ house_part s words
      ≡ numbers_line (account_numbers l s a words) ++ (accounts_part l s (a + 1) (s.n - (a + 1)) words ++ house_part s words)
  accounts-more a words h =
      let e : s.n - a - 1 ≡ s.n - (a + 1) = omega arith in
      ap (λ (x : List ℕ). x ++ house_part s words) (accounts-step a (s.n - a) words (omega arith))
      ∙ rw (e, append_assoc (numbers_line (account_numbers l s a words)) (accounts_part l s (a + 1) (s.n - (a + 1)) words) (house_part s words)) refl

  pub accounts-none : (a : ℕ) (words : List ℤ) → s.n ≤ a → accounts_part l s a (s.n - a) words ++ house_part s words ≡ house_part s words
  unfolding accounts_part
  accounts-none a words h = let e : s.n - a ≡ 0 = omega arith in rw e

  pub accounts-all : (words : List ℤ) → end_part l s words ≡ accounts_part l s 0 (s.n - 0) words ++ house_part s words
  accounts-all words = let e : s.n - 0 ≡ s.n = omega arith in rw e

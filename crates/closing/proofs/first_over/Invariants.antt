-- `first_over` meets its contract: no account before a is over, by the bound on what a close adds (`gross_in`) or by its new dues; the inner loop has the
-- gross of the cash and the first d new dues, still in range. Assumes nothing.
use mathlib.Core.Bool.{false}
use mathlib.Core.List.{List}
use mathlib.Core.Path.{◌≡◌}
use Rattle.std.specs.Prelude.{None}
use Prim.Native.Nat.{ℕ, ◌+◌, ◌≤◌, ◌<◌}
use lib.IntN.{ℤ, nat_abs}
use Rattle.whole.specs.Counting.{total}
use Rattle.rules.specs.Sizes.{most_gross}
use Rattle.places.specs.declared.Shape.{Shape}
use Rattle.places.specs.Place.{get, cash}
use Rattle.places.specs.ByAccount.{by_account}
use Rattle.daily.specs.DailyFigures.{new_due, over_gross}
use Rattle.closing.proofs.first_over.Given as goal

abbrev pub due-abs : List ℤ → Shape → List ℤ → List ℤ → ℕ → ℕ → ℕ
due-abs W s prices lags a d = nat_abs (new_due prices lags s (get by_account s W) a d)

-- the gross of the cash and the first d new dues, still in range
abbrev pub invariant-loop-due : goal.invariant-loop-due
invariant-loop-due l = let f = l.fn.figures in
    (l.found ≡ None) × (l.gross ≡ nat_abs (get by_account l.s l.words (cash l.a)) + total l.due-index (due-abs l.words l.s f.prices.now f.lags.now l.a)) × (l.gross ≤ most_gross)

-- no account before a is over
abbrev pub invariant-search : goal.invariant-search
invariant-search l = let f = l.fn.figures in
    (l.found ≡ None) × ((k : ℕ) → k < l.a → over_gross f.prices.now f.lags.now l.s (get by_account l.s l.words) k ≡ false)

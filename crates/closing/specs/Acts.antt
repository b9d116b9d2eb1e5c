-- The rule of the close, test by test: what it answers where each test fails, and once its search has answered. Assumes nothing.
use Rattle.std.specs.Prelude.{◌≡◌, Bool, true, false, List, ℕ, ◌+◌, ◌≤◌, ℤ, pos}
use Rattle.std.proofs.Common.{sym, ap, ◌∙◌, le-ltb}
use Rattle.whole.specs.Number.{is, unless}
use Rattle.whole.specs.Counting.{all, least}
use Rattle.rules.specs.declared.Reply.{Reply}
use Rattle.places.specs.declared.Shape.{Shape}
use Rattle.places.specs.Place.{View, Layout, get, puts, phase}
use Rattle.places.specs.Act.{Act, finish}
use Rattle.soundness.specs.Perform.{replies, refuse}
use Rattle.daily.specs.DailyFigures.{lengths_ok, figure_ok, over_gross}
use Rattle.closing.specs.Close.{closed, closing, close_puts, close_rule}

module _ (L : Layout) (prices rates8 rates104 lags : List ℤ) (s : Shape) (W : List ℤ) (a : ℕ) (e : a ≡ least s.n (over_gross prices lags s (get L s W))) where
  pub at_a : finish L s W (closing prices rates8 rates104 lags s (get L s W)) ≡ finish L s W (closed prices rates8 rates104 lags s (get L s W) a)
  at_a = ap (λ k. finish L s W (closed prices rates8 rates104 lags s (get L s W) k)) (sym e)

  -- none would
  pub closes : s.n ≤ a → finish L s W (closing prices rates8 rates104 lags s (get L s W)) ≡ (replies 0 (pos 0), puts L s W (close_puts prices rates8 rates104 lags s (get L s W)))
  closes h = at_a ∙ rw (le-ltb a s.n h)

-- ---- the rule, test by test, over any tests

module _ (x y z : Bool) (o : Act Reply) where
  abbrev rule : Act Reply
  rule = unless x (refuse 2) (unless y (refuse 7) (unless z (refuse 8) o))

  to_2 : x ≡ false → rule ≡ refuse 2
  to_2 h = rw h

  to_7 : x ≡ true → y ≡ false → rule ≡ refuse 7
  to_7 h i = rw (h, i)

  to_8 : x ≡ true → y ≡ true → z ≡ false → rule ≡ refuse 8
  to_8 h i k = rw (h, i, k)

  to-close : x ≡ true → y ≡ true → z ≡ true → rule ≡ o
  to-close h i k = rw (h, i, k)

module _ (prices rates8 rates104 lags : List ℤ) (s : Shape) (g : View) where
  abbrev pub lengths_test : Bool
  lengths_test = lengths_ok prices rates8 rates104 lags s.p

  abbrev pub phase_test : Bool
  phase_test = is (s.n + 1) (g phase)

  abbrev pub figures_test : Bool
  figures_test = all s.p (figure_ok prices rates8 rates104 lags g)

  pub refused_2 : lengths_test ≡ false → close_rule prices rates8 rates104 lags s g ≡ refuse 2
  refused_2 = to_2 lengths_test phase_test figures_test (closing prices rates8 rates104 lags s g)

  pub refused_7 : lengths_test ≡ true → phase_test ≡ false → close_rule prices rates8 rates104 lags s g ≡ refuse 7
  refused_7 = to_7 lengths_test phase_test figures_test (closing prices rates8 rates104 lags s g)

  pub refused_8 : lengths_test ≡ true → phase_test ≡ true → figures_test ≡ false → close_rule prices rates8 rates104 lags s g ≡ refuse 8
  refused_8 = to_8 lengths_test phase_test figures_test (closing prices rates8 rates104 lags s g)

  pub taken : lengths_test ≡ true → phase_test ≡ true → figures_test ≡ true → close_rule prices rates8 rates104 lags s g ≡ closing prices rates8 rates104 lags s g
  taken = to-close lengths_test phase_test figures_test (closing prices rates8 rates104 lags s g)

-- The close (01, "The day"): in phase n+1 only, with four lists of p. Refusals: 1 2 7 8 12; 12 is judged on finished dues, and its figure is the
-- lowest account whose gross would pass 10^15. Every word put is computed from the ledger before the close.
use Rattle.std.specs.Prelude.{List, [], ◌∷◌, ◌++◌, cond, ℕ, ◌+◌, ltb, ℤ, pos}
use Rattle.whole.specs.Number.{is, unless}
use Rattle.whole.specs.Counting.{all, least, figure_at}
use Rattle.rules.specs.declared.Reply.{Reply}
use Rattle.places.specs.declared.Shape.{Shape}
use Rattle.places.specs.Place.{View, Put, ◌≔◌, each, dues, phase, price, margin, due, book}
use Rattle.places.specs.Act.{Act, Rule}
use Rattle.soundness.specs.Perform.{refuse, refuse_at, does}
use Rattle.daily.specs.DailyFigures.{lengths_ok, figure_ok, new_due, new_margin, new_book, over_gross}

-- ---- the puts: per account its initial margin, its dues and its books; per product its last price; the phase

abbrev pub due_puts : List ℤ → List ℤ → Shape → ℕ → View → ℕ → List Put
due_puts prices lags s a g d = (due a d ≔ new_due prices lags s g a d) ∷ []

abbrev pub book_puts : List ℤ → ℕ → View → ℕ → List Put
book_puts prices a g j = (book a j ≔ new_book prices g a j) ∷ []

abbrev pub price_puts : List ℤ → ℕ → List Put
price_puts prices j = (price j ≔ figure_at prices j) ∷ []

unfoldable pub account_puts : List ℤ → List ℤ → List ℤ → List ℤ → Shape → View → ℕ → List Put
account_puts prices rates8 rates104 lags s g a =
    ((margin a ≔ new_margin prices rates8 rates104 s g a) ∷ each dues (due_puts prices lags s a g))
    ++ each s.p (book_puts prices a g)

unfoldable pub close_puts : List ℤ → List ℤ → List ℤ → List ℤ → Shape → View → List Put
close_puts prices rates8 rates104 lags s g =
    (each s.n (account_puts prices rates8 rates104 lags s g) ++ each s.p (price_puts prices))
    ++ ((phase ≔ pos 0) ∷ [])

-- ---- the rule

-- a is the lowest account whose gross would pass its range, or n where there is none
abbrev pub closed : List ℤ → List ℤ → List ℤ → List ℤ → Shape → View → ℕ → Act Reply
closed prices rates8 rates104 lags s g a =
    cond (ltb a s.n) (refuse_at 12 (pos a)) (does (pos 0) (close_puts prices rates8 rates104 lags s g))

abbrev pub closing : List ℤ → List ℤ → List ℤ → List ℤ → Rule Reply
closing prices rates8 rates104 lags s g = closed prices rates8 rates104 lags s g (least s.n (over_gross prices lags s g))

abbrev pub close_rule : List ℤ → List ℤ → List ℤ → List ℤ → Rule Reply
close_rule prices rates8 rates104 lags s g =
    unless (lengths_ok prices rates8 rates104 lags s.p) (refuse 2)
    (unless (is (s.n + 1) (g phase)) (refuse 7)
    (unless (all s.p (figure_ok prices rates8 rates104 lags g)) (refuse 8)
    (closing prices rates8 rates104 lags s g)))

-- The lists that a close is called with, handed to a definition that takes all four.
use Rattle.std.specs.Prelude.{List, ℤ}
use Rattle.daily.specs.declared.Figures.{Figures}

abbrev pub of_lists : {X : Type 0} → Figures → (List ℤ → List ℤ → List ℤ → List ℤ → X) → X
of_lists figures takes = takes figures.prices.now figures.rates8.now figures.rates104.now figures.lags.now

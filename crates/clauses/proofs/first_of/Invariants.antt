-- None before i fails.
use Rattle.std.specs.Prelude.{◌≡◌, ℕ, ◌<◌, Option}
use Rattle.clauses.specs.Clauses.{none, first_of}
use Rattle.clauses.specs.declared.Failing.{Failing}
use Rattle.clauses.proofs.first_of.Given as goal

abbrev pub invariant-loop-i : goal.invariant-loop-i
invariant-loop-i g l = (f : ℕ → Option Failing) → ((i : ℕ) → i < l.n → (o : Option Failing) → goal.F-post g l.of i o → o ≡ f i) → first_of l.i f ≡ none

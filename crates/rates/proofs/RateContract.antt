-- What the contract of `governing` says, of the clauses that are made from its source: it asks nothing, and its `ensures` is one equation. By computation.
-- Assumes nothing.
use mathlib.Core.Path.{◌≡◌, refl}
use Prim.Native.Nat.{ℕ}
use lib.IntN.{ℤ}
use base.Stored.{Coded-set, coded_ℕ, coded×, coded_via, coded_list}
use denote.Builtin.{i64}
use Rattle.contracts.specs.Says.{Contract, Says}
use Rattle.rates.specs.MarginRate.{Part, part_of, rated}
use Rattle.rates.specs.contracts.governing as governing

-- an equation between answers has one proof
answers_set : IsSet (ℕ × ℤ × Part)
answers_set =
    Coded-set
    (coded_via (coded× coded_ℕ (coded× i64.coded (coded× (coded× coded_ℕ coded_ℕ) (coded_list i64.coded)))) (λ p. (p.0, (p.1, p.2)))
    (λ _ _ e i. ((e i).0, (e i).1.0, (e i).1.1)))

-- the parameters at entry are a: the two windows, and the number and the rate that are written, which z has at exit. The result is a list handed back
abbrev pub ratings : Contract governing.ended
ratings = record { clauses = λ _ _. governing.clauses }

pub governing_says : Says ratings (λ _ a r z. (z.1.1.0.now, z.1.1.1.0.now, part_of r) ≡ rated a.0 a.1.0)
governing_says = record { its_clauses = λ _. refl; one_proof = λ _ _ _ _. answers_set _ _ }

-- What the contract of `sheet` says, of the clauses that are made from its source: it asks nothing, and its `ensures` is one equation. By computation.
-- Assumes nothing.
use mathlib.Core.Path.{◌≡◌, refl}
use base.Stored.{Coded-set, coded×, coded_list, coded_ℕ}
use Rattle.contracts.specs.Says.{Contract, Says}
use Rattle.calls.specs.Ledger.{the_ledger}
use Rattle.day.specs.Sheet.{sheet_of, answer_of}
use Rattle.day.specs.contracts.sheet as sheet

-- the parameters at entry are a: the text, and the list lent for the sheet, which z has at exit
abbrev pub sheets : Contract sheet.ended
sheets = record { clauses = λ _ _. sheet.clauses }

pub sheet_says : Says sheets (λ _ a r z. (r, z.1.0.now) ≡ answer_of (sheet_of the_ledger a.0.now) a.1.0.now)
sheet_says = record { its_clauses = λ _. refl; one_proof = λ _ _ _ _. Coded-set (coded× coded_ℕ (coded_list coded_ℕ)) _ _ }

-- What the contract of `close` says, of the clauses that are made from its source: it asks nothing, and its `ensures` is one equation. By computation.
-- Assumes nothing.
use mathlib.Core.Path.{◌≡◌, refl}
use base.Stored.{Coded-set, coded×, coded_list}
use denote.Builtin.{i64}
use Rattle.contracts.specs.Says.{Contract, Says}
use Rattle.rules.specs.contracts.Reply as ReplyType
use Rattle.places.specs.ByAccount.{by_account}
use Rattle.soundness.specs.Perform.{perform}
use Rattle.closing.specs.Close.{close_rule}
use Rattle.closing.specs.contracts.close as close

-- the parameters at entry are a: the words, prices, both rates and lags; z has the words at exit
abbrev pub closes : Contract close.ended
closes = record { clauses = λ _ _. close.clauses }

pub close-says : Says closes
    (λ _ a r z. (r, z.0.now) ≡ perform by_account a.0.now (close_rule a.1.0.now a.1.1.0.now a.1.1.1.0.now a.1.1.1.1.0.now))
close-says = record { its_clauses = λ _. refl; one_proof = λ _ _ _ _. Coded-set (coded× (ReplyType.the_row).coded (coded_list i64.coded)) _ _ }

-- What the contract of `share_loss` says, of the clauses that are made from its source: it asks nothing, and its `ensures` is one equation. By computation.
-- Assumes nothing.
use mathlib.Core.Path.{◌≡◌, refl}
use mathlib.Core.List.{List}
use lib.IntN.{ℤ}
use base.Stored.{Coded-set, coded×, coded_via, coded_list}
use denote.Builtin.{i64}
use Rattle.contracts.specs.Says.{Contract, Says}
use Rattle.rules.specs.declared.Reply.{Reply}
use Rattle.rules.specs.contracts.Reply as ReplyType
use Rattle.shares.specs.Loss.{loss_shared}
use Rattle.shares.specs.contracts.share_loss as share_loss

-- an equation between replies and two lists has one proof
losses-set : IsSet (Reply × List ℤ × List ℤ)
losses-set =
    Coded-set
    (coded_via (coded× (ReplyType.the_row).coded (coded× (coded_list i64.coded) (coded_list i64.coded))) (λ p. (p.0, (p.1, p.2)))
    (λ _ _ e i. ((e i).0, (e i).1.0, (e i).1.1)))

-- the parameters at entry are a: the loss, deposits, differences and marks, and the two lists lent for the shares, which z has at exit
abbrev pub losses : Contract share_loss.ended
losses = record { clauses = λ _ _. share_loss.clauses }

pub share_loss_says : Says losses
    (λ _ a r z. (r, z.1.1.1.1.0.now, z.1.1.1.1.1.0.now)
    ≡ loss_shared a.0 a.1.0.now a.1.1.0.now a.1.1.1.0.now a.1.1.1.1.0.now a.1.1.1.1.1.0.now)
share_loss_says = record { its_clauses = λ _. refl; one_proof = λ _ _ _ _. losses-set _ _ }

-- What the contracts of the seven calls say, of the clauses that are made from their sources: each asks nothing, and its `ensures` is one equation, the
-- reply and the words at exit against its rule on the words at entry. By computation. A function that promised less is refused here. Assumes nothing.
use mathlib.Core.Path.{◌≡◌, refl}
use mathlib.Core.List.{List}
use lib.IntN.{ℤ}
use base.Stored.{Coded-set, coded×, coded_list}
use denote.Builtin.{i64}
use Rattle.contracts.specs.Says.{Contract, Says}
use Rattle.rules.specs.declared.Reply.{Reply}
use Rattle.rules.specs.declared.Standing.{Standing}
use Rattle.rules.specs.contracts.Reply as ReplyType
use Rattle.rules.specs.contracts.Standing as StandingType
use Rattle.places.specs.ByAccount.{by_account}
use Rattle.soundness.specs.Perform.{perform, ask}
use Rattle.acts.specs.Requests.{deposit_rule, withdraw_rule, guarantee_rule, question_rule}
use Rattle.acts.specs.Trade.{trade_rule}
use Rattle.acts.specs.Run.{begin_rule, step_rule}
use Rattle.ledger.specs.contracts.deposit as deposit
use Rattle.ledger.specs.contracts.withdraw as withdraw
use Rattle.ledger.specs.contracts.guarantee as guarantee
use Rattle.ledger.specs.contracts.question as question
use Rattle.ledger.specs.contracts.trade as trade
use Rattle.ledger.specs.contracts.begin as begin
use Rattle.ledger.specs.contracts.step as step

-- an equation between replies and words has one proof
replies-set : IsSet (Reply × List ℤ)
replies-set = Coded-set (coded× (ReplyType.the_row).coded (coded_list i64.coded))

standings_set : IsSet (Standing × List ℤ)
standings_set = Coded-set (coded× (StandingType.the_row).coded (coded_list i64.coded))

-- the parameters at entry are a, the words the first of them; r is the reply, and z are the parameters at exit
abbrev pub deposits : Contract deposit.ended
deposits = record { clauses = λ _ _. deposit.clauses }

pub deposit-says : Says deposits (λ _ a r z. (r, z.0.now) ≡ perform by_account a.0.now (deposit_rule a.1.0 a.1.1.0))
deposit-says = record { its_clauses = λ _. refl; one_proof = λ _ _ _ _. replies-set _ _ }

abbrev pub withdrawals : Contract withdraw.ended
withdrawals = record { clauses = λ _ _. withdraw.clauses }

pub withdraw_says : Says withdrawals (λ _ a r z. (r, z.0.now) ≡ perform by_account a.0.now (withdraw_rule a.1.0 a.1.1.0))
withdraw_says = record { its_clauses = λ _. refl; one_proof = λ _ _ _ _. replies-set _ _ }

abbrev pub guarantees : Contract guarantee.ended
guarantees = record { clauses = λ _ _. guarantee.clauses }

pub guarantee-says : Says guarantees (λ _ a r z. (r, z.0.now) ≡ perform by_account a.0.now (guarantee_rule a.1.0 a.1.1.0 a.1.1.1.0))
guarantee-says = record { its_clauses = λ _. refl; one_proof = λ _ _ _ _. replies-set _ _ }

-- a question only reads: it speaks of the words at entry alone
abbrev pub questions : Contract question.ended
questions = record { clauses = λ _ _. question.clauses }

pub question-says : Says questions (λ _ a r z. (r, a.0.now) ≡ ask by_account a.0.now (question_rule a.1.0))
question-says = record { its_clauses = λ _. refl; one_proof = λ _ _ _ _. standings_set _ _ }

abbrev pub trades : Contract trade.ended
trades = record { clauses = λ _ _. trade.clauses }

pub trade-says : Says trades (λ _ a r z. (r, z.0.now) ≡ perform by_account a.0.now (trade_rule a.1.0 a.1.1.0 a.1.1.1.0 a.1.1.1.1.0 a.1.1.1.1.1.0))
trade-says = record { its_clauses = λ _. refl; one_proof = λ _ _ _ _. replies-set _ _ }

abbrev pub begins : Contract begin.ended
begins = record { clauses = λ _ _. begin.clauses }

pub begin-says : Says begins (λ _ a r z. (r, z.0.now) ≡ perform by_account a.0.now begin_rule)
begin-says = record { its_clauses = λ _. refl; one_proof = λ _ _ _ _. replies-set _ _ }

abbrev pub steps : Contract step.ended
steps = record { clauses = λ _ _. step.clauses }

pub step-says : Says steps (λ _ a r z. (r, z.0.now) ≡ perform by_account a.0.now step_rule)
step-says = record { its_clauses = λ _. refl; one_proof = λ _ _ _ _. replies-set _ _ }

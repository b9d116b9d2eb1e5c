-- What the two contracts say is `WindowSays` at their rules, on every record and every amount, and they ask nothing. Of the clauses that are made from
-- their sources, by computation. Assumes nothing.
use mathlib.Core.Path.{refl}
use mathlib.Core.HLevel.{×_prop}
use lib.IntN.{ℤ}
use base.Stored.{Coded-set}
use Rattle.contracts.specs.Says.{Contract, Says}
use Rattle.rules.specs.AccountCalls.{teller_deposit, teller_withdrawal}
use Rattle.rules.specs.declared.Account.{Account}
use Rattle.rules.specs.declared.Reply.{Reply}
use Rattle.rules.specs.contracts.Account as AccountType
use Rattle.rules.specs.contracts.Reply as ReplyType
use Rattle.teller.specs.WindowRule.{RecordRule, WindowSays}
use Rattle.teller.specs.contracts.deposit as deposit
use Rattle.teller.specs.contracts.withdraw as withdraw

-- of what a window says there is one proof
says_prop : (rule : RecordRule) (before : Account) (x : ℤ) (r : Reply) (after : Account) → IsProp (WindowSays rule before x r after)
says_prop rule before x r after = ×_prop (Coded-set (ReplyType.the_row).coded _ _) (Coded-set (AccountType.the_row).coded _ _)

-- the parameters at entry are a: the record, which z has at exit, and the amount
abbrev pub window_deposits : Contract deposit.ended
window_deposits = record { clauses = λ _ _. deposit.clauses }

-- the rule is opened here, so that a contract which spells it out is compared with it
pub teller_deposit-says : Says window_deposits (λ _ a r z. WindowSays teller_deposit a.0.now a.1.0 r z.0.now)
unfolding teller_deposit
teller_deposit-says = record { its_clauses = λ _. refl; one_proof = λ _ a r z. says_prop teller_deposit a.0.now a.1.0 r z.0.now }

abbrev pub window_withdrawals : Contract withdraw.ended
window_withdrawals = record { clauses = λ _ _. withdraw.clauses }

pub teller_withdraw_says : Says window_withdrawals (λ _ a r z. WindowSays teller_withdrawal a.0.now a.1.0 r z.0.now)
teller_withdraw_says = record { its_clauses = λ _. refl; one_proof = λ _ a r z. says_prop teller_withdrawal a.0.now a.1.0 r z.0.now }

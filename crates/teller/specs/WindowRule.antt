-- What the contract of a window says, at a rule by value: the reply and the record at exit are the rule's. That this is what the two contracts say is
-- `proofs/TellerContracts.antt`, and that there is one result `tight/specs/OneResult.antt`. Assumes nothing.
use Rattle.std.specs.Prelude.{◌≡◌, ℤ}
use Rattle.rules.specs.AccountCalls.{Taken, reply_of}
use Rattle.rules.specs.declared.Account.{Account}
use Rattle.rules.specs.declared.Reply.{Reply}

-- a rule by value: an account and an amount give a reply and the account after it
abbrev pub RecordRule : Type 0
RecordRule = Account → ℤ → Taken

-- what a window's contract says of a reply and a record at exit
abbrev pub WindowSays : RecordRule → Account → ℤ → Reply → Account → Type 0
WindowSays rule before x reply after = (reply ≡ reply_of (rule before x)) × (after ≡ (rule before x).account)

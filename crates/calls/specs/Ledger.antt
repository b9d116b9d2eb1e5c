-- What a ledger does with its words, as the sheet asks it; and the ledger that is meant: its words laid out by account (01, "The ledger's
-- words"), its calls by the rules of crates `acts` and `closing`.
use Rattle.std.specs.Prelude.{Bool, List, ℤ}
use Rattle.rules.specs.declared.Reply.{Reply}
use Rattle.rules.specs.declared.Standing.{Standing}
use Rattle.places.specs.Act.{Rule}
use Rattle.places.specs.ByAccount.{by_account}
use Rattle.soundness.specs.Sound.{sound}
use Rattle.soundness.specs.Perform.{refuse, perform, ask}
use Rattle.acts.specs.Requests.{deposit_rule, withdraw_rule, guarantee_rule, question_rule}
use Rattle.acts.specs.Trade.{trade_rule}
use Rattle.acts.specs.Run.{begin_rule, step_rule}
use Rattle.closing.specs.Close.{close_rule}
use Rattle.dayfile.specs.CallLines.{Call, deposit, withdrawal, guarantee, begin, step, trade, close, none}

-- whether the words are sound, what a call answers and leaves, what a question about an account answers
pub record LedgerRules : Type 0 where
  pub sound : List ℤ → Bool
  pub perform : Call → List ℤ → Reply × List ℤ
  pub question : ℤ → List ℤ → Standing

-- the rule of each call. No good text has a `none`; it would put nothing
abbrev pub rule_of : Call → Rule Reply
rule_of (deposit a x) = deposit_rule a x
rule_of (withdrawal a x) = withdraw_rule a x
rule_of (guarantee a new cap) = guarantee_rule a new cap
rule_of begin = begin_rule
rule_of step = step_rule
rule_of (trade buyer seller product lots price) = trade_rule buyer seller product lots price
rule_of (close prices weeks8 weeks104 lags) = close_rule prices weeks8 weeks104 lags
rule_of none = λ s g. refuse 0

unfoldable pub the_ledger : LedgerRules
the_ledger = record {
  sound = sound by_account;
  perform = λ call words. perform by_account words (rule_of call);
  question = λ a words. (ask by_account words (question_rule a)).0;
}

-- `rules::accounts::required_of` meets its contract: the differences fit, as margin and dues are bounded. Assumes nothing.
use Rattle.whole.specs.Whole.{whole, facts, by}
use Rattle.rules.specs.Account.{required_of}
use Rattle.rules.specs.AccountLaws.{AccountIn, account_facts}
use Rattle.rules.proofs.accounts.required_of.Goals.{Start}
use Rattle.rules.proofs.accounts.required_of.Goals as goal

sound : (s : Start) → AccountIn s.args.account
sound s = account_facts s.args.account s.requires

pub overflow_sub-result : goal.overflow_sub-result
overflow_sub-result c = let i = sound (goal.at.overflow_sub-result c).Start in by (search whole depth 20) (omega facts)

pub overflow_sub-result-2 : goal.overflow_sub-result-2
overflow_sub-result-2 c = let i = sound (goal.at.overflow_sub-result-2 c).Start in by (search whole depth 20) (omega facts)

pub overflow_sub-result-3 : goal.overflow_sub-result-3
overflow_sub-result-3 c = let i = sound (goal.at.overflow_sub-result-3 c).Start in by (search whole depth 20) (omega facts)

pub returns : goal.returns
unfolding required_of
returns c = let i = sound (goal.at.returns c).Start in by (search whole depth 20) (omega facts)

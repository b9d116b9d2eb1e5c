-- `rules::accounts::deposit_of` meets its contract: the sum fits, as cash and LG value are bounded. Assumes nothing.
use Rattle.whole.specs.Whole.{whole, known, facts, by, told}
use Rattle.rules.specs.Account.{deposit_of}
use Rattle.rules.specs.AccountLaws.{account_facts, lg_in}
use Rattle.rules.proofs.accounts.deposit_of.Goals as goal

pub overflow_add-result : goal.overflow_add-result
overflow_add-result c = let s = c in let i = account_facts s.args.account s.requires in let l = lg_in s.args.account s.requires in by (search whole depth 20) (omega (facts, told c.lg_value.ensures (search known depth 20) (omega facts)))

pub returns : goal.returns
unfolding deposit_of
returns c = let s = c in let i = account_facts s.args.account s.requires in let l = lg_in s.args.account s.requires in by (search whole depth 20) (omega (facts, told c.lg_value.ensures (search known depth 20) (omega facts)))

-- `rules::accounts::excess_one` meets its contract: the difference fits, as deposit and required margin are bounded. Assumes nothing.
use Rattle.whole.specs.Whole.{whole, known, facts, by, told}
use Rattle.rules.specs.Account.{excess_one}
use Rattle.rules.specs.AccountLaws.{deposit_in, required_in}
use Rattle.rules.proofs.accounts.excess_one.Goals as goal

pub overflow_sub-result : goal.overflow_sub-result
overflow_sub-result c =
    let s = c in let d = deposit_in s.args.account s.requires in let r = required_in s.args.account s.requires in
    by (search whole depth 20) (omega (facts, told c.required_of.ensures (search known depth 20) (omega facts), told c.deposit_of.ensures (search known depth 20) (omega facts)))

pub returns : goal.returns
unfolding excess_one
returns c =
    let s = c in let d = deposit_in s.args.account s.requires in let r = required_in s.args.account s.requires in
    by (search whole depth 20) (omega (facts, told c.required_of.ensures (search known depth 20) (omega facts), told c.deposit_of.ensures (search known depth 20) (omega facts)))

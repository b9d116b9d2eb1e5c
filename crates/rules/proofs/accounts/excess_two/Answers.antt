-- `rules::accounts::excess_two` meets its contract: a choice by the kind; the sums fit, as cash, dues and margin are bounded. Assumes nothing.
use mathlib.Core.Path.{sym, ◌∙◌}
use Rattle.whole.specs.Number.{takes_away}
use Rattle.whole.specs.Whole.{whole, known, facts, by, told}
use Rattle.rules.specs.Account.{excess_two}
use Rattle.rules.specs.AccountLaws.{AccountIn, account_facts}
use Rattle.rules.proofs.accounts.excess_two.Goals.{Start}
use Rattle.rules.proofs.accounts.excess_two.Goals as goal

sound : (s : Start) → AccountIn s.args.account
sound s = account_facts s.args.account s.requires

pub overflow_add-result : goal.overflow_add-result
overflow_add-result c = let i = sound (goal.at.overflow_add-result c).Start in by (search whole depth 20) (omega facts)

pub overflow_sub-result : goal.overflow_sub-result
overflow_sub-result c = let i = sound (goal.at.overflow_sub-result c).Start in by (search whole depth 20) (omega facts)

pub returns-then-is_broker : goal.returns-then-is_broker
unfolding excess_two
returns-then-is_broker c =
    let i = sound (goal.at.returns-then-is_broker c).Start in
    rw (sym c.is_broker.ensures ∙ c.if-is_broker.true) (by (search whole depth 20) (omega facts))

pub overflow_add-result-2 : goal.overflow_add-result-2
overflow_add-result-2 c = let i = sound (goal.at.overflow_add-result-2 c).Start in by (search whole depth 20) (omega facts)

pub overflow_sub-result-2 : goal.overflow_sub-result-2
overflow_sub-result-2 c = let i = sound (goal.at.overflow_sub-result-2 c).Start in by (search whole depth 20) (omega facts)

pub takes_away-requires : goal.takes_away-requires
takes_away-requires c = let i = sound (goal.at.takes_away-requires c).Start in by (search whole depth 20) (omega facts)

pub overflow_sub-result-3 : goal.overflow_sub-result-3
unfolding takes_away
overflow_sub-result-3 c =
    let i = sound (goal.at.overflow_sub-result-3 c).Start in
    by (search whole depth 20) (omega (facts, told c.takes_away.ensures (search known depth 20) (omega facts)))

pub returns : goal.returns
unfolding excess_two takes_away
returns c =
    let i = sound (goal.at.returns c).Start in
    rw (sym c.is_broker.ensures ∙ c.if-is_broker.false) (by (search whole depth 20) (omega (facts, told c.takes_away.ensures (search known depth 20) (omega facts))))

-- A choice by the kind; the differences fit, as cash, dues and need are bounded. Assumes nothing.
use Rattle.std.specs.Prelude.{◌≡◌, pos, ◌-ℤ◌}
use Rattle.std.proofs.Common.{sym, ap, ◌∙◌, to_z, of_z, w64}
use Rattle.whole.specs.Number.{max_z, takes_away}
use Rattle.whole.specs.Signs.{came}
use Rattle.whole.specs.Whole.{whole, known, facts, by, told}
use Rattle.whole.proofs.Extremes.{int_max-turned}
use Rattle.rules.specs.Account.{next_day_need, second_shortfall}
use Rattle.rules.specs.AccountLaws.{account_facts, need_in}
use Rattle.rules.proofs.accounts.second_shortfall.Goals as goal

pub takes_away-requires : goal.takes_away-requires
takes_away-requires c = let i = account_facts c.args.account c.requires in by (search whole depth 20) (omega facts)

pub overflow_sub-takes_away : goal.overflow_sub-takes_away
unfolding takes_away
overflow_sub-takes_away c =
    let i = account_facts c.args.account c.requires in
    by (search whole depth 20) (omega (facts, told c.takes_away.ensures (search known depth 20) (omega facts)))

pub returns-then-is_broker : goal.returns-then-is_broker
unfolding second_shortfall takes_away
returns-then-is_broker c =
    let i = account_facts c.args.account c.requires in
    let d : to_z w64 (of_z w64 (to_z w64 (of_z w64 c.takes_away.result) -ℤ to_z w64 (of_z w64 c.args.account.cash))) ≡ takes_away c.args.account.due0 -ℤ c.args.account.cash =
    by (search whole depth 20) (omega (facts, told c.takes_away.ensures (search known depth 20) (omega facts))) in
    rw (sym c.is_broker.ensures ∙ c.if-is_broker.true) (came c.max.result c.max.type_inv (c.max.ensures.value ∙ int_max-turned _ _ ∙ ap (max_z (pos 0)) d))

pub overflow_sub-next_day_need : goal.overflow_sub-next_day_need
overflow_sub-next_day_need c =
    let i = account_facts c.args.account c.requires in let n = need_in c.args.account c.requires in
    by (search whole depth 20) (omega (facts, told c.next_day_need.ensures (search known depth 20) (omega facts)))

pub returns : goal.returns
unfolding second_shortfall
returns c =
    let i = account_facts c.args.account c.requires in let n = need_in c.args.account c.requires in
    let d : to_z w64 (of_z w64 (to_z w64 (of_z w64 c.next_day_need.result) -ℤ to_z w64 (of_z w64 c.args.account.cash))) ≡ next_day_need c.args.account -ℤ c.args.account.cash =
    by (search whole depth 20) (omega (facts, told c.next_day_need.ensures (search known depth 20) (omega facts))) in
    rw (sym c.is_broker.ensures ∙ c.if-is_broker.false) (came c.max-2.result c.max-2.type_inv (c.max-2.ensures.value ∙ int_max-turned _ _ ∙ ap (max_z (pos 0)) d))

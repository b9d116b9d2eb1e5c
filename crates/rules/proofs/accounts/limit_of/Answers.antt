-- The least of the three, and 0. Assumes nothing.
use Rattle.std.specs.Prelude.{◌≡◌, pos}
use Rattle.std.proofs.Common.{ap, ap₂, ◌∙◌, to_z, of_z, w64}
use Rattle.whole.specs.Number.{min_z, max_z}
use Rattle.whole.specs.Signs.{came}
use Rattle.whole.specs.Whole.{whole, facts, by}
use Rattle.whole.proofs.Extremes.{int_min-is, int_max-turned}
use Rattle.rules.specs.Account.{limit_of}
use Rattle.rules.specs.AccountLaws.{account_facts}
use Rattle.rules.proofs.accounts.limit_of.Goals as goal

pub returns : goal.returns
unfolding limit_of
returns c =
    let l = c.min in let m = c.min-excess in let y = c.excess_two in let x = c.excess_one in
    let i = account_facts c.args.account c.requires in
    let w : to_z w64 (of_z w64 c.args.account.cash) ≡ c.args.account.cash = by (search whole depth 20) (omega facts) in
    came c.max.result c.max.type_inv (c.max.ensures.value ∙ int_max-turned _ _ ∙ ap (max_z (pos 0))
    (came l.result l.type_inv (l.ensures.value ∙ int_min-is _ _ ∙ ap₂ min_z w
    (came m.result m.type_inv (m.ensures.value ∙ int_min-is _ _ ∙ ap₂ min_z (came x.result x.type_inv x.ensures) (came y.result y.type_inv y.ensures))))))

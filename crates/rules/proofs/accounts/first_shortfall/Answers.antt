-- The difference fits, as required margin and deposit are bounded. Assumes nothing.
use Rattle.std.specs.Prelude.{◌≡◌, pos, ◌-ℤ◌}
use Rattle.std.proofs.Common.{ap, ◌∙◌, to_z, of_z, w64}
use Rattle.whole.specs.Number.{max_z}
use Rattle.whole.specs.Signs.{came}
use Rattle.whole.specs.Whole.{whole, known, facts, by, told}
use Rattle.whole.proofs.Extremes.{int_max-turned}
use Rattle.rules.specs.Account.{first_shortfall, required_of, deposit_of}
use Rattle.rules.specs.AccountLaws.{deposit_in, required_in}
use Rattle.rules.proofs.accounts.first_shortfall.Goals as goal

pub overflow_sub-required_of : goal.overflow_sub-required_of
overflow_sub-required_of c =
    let d = deposit_in c.args.account c.requires in let r = required_in c.args.account c.requires in
    by (search whole depth 20) (omega (facts, told c.required_of.ensures (search known depth 20) (omega facts), told c.deposit_of.ensures (search known depth 20) (omega facts)))

pub returns : goal.returns
unfolding first_shortfall
returns c =
    let d = deposit_in c.args.account c.requires in let r = required_in c.args.account c.requires in
    let m : to_z w64 (of_z w64 (to_z w64 (of_z w64 c.required_of.result) -ℤ to_z w64 (of_z w64 c.deposit_of.result))) ≡ required_of c.args.account -ℤ deposit_of c.args.account =
    by (search whole depth 20) (omega (facts, told c.required_of.ensures (search known depth 20) (omega facts), told c.deposit_of.ensures (search known depth 20) (omega facts))) in
    came c.max.result c.max.type_inv (c.max.ensures.value ∙ int_max-turned _ _ ∙ ap (max_z (pos 0)) m)

-- A sound record's guarantee and cap are in 0..10^12, where a quotient is a floor. Assumes nothing.
use Rattle.std.specs.Prelude.{◌≡◌, int_div, pos, ◌*ℤ◌}
use Rattle.std.proofs.Common.{ap₂, ◌∙◌, to_z, of_z, w64}
use Rattle.whole.specs.Number.{min_z, floor_div}
use Rattle.whole.specs.Signs.{came}
use Rattle.whole.specs.Whole.{whole, facts, by}
use Rattle.whole.proofs.Extremes.{int_min-is}
use Rattle.rules.specs.Account.{lg_value}
use Rattle.rules.specs.AccountLaws.{account_facts}
use Rattle.rules.proofs.accounts.lg_value.Goals as goal

pub overflow_mul-account : goal.overflow_mul-account
overflow_mul-account c = let i = account_facts c.args.account c.requires in by (search whole depth 20) (omega facts)

pub returns : goal.returns
unfolding lg_value
returns c =
    let i = account_facts c.args.account c.requires in
    let v : to_z w64 (of_z w64 (int_div (to_z w64 (of_z w64 (to_z w64 (of_z w64 c.args.account.guarantee) *ℤ pos 99))) (pos 100))) ≡ floor_div (c.args.account.guarantee *ℤ pos 99) 100 =
    by (search whole depth 20) (omega facts) in
    let w : to_z w64 (of_z w64 c.args.account.cap) ≡ c.args.account.cap = by (search whole depth 20) (omega facts) in
    came c.min.result c.min.type_inv (c.min.ensures.value ∙ int_min-is _ _ ∙ ap₂ min_z v w)

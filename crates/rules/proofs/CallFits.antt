-- The sums of a call on a sound account fit 64 bits, so that a word holds them. Assumes nothing.
use Rattle.std.specs.Prelude.{◌≡◌, true, ℤ, ◌+ℤ◌, ◌-ℤ◌, FitsSigned}
use Rattle.std.proofs.Common.{to_z, of_z, w64}
use Rattle.whole.specs.Whole.{whole, facts, by}
use Rattle.whole.specs.Tests.{in-range}
use Rattle.rules.specs.Sizes.{amount_ok, most_amount}
use Rattle.rules.specs.Account.{account_ok}
use Rattle.rules.specs.AccountLaws.{account_facts}
use Rattle.rules.specs.declared.Account.{Account}

pub deposit_fits : (a : Account) (x : ℤ) → account_ok a ≡ true → amount_ok x ≡ true → FitsSigned w64 (a.cash +ℤ x)
deposit_fits a x e h = let i = account_facts a e in let k = (in-range 1 most_amount x h).high in by (search whole depth 20) (omega facts)

pub withdrawal_fits : (a : Account) (x : ℤ) → account_ok a ≡ true → amount_ok x ≡ true → FitsSigned w64 (a.cash -ℤ x)
withdrawal_fits a x e h = let i = account_facts a e in let k = (in-range 1 most_amount x h).high in by (search whole depth 20) (omega facts)

pub transfer_fits : (a : Account) → account_ok a ≡ true → FitsSigned w64 (a.cash +ℤ a.due0)
transfer_fits a e = let i = account_facts a e in by (search whole depth 20) (omega facts)

-- what a word holds of a sound account's figure, and of the sum
pub deposit_is : (a : Account) (x : ℤ) → account_ok a ≡ true → amount_ok x ≡ true → to_z w64 (of_z w64 (to_z w64 (of_z w64 a.cash) +ℤ to_z w64 (of_z w64 x))) ≡ a.cash +ℤ x
deposit_is a x e h = let i = account_facts a e in let k = (in-range 1 most_amount x h).high in by (search whole depth 20) (omega facts)

pub withdrawal_is : (a : Account) (x : ℤ) → account_ok a ≡ true → amount_ok x ≡ true → to_z w64 (of_z w64 (to_z w64 (of_z w64 a.cash) -ℤ to_z w64 (of_z w64 x))) ≡ a.cash -ℤ x
withdrawal_is a x e h = let i = account_facts a e in let k = (in-range 1 most_amount x h).high in by (search whole depth 20) (omega facts)

pub transfer_is : (a : Account) → account_ok a ≡ true → to_z w64 (of_z w64 (to_z w64 (of_z w64 a.cash) +ℤ to_z w64 (of_z w64 a.due0))) ≡ a.cash +ℤ a.due0
transfer_is a e = let i = account_facts a e in by (search whole depth 20) (omega facts)

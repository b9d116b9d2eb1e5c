-- The new cash is the sum, which fits; past the test of the amount the answer is by the gross after it. Assumes nothing.
use Rattle.std.specs.Prelude.{◌≡◌, leb, ◌+ℤ◌}
use Rattle.std.proofs.Common.{rules}
use Rattle.rules.specs.Sizes.{most_gross}
use Rattle.rules.specs.Account.{gross_of}
use Rattle.rules.specs.AccountCalls.{with_cash, deposited}
use Rattle.rules.proofs.CallFits.{deposit_is}
use Rattle.rules.proofs.calls.deposited.Goals as goal

pub returns-then-not-gross_ok : goal.returns-then-not-gross_ok
unfolding deposited
returns-then-not-gross_ok c =
    let e = deposit_is c.args.account c.args.x c.requires (search rules) in
    let g : c.gross_ok.result ≡ leb (gross_of (with_cash c.args.account (c.args.account.cash +ℤ c.args.x))) most_gross = rw (← e) (search rules) in
    search rules

pub returns : goal.returns
unfolding deposited
returns c = let e = deposit_is c.args.account c.args.x c.requires (search rules) in rw e (search rules)

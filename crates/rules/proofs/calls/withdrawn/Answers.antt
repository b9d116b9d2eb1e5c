-- The rest fits, as the amount and a sound account's cash are bounded. Assumes nothing.
use Rattle.std.proofs.Common.{rules}
use Rattle.rules.specs.AccountCalls.{withdrawn}
use Rattle.rules.proofs.CallFits.{withdrawal_is}
use Rattle.rules.proofs.calls.withdrawn.Goals as goal

pub returns : goal.returns
unfolding withdrawn
returns c = let e = withdrawal_is c.args.account c.args.x c.requires (search rules) in rw e (search rules)

use Rattle.std.proofs.Common.{rules}
use Rattle.rules.proofs.CallFits.{transfer_is}
use Rattle.rules.proofs.calls.transferred.Goals as goal

pub returns : goal.returns
returns c = rw (transfer_is c.args.account c.requires) (search rules)

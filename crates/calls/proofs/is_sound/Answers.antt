-- The ledger's own test.
use Rattle.calls.specs.Ledger.{the_ledger}
use Rattle.calls.proofs.is_sound.Goals as goal

pub returns : goal.returns
unfolding the_ledger
returns c = c.sound.ensures

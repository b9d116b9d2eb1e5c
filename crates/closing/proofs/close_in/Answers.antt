-- `close_in` meets its contract: the first test gives the lengths that the others rely on. Assumes nothing.
use Rattle.std.specs.Prelude.{not}
use Rattle.std.proofs.Common.{ap}
use Rattle.whole.specs.Tests.{holds}
use Rattle.daily.specs.Ranges.{lengths-of}
use Rattle.closing.proofs.close_in.Goals as goal

pub lists_ok-requires-clause-lengths : goal.lists_ok-requires-clause-lengths
lists_ok-requires-clause-lengths c = lengths-of _ _ _ _ _ (holds c.lengths_ok.ensures (ap not c.if-not-lengths_ok.false))

pub close_all-requires-clause-lengths : goal.close_all-requires-clause-lengths
close_all-requires-clause-lengths c = lengths-of _ _ _ _ _ (holds c.lengths_ok.ensures (ap not c.if-not-lengths_ok.false))

-- `of_stretch` is safe: at most 32 events. Assumes nothing.
use Rattle.std.specs.Prelude.{◌≤◌}
use Rattle.histories.proofs.events.of_stretch.Given as goal

abbrev pub invariant-loop-i : goal.invariant-loop-i
invariant-loop-i l = l.count ≤ l.i

-- `total` is safe: at most 32 events of each of 4,000 histories. Assumes nothing.
use Rattle.std.specs.Prelude.{◌*◌, ◌≤◌}
use Rattle.histories.proofs.total.Given as goal

abbrev pub invariant-loop-seed : goal.invariant-loop-seed
invariant-loop-seed l = l.sum ≤ 32 * l.seed

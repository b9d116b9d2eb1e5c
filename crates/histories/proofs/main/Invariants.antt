-- `main` is safe: at most 6 of each of 4,000 histories. Assumes nothing.
use Rattle.std.specs.Prelude.{◌*◌, ◌≤◌}
use Rattle.histories.proofs.main.Given as goal

abbrev pub invariant-loop-seed : goal.invariant-loop-seed
invariant-loop-seed l = l.sum ≤ 6 * l.seed

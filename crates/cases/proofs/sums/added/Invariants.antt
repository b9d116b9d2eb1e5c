-- A sum stays below the modulus, so that no step leaves 64 bits.
use Rattle.std.specs.Prelude.{◌<◌}
use Rattle.cases.proofs.sums.added.Given as goal

abbrev pub invariant-loop-w : goal.invariant-loop-w
invariant-loop-w g l = l.c < 2147483647

-- `divide_digit` meets its contract: the quotient is never too small, and is taken down until it is not too large. Assumes nothing.
use Prim.Native.Nat.{◌+◌, ◌*◌, ◌<◌}
use Rattle.portions.proofs.divide.divide_digit.Given as goal

abbrev pub invariant-loop-quotient : goal.invariant-loop-quotient
invariant-loop-quotient l = l.next < (l.quotient + 1) * l.whole

abbrev pub decreases-loop-quotient : goal.decreases-loop-quotient
decreases-loop-quotient l = l.quotient

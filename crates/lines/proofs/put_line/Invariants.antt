-- What is left of the line, written from here, is the whole of it, written from the start.
use Prim.Native.Nat.{◌+◌, ◌-◌, ◌*◌, ◌≤◌}
use lib.ListN.{length, drop}
use Rattle.lines.specs.Print.{numbers_line}
use Rattle.lines.proofs.WriteLaws.{Wrote}
use Rattle.lines.proofs.put_line.Given as goal

abbrev pub invariant-loop-i : goal.invariant-loop-i
invariant-loop-i l = (l.at + (length l.numbers - l.i) * 22 ≤ length l.out) × Wrote l.initial.out l.from (numbers_line l.numbers) l.out l.at (numbers_line (drop l.i l.numbers))

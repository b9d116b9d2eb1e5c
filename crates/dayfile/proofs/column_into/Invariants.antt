-- What is left of the column, written from here, is the whole of it, written from the start.
use mathlib.Core.Path.{◌≡◌}
use Prim.Native.Nat.{◌-◌, ◌*◌}
use lib.ListN.{length, drop}
use lib.Seq.{sets}
use Rattle.dayfile.specs.CallLines.{column}
use Rattle.dayfile.proofs.column_into.Given as goal

abbrev pub invariant-loop-j : goal.invariant-loop-j
invariant-loop-j l = (length l.out ≡ length l.initial.out) × (sets l.initial.out 0 (column l.k l.p l.figures) ≡ sets l.out l.j (column l.k (l.p - l.j) (drop (l.j * 4) l.figures)))

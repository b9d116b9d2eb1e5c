-- One law serves every section of lines; nothing is held but the place.
use mathlib.Core.Path.{◌≡◌}
use Prim.Native.Nat.{◌+◌}
use lib.ListN.{length}
use Rattle.lines.proofs.LineLaws.{Onward}
use Rattle.dayfile.specs.CallLines.{call_line}
use Rattle.dayfile.proofs.calls.Given as goal

abbrev pub invariant-loop-i : goal.invariant-loop-i
invariant-loop-i l = Onward (call_line l.text l.p) l.count (record { at = l.from.at; line = l.from.line; held = tt }) l.i (record { at = l.at; line = l.from.line + l.i; held = tt }) × (length l.figures ≡ length l.initial.figures)

-- One law serves every section of lines; the words and the marks are held.
use mathlib.Core.Path.{◌≡◌}
use Prim.Native.Nat.{◌+◌}
use lib.ListN.{length}
use Rattle.lines.specs.Lines.{Stand}
use Rattle.lines.proofs.LineLaws.{Onward}
use Rattle.dayfile.specs.Sections.{Stated, position_line}
use Rattle.dayfile.proofs.sections.positions.Given as goal

abbrev pub invariant-loop-i : goal.invariant-loop-i
invariant-loop-i l = let start : Stand Stated = record { at = l.from.at; line = l.from.line; held = record { words = l.initial.words; marks = l.initial.marks } } in
    let here : Stand Stated = record { at = l.at; line = l.from.line + l.i; held = record { words = l.words; marks = l.marks } } in
    Onward (position_line l.text l.s) l.count start l.i here × (length l.words ≡ length l.initial.words) × (length l.marks ≡ length l.initial.marks)

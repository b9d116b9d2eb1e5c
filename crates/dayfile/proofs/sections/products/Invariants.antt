-- Each line is written at its product's place; one law serves every section of lines.
use mathlib.Core.Path.{◌≡◌}
use Prim.Native.Nat.{◌+◌}
use lib.ListN.{length}
use Rattle.lines.proofs.LineLaws.{Onward}
use Rattle.dayfile.specs.Sections.{product_line}
use Rattle.dayfile.proofs.sections.products.Given as goal

abbrev pub invariant-loop-j : goal.invariant-loop-j
invariant-loop-j l = Onward (product_line l.text l.s) l.s.p (record { at = l.from.at; line = l.from.line; held = l.initial.words }) l.j (record { at = l.at; line = l.from.line + l.j; held = l.words })
    × (length l.words ≡ length l.initial.words)

-- Each line is written at its account's place; one law serves every section of lines.
use mathlib.Core.Path.{◌≡◌}
use Prim.Native.Nat.{◌+◌}
use lib.ListN.{length}
use Rattle.lines.proofs.LineLaws.{Onward}
use Rattle.dayfile.specs.Sections.{account_line}
use Rattle.dayfile.proofs.sections.accounts.Given as goal

abbrev pub invariant-loop-a : goal.invariant-loop-a
invariant-loop-a l = Onward (account_line l.text l.s) l.s.n (record { at = l.from.at; line = l.from.line; held = l.initial.words }) l.a (record { at = l.at; line = l.from.line + l.a; held = l.words })
    × (length l.words ≡ length l.initial.words)

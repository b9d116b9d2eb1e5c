-- What is left of the sheet, written from here, is the whole, written from the start; and the ledger is sound at every turn.
use mathlib.Core.Path.{◌≡◌}
use Prim.Native.Nat.{◌+◌, ◌-◌, ◌*◌, ◌≤◌}
use lib.ListN.{length}
use Rattle.places.specs.ByAccount.{by_account}
use Rattle.soundness.specs.SoundLaws.{Ledger}
use Rattle.lines.proofs.WriteLaws.{Wrote}
use Rattle.dayfile.specs.CallLines.{most_figures, calls_at}
use Rattle.calls.specs.Ledger.{the_ledger}
use Rattle.day.specs.Sheet.{calls_part}
use Rattle.day.proofs.run_calls.Given as goal

abbrev pub invariant-loop-done : goal.invariant-loop-done
invariant-loop-done l = (l.put + (l.count - l._done) * 44 + l.s.n * 176 + 28 ≤ length l.out) × (length l.figures ≡ most_figures) × (length l.words ≡ length l.initial.words) × Ledger by_account l.s l.words
    × Wrote l.initial.out l.start (calls_part the_ledger l.s (calls_at l.text l.s.p l.from l.count) l.initial.words) l.out l.put (calls_part the_ledger l.s (calls_at l.text l.s.p l.at (l.count - l._done)) l.words)

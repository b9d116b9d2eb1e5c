-- One account's line more is one account's line less to write; behind the last is the house.
use mathlib.Core.List.{◌++◌}
use Prim.Native.Nat.{◌+◌, ◌-◌, ◌*◌, ◌≤◌}
use lib.ListN.{length}
use Rattle.lines.proofs.WriteLaws.{Wrote}
use Rattle.calls.specs.Ledger.{the_ledger}
use Rattle.day.specs.Sheet.{accounts_part, house_part, end_part}
use Rattle.day.proofs.put_end.Given as goal

abbrev pub invariant-loop-a : goal.invariant-loop-a
invariant-loop-a l = (l.at + (l.s.n - l.a) * 176 + 28 ≤ length l.out)
    × Wrote l.initial.out l.from (end_part the_ledger l.s l.words) l.out l.at (accounts_part the_ledger l.s l.a (l.s.n - l.a) l.words ++ house_part l.s l.words)

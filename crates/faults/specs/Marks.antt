-- Where a byte that is wrong stands.
use Rattle.std.specs.Prelude.{ℕ, ◌<◌, ◌≤◌, List, length, ⊤}
use Rattle.faults.specs.declared.marks.Fault.{Fault}
use Rattle.faults.specs.declared.marks.Fault.TheVariants as F

-- its column, counted from 1, is one of the line
abbrev pub IsWithin : List ℕ → Fault → Type 0
IsWithin line (F.Line words) = ⊤
IsWithin line (F.Byte column wrong) = (0 < column) × (column ≤ length line)

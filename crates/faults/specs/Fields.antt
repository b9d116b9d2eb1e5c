-- How many figures stand in a line: one more than spaces part them.
use Rattle.std.specs.Prelude.{ℕ, suc, ◌==◌, List, count_by}
use Rattle.lines.specs.Lines.{space}

abbrev pub fields : List ℕ → ℕ
fields line = suc (count_by (λ b. b == space) line)

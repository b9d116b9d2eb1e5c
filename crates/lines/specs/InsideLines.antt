-- Words for the contract of the private function `digits`. No contract of a public function cites them.
use Rattle.std.specs.Prelude.{cond, List, ℕ, ◌+◌, ltb, length, drop}
use Rattle.lines.specs.Text.{leading_digits, nat_from}
use Rattle.lines.specs.declared.LeadingDigits.{LeadingDigits}

-- a value, or 2 ^ 63 + 1 where it is past that: no number of 64 bits has either
abbrev pub capped : ℕ → ℕ
capped v = cond (ltb 9223372036854775809 v) 9223372036854775809 v

-- where the digits from a place on end, and their value, capped
unfoldable pub digits_at : List ℕ → ℕ → LeadingDigits
digits_at text at = record { end = at + length (leading_digits (drop at text)); value = capped (nat_from 0 (leading_digits (drop at text))) }

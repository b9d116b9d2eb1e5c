-- The number of a refusal that may be (document 01, "Numbers returned"). A word for contracts behind the call.
use Rattle.std.specs.Prelude.{ℕ, Option, Some, None}
use Rattle.rules.specs.Refusal.{number_of}
use Rattle.rules.specs.declared.refusal.Refusal.{Refusal}

-- 0 where the call is not refused
abbrev pub number : Option Refusal → ℕ
number None = 0
number (Some refusal) = number_of refusal

-- How the sheet is printed: numbers in decimal, a space between, a line feed behind the last (01's example of a sheet).
use Rattle.std.specs.Prelude.{cond, List, [], ◌∷◌, ◌++◌, ℕ, zero, suc, ◌+◌, ◌/◌, ◌%◌, ltb, ℤ, pos, negsuc, length}
use Rattle.lines.specs.Bytes.{bytes}
use Rattle.lines.specs.Lines.{close_of}

-- the digits of a number of at most k digits, 48 that of 0
unfoldable pub digits : ℕ → ℕ → List ℕ
digits zero n = []
digits (suc k) n = cond (ltb n 10) ((48 + n) ∷ []) (digits k (n / 10) ++ ((48 + n % 10) ∷ []))

-- a natural number below 10^20
abbrev pub natural : ℕ → List ℕ
natural n = digits 20 n

-- a minus is 45
unfoldable pub decimal : ℤ → List ℕ
decimal (pos n) = natural n
decimal (negsuc n) = 45 ∷ natural (suc n)

-- a number and what closes its field
abbrev pub field : ℤ → ℕ → List ℕ
field z close = decimal z ++ (close ∷ [])

-- numbers with a space between, and a line feed
unfoldable pub numbers_line : List ℤ → List ℕ
numbers_line [] = []
numbers_line (z ∷ zs) = field z (close_of (length zs)) ++ numbers_line zs

-- `BAD` and a line's number
unfoldable pub bad_line : ℕ → List ℕ
bad_line k = bytes "BAD " ++ numbers_line (pos k ∷ [])

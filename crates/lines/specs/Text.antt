-- What stands at a place of a text: words and decimal numbers (01: "no plus sign, no leading zeros, no -0", "a number past signed 64 bits").
-- A text is a list of bytes, and a place of it a number of bytes.
use Rattle.std.specs.Prelude.{Bool, true, false, cond, List, [], ◌∷◌, Option, Some, None, ℕ, ◌+◌, ◌*◌, ◌-◌, ltb, eqb, ℤ, pos, neg_ℤ, length, drop, get_or}
use Rattle.lines.specs.declared.Numeral.{Numeral}

-- ---- words
-- whether s begins with w
abbrev pub starts_with : List ℕ → List ℕ → Bool
starts_with [] s = true
starts_with (w ∷ ws) [] = false
starts_with (w ∷ ws) (b ∷ bs) = cond (eqb b w) (starts_with ws bs) false

-- the bytes from a place on begin with w
abbrev pub word_at : List ℕ → ℕ → List ℕ → Bool
word_at text at w = starts_with w (drop at text)

-- ---- decimal numbers
-- the bytes of `-`, of the digits 0 and 9
abbrev pub minus_sign : ℕ
minus_sign = 45

abbrev pub zero_digit : ℕ
zero_digit = 48

abbrev pub nine_digit : ℕ
nine_digit = 57

-- the digits that s begins with
abbrev pub leading_digits : List ℕ → List ℕ
leading_digits [] = []
leading_digits (b ∷ bs) = cond (ltb b zero_digit) [] (cond (ltb nine_digit b) [] (b ∷ leading_digits bs))

-- the value of digits that follow a number v
abbrev pub nat_from : ℕ → List ℕ → ℕ
nat_from v [] = v
nat_from v (d ∷ ds) = nat_from (v * 10 + (d - zero_digit)) ds

-- a number that was read, and where it ends
abbrev pub numeral : ℤ → ℕ → Option Numeral
numeral v e = Some (record { value = v; end = e })

-- What digits stand for, by their first one, where they start and end, and their value. The number, and where it ends; or None.
-- After a minus: there is a digit, the first is no 0 (so neither -0 nor -07), and the value is at most 2 ^ 63
abbrev pub minus_of : ℕ → ℕ → ℕ → ℕ → Option Numeral
minus_of lead from end value =
    cond (eqb end from) None
    (cond (eqb lead zero_digit) None
    (cond (ltb 9223372036854775808 value) None
    (numeral (neg_ℤ (pos value)) end)))

-- with no sign: there is a digit, the first is no 0 unless it is the only one, and the value is less than 2 ^ 63
abbrev pub plain_of : ℕ → ℕ → ℕ → ℕ → Option Numeral
plain_of lead from end value =
    cond (eqb end from) None
    (cond (eqb lead zero_digit) (cond (eqb end (from + 1)) (numeral (pos 0) end) None)
    (cond (ltb 9223372036854775807 value) None
    (numeral (pos value) end)))

-- a decimal number at a place: a minus (45) or none, and digits. Any other byte, a plus too, is no digit, and so there is none
unfoldable pub number_at : List ℕ → ℕ → Option Numeral
number_at text at =
    cond (eqb (get_or text at 0) minus_sign)
    (minus_of (get_or text (at + 1) 0) (at + 1) (at + 1 + length (leading_digits (drop (at + 1) text))) (nat_from 0 (leading_digits (drop (at + 1) text))))
    (plain_of (get_or text at 0) at (at + length (leading_digits (drop at text))) (nat_from 0 (leading_digits (drop at text))))

-- The sheet of a text (01, "The day file and the sheet"), over what the ledger does.
use Rattle.std.specs.Prelude.{cond, List, [], ◌∷◌, ◌++◌, ℕ, zero, suc, ◌+◌, ltb, eqb, ℤ, pos, length, drop}
use Rattle.places.specs.declared.Shape.{Shape}
use Rattle.places.specs.Place.{cash, due, house, get}
use Rattle.places.specs.ByAccount.{by_account}
use Rattle.lines.specs.Bytes.{bytes}
use Rattle.lines.specs.Lines.{longest, lost}
use Rattle.lines.specs.Print.{numbers_line, bad_line}
use Rattle.dayfile.specs.CallLines.{Call}
use Rattle.dayfile.specs.Day.{Day, day_of}
use Rattle.rules.specs.declared.Reply.{Reply}
use Rattle.calls.specs.Ledger.{LedgerRules}

-- 01: "number and figure per call"
abbrev pub reply_line : Reply → List ℕ
reply_line r = numbers_line (pos r.number ∷ r.figure ∷ [])

-- 01: "per account its number, cash, three dues, limit, two shortfalls"
abbrev pub account_numbers : LedgerRules → Shape → ℕ → List ℤ → List ℤ
account_numbers l s a words =
    let word = get by_account s words in
    let standing = l.question (pos a) words in
    pos a
    ∷ word (cash a)
    ∷ word (due a 0)
    ∷ word (due a 1)
    ∷ word (due a 2)
    ∷ standing.limit
    ∷ standing.first
    ∷ standing.second
    ∷ []

-- k accounts from number a on
unfoldable pub accounts_part : LedgerRules → (s : Shape) (a k : ℕ) → List ℤ → List ℕ
accounts_part l s a zero words = []
accounts_part l s a (suc k) words = numbers_line (account_numbers l s a words) ++ accounts_part l s (a + 1) k words

-- 01: "then house"
abbrev pub house_part : Shape → List ℤ → List ℕ
house_part s words = bytes "HOUSE " ++ numbers_line (get by_account s words house ∷ [])

abbrev pub end_part : LedgerRules → Shape → List ℤ → List ℕ
end_part l s words = accounts_part l s 0 s.n words ++ house_part s words

-- the calls, each on the words that the calls before it left; then the accounts and the house
unfoldable pub calls_part : LedgerRules → Shape → List Call → List ℤ → List ℕ
calls_part l s [] words = end_part l s words
calls_part l s (c ∷ cs) words = reply_line (l.perform c words).0 ++ calls_part l s cs (l.perform c words).1

unfoldable pub good_sheet : LedgerRules → Day → List ℕ
good_sheet l d = bytes "FXSHEET\n" ++ calls_part l d.shape d.calls d.words

-- 01: "a bad text prints only `BAD` and its first bad line", "an unsound start prints `BAD 0`". Of the two the bad line is printed
unfoldable pub day_sheet : LedgerRules → Day → List ℕ
day_sheet l d = cond (eqb d.at lost) (bad_line d.line) (cond (l.sound d.words) (good_sheet l d) (bad_line 0))

-- 01: "an overlong text prints `BAD 0`", whatever it holds
unfoldable pub sheet_of : LedgerRules → List ℕ → List ℕ
sheet_of l text = cond (ltb longest (length text)) (bad_line 0) (day_sheet l (day_of text))

-- ---- the entry point's answer
-- room for every sheet: `FXSHEET`, 1,000 calls of at most 44 bytes, 64 accounts of at most 176, the house of at most 28
abbrev pub room : ℕ
room = 65536

-- the sheet's length, and a list of bytes that has room, with the sheet at its start; 0 and the list as it was, where it has less
abbrev pub answer_of : (sheet out : List ℕ) → ℕ × List ℕ
answer_of sheet out = cond (ltb (length out) room) (0, out) (length sheet, sheet ++ drop (length sheet) out)

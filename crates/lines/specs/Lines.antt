-- How a text is read: fields, lines, and the first bad line (01: "one space between, every line closed by a line feed"; "a bad text prints
-- only `BAD` and its first bad line, counted from 1"). A reader stands at a place of the text; a place is a number of bytes.
-- What can not be read takes the reader to `lost`, a place past every text: nothing can be read there, so whoever is lost stays lost.
use Rattle.std.specs.Prelude.{cond, List, [], ◌∷◌, Option, Some, None, ℕ, zero, suc, ◌+◌, ltb, eqb, ℤ, pos, length, get_or}
use Rattle.lines.specs.Text.{word_at, number_at}
use Rattle.lines.specs.declared.Numeral.{Numeral}
use Rattle.lines.specs.declared.Field.{Field}
use Rattle.lines.specs.declared.LineStart.{LineStart}

-- 01: "a text of at most 65,536 bytes"
abbrev pub longest : ℕ
longest = 65536

abbrev pub lost : ℕ
lost = longest + 1

abbrev pub space : ℕ
space = 32

abbrev pub line_feed : ℕ
line_feed = 10

-- ---- words and fields
-- the place behind a word that stands at a place
unfoldable pub past : List ℕ → ℕ → List ℕ → ℕ
past text at word = cond (word_at text at word) (at + length word) lost

abbrev pub no_field : Field
no_field = record { value = pos 0; next = lost }

-- a number that was read, and the byte that closes its field
abbrev pub closed_field : List ℕ → ℕ → Option Numeral → Field
closed_field text close None = no_field
closed_field text close (Some n) =
    cond (ltb n.end (length text)) (cond (eqb (get_or text n.end 0) close) (record { value = n.value; next = n.end + 1 }) no_field) no_field

-- the number at a place, closed by a byte; and where the next field starts
unfoldable pub field_at : List ℕ → ℕ → ℕ → Field
field_at text at close = closed_field text close (number_at text at)

-- ---- several fields up to the end of a line: a space after each but the last, a line feed after that
pub record FiguresRead : Type 0 where
  pub values : List ℤ
  pub next : ℕ

abbrev pub follow : ℤ → FiguresRead → FiguresRead
follow v f = record { values = v ∷ f.values; next = f.next }

-- what closes a field after which k more come
abbrev pub close_of : ℕ → ℕ
close_of zero = line_feed
close_of (suc k) = space

unfoldable pub figures_at : List ℕ → ℕ → ℕ → FiguresRead
figures_at text at zero = record { values = []; next = at }
figures_at text at (suc k) = follow (field_at text at (close_of k)).value (figures_at text (field_at text at (close_of k)).next k)

-- a line of kind 0, a word and k figures, or of kind 1, another word and m figures
unfoldable pub kind_at : List ℕ → ℕ → List ℕ → ℕ → List ℕ → ℕ → FiguresRead
kind_at text at zeroth k first m =
    cond (eqb (past text at zeroth) lost) (follow (pos 1) (figures_at text (past text at first) m))
    (follow (pos 0) (figures_at text (past text at zeroth) k))

-- ---- lines, one after another up to the first bad one
-- what reading a line gives: the place of the next line, or lost; and what the reader holds then
pub record Line (M : Type 0) : Type 0 where
  pub next : ℕ
  pub held : M

-- where a reader stands: the place, the number of the line there, and what it holds.
-- A lost reader's line is the bad one
pub record Stand (M : Type 0) : Type 0 where
  pub at : ℕ
  pub line : ℕ
  pub held : M

abbrev pub line_start_of : {M : Type 0} → Stand M → LineStart
line_start_of s = record { at = s.at; line = s.line }

-- past a line: its number goes up by one, unless the line is bad
abbrev pub onward : {M : Type 0} → ℕ → Line M → Stand M
onward line l = record { at = l.next; line = cond (eqb l.next lost) line (line + 1); held = l.held }

-- after a bad line nothing is read
abbrev pub up_to : {M : Type 0} → Stand M → Stand M → Stand M
up_to s rest = cond (eqb s.at lost) s rest

-- k lines, the first of which is number i of its kind
unfoldable pub lines : {M : Type 0} → (ℕ → ℕ → M → Line M) → ℕ → ℕ → Stand M → Stand M
lines read zero i s = s
lines read (suc k) i s =
    let next = onward s.line (read i s.at s.held) in
    up_to next (lines read k (i + 1) next)

-- the number of the first of some places that is lost, counted from k
abbrev pub first_lost : ℕ → List ℕ → ℕ
first_lost k [] = k
first_lost k (a ∷ rest) = cond (eqb a lost) k (first_lost (k + 1) rest)

-- The table of contents (01: "the line `FXDAY`, a table of contents (`PRODUCTS`, `ACCOUNTS`, `POSITIONS`, `CALLS`, each with its count of
-- lines, then `END`)").
use Rattle.std.specs.Prelude.{cond, List, [], ◌∷◌, ℕ, ltb, ℤ, pos, negsuc}
use Rattle.places.specs.declared.Shape.{Shape}
use Rattle.places.specs.Act.{most_accounts, most_products}
use Rattle.lines.specs.Bytes.{bytes}
use Rattle.lines.specs.Lines.{line_feed, lost, past, field_at, first_lost}
use Rattle.dayfile.specs.declared.Counted.{Counted}
use Rattle.dayfile.specs.declared.Contents.{Contents}

-- 01: "calls 0..1,000, positions 0 or more"; a number past signed 64 bits is bad. Accounts and products are bounded as in the ledger's words
abbrev pub most_positions : ℕ
most_positions = 9223372036854775807

abbrev pub most_calls : ℕ
most_calls = 1000

abbrev pub no_count : Counted
no_count = record { count = 0; next = lost }

-- a count that lies between two numbers, else a bad line
abbrev pub count_of : (low high next : ℕ) → ℤ → Counted
count_of low high next (pos k) = cond (ltb k low) no_count (cond (ltb high k) no_count (record { count = k; next = next }))
count_of low high next (negsuc k) = no_count

-- a word and its count
unfoldable pub count_line : (text : List ℕ) (at : ℕ) (word : List ℕ) (low high : ℕ) → Counted
count_line text at word low high =
    let count = field_at text (past text at word) line_feed in
    count_of low high count.next count.value

-- the six lines of the table, at a place: the place behind the first and behind the last, and the counts
abbrev pub past_header : (text : List ℕ) (at : ℕ) → ℕ
past_header text at = past text at (bytes "FXDAY\n")

abbrev pub products_count : (text : List ℕ) (at : ℕ) → Counted
products_count text at = count_line text at (bytes "PRODUCTS ") 1 most_products

abbrev pub accounts_count : (text : List ℕ) (at : ℕ) → Counted
accounts_count text at = count_line text at (bytes "ACCOUNTS ") 1 most_accounts

abbrev pub positions_count : (text : List ℕ) (at : ℕ) → Counted
positions_count text at = count_line text at (bytes "POSITIONS ") 0 most_positions

abbrev pub calls_count : (text : List ℕ) (at : ℕ) → Counted
calls_count text at = count_line text at (bytes "CALLS ") 0 most_calls

abbrev pub past_end : (text : List ℕ) (at : ℕ) → ℕ
past_end text at = past text at (bytes "END\n")

-- what they say: the counts; where the bodies start, or lost; and the number of their first line, or of the bad line
abbrev pub table_of : (first : ℕ) (p n m c : Counted) (end : ℕ) → Contents
table_of first p n m c end = record {
  products = p.count;
  accounts = n.count;
  positions = m.count;
  calls = c.count;
  at = end;
  line = first_lost 1 (first ∷ p.next ∷ n.next ∷ m.next ∷ c.next ∷ end ∷ []);
}

-- the six lines in a row
unfoldable pub contents_of : List ℕ → Contents
contents_of text =
    let first = past_header text 0 in
    let p = products_count text first in
    let n = accounts_count text p.next in
    let m = positions_count text n.next in
    let c = calls_count text m.next in
    let end = past_end text c.next in
    table_of first p n m c end

-- the shape of the ledger that a table announces
abbrev pub ledger_shape : Contents → Shape
ledger_shape c = record { n = c.accounts; p = c.products }

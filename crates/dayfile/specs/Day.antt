-- The day file (01, "The day file and the sheet"): the table of contents, then the bodies, from the first line to the last.
use Rattle.std.specs.Prelude.{cond, List, ℕ, eqb, ℤ, length}
use Rattle.places.specs.declared.Shape.{Shape}
use Rattle.lines.specs.Lines.{lost, Stand}
use Rattle.dayfile.specs.CallLines.{Call, calls_from, calls_at}
use Rattle.dayfile.specs.Sections.{fresh_words, products_from, accounts_from, no_marks, Stated, positions_from}
use Rattle.dayfile.specs.Table.{contents_of, ledger_shape}
use Rattle.dayfile.specs.declared.Contents.{Contents}

-- a ledger's shape and words, and the calls on it; the place behind the last call, or lost; the number of the line there, or of the bad line
pub record Day : Type 0 where
  pub shape : Shape
  pub words : List ℤ
  pub calls : List Call
  pub at : ℕ
  pub line : ℕ

-- behind the last call the text ends: 01, "bytes after the last call make their line bad"
abbrev pub ended : List ℕ → ℕ → ℕ
ended text at = cond (eqb at (length text)) at lost

-- products, accounts and positions in a row, each from where the one before it ended
abbrev pub start_of : List ℕ → Contents → Stand Stated
start_of text c =
    let s = ledger_shape c in
    let products = products_from text c.at c.line s (fresh_words s) in
    let accounts = accounts_from text products.at products.line s products.held in
    positions_from text accounts.at accounts.line s c.positions (record { words = accounts.held; marks = no_marks })

-- and the calls. Nothing is done before all of it is read
unfoldable pub bodies_of : List ℕ → Contents → Day
bodies_of text c =
    let start = start_of text c in
    let calls = calls_from text start.at start.line c.products c.calls in
    record {
      shape = ledger_shape c;
      words = start.held.words;
      calls = calls_at text c.products start.at c.calls;
      at = ended text calls.at;
      line = calls.line;
    }

abbrev pub day_of : List ℕ → Day
day_of text = bodies_of text (contents_of text)

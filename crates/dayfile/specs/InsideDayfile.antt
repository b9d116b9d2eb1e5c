-- Words for the contracts of functions that no caller outside uses: what they require, and what they give, as numbers and lists. No
-- reader of the entry point's contract needs them.
use Rattle.std.specs.Prelude.{◌≡◌, cond, List, Option, Some, None, ℕ, ◌+◌, ◌≤◌, ltb, ℤ}
use Rattle.places.specs.declared.Shape.{Shape}
use Rattle.places.specs.Act.{most_accounts, most_products}
use Rattle.lines.specs.Lines.{Line, Stand, line_start_of}
use Rattle.lines.specs.declared.LineStart.{LineStart}
use Rattle.dayfile.specs.CallLines.{most_figures, figures_of}
use Rattle.dayfile.specs.Day.{start_of, bodies_of}
use Rattle.dayfile.specs.Sections.{Stated, stated}
use Rattle.dayfile.specs.Table.{most_positions, most_calls}
use Rattle.dayfile.specs.declared.Contents.{Contents}
use Rattle.dayfile.specs.declared.Bodies.{Bodies}

-- what a line gave, as a place and two lists
pub record Positioned (l : Line Stated) (next : ℕ) (words : List ℤ) (marks : List ℕ) : Type 0 where
  pub next_is : next ≡ l.next
  pub words_are : words ≡ l.held.words
  pub marks_are : marks ≡ l.held.marks

abbrev pub Statement : Shape → ℕ → ℕ → ℤ → ℤ → ℕ → List ℤ → List ℕ → ℕ → List ℤ → List ℕ → Type 0
Statement s a j q b next words marks r words' marks' = Positioned (stated s a j q b next (record { words = words; marks = marks })) r words' marks'

-- what the lines of all positions gave, as a place and two lists
pub record AllPositioned (e : Stand Stated) (r : LineStart) (words : List ℤ) (marks : List ℕ) : Type 0 where
  pub place_is : r ≡ line_start_of e
  pub words_are : words ≡ e.held.words
  pub marks_are : marks ≡ e.held.marks

-- a number of figures, or none where it is past the most; and back
abbrev pub known : ℕ → Option ℕ
known k = cond (ltb most_figures k) None (Some k)

abbrev pub or_no_call : Option ℕ → ℕ
or_no_call (Some k) = k
or_no_call None = most_figures + 1

-- how many figures a call's line gave
unfoldable pub given_of : ℕ → ℕ → ℕ
given_of p letter = cond (ltb most_figures (figures_of p letter)) 0 (figures_of p letter)

-- what the counts of a table of contents keep to
pub record Modest (c : Contents) : Type 0 where
  pub products_few : c.products ≤ most_products
  pub accounts_few : c.accounts ≤ most_accounts
  pub positions_few : c.positions ≤ most_positions
  pub calls_few : c.calls ≤ most_calls
  pub line_low : c.line ≤ 7

-- what reading the bodies gave, as numbers and lists
pub record Bodied (text : List ℕ) (c : Contents) (r : Bodies) (words : List ℤ) : Type 0 where
  pub at_is : r.at ≡ (bodies_of text c).at
  pub line_is : r.line ≡ (bodies_of text c).line
  pub calls_at_is : r.calls_at ≡ (start_of text c).at
  pub words_are : words ≡ (bodies_of text c).words

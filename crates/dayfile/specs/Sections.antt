-- The bodies but the calls: products, accounts, positions. The ledger's words start as zeros, and each line writes what it states at its
-- place; so "absent ones are 0". Which word a place is says the ledger's layout.
use Rattle.std.specs.Prelude.{cond, List, [], ◌∷◌, ℕ, ◌+◌, ◌-◌, ◌*◌, eqb, ℤ, pos, nat_abs, get_or, replicate, set}
use Rattle.std.proofs.lemmas.List.Edits.{sets}
use Rattle.whole.specs.Number.{is_one_of}
use Rattle.places.specs.declared.Shape.{Shape}
use Rattle.places.specs.Place.{Place, fields, accounts, products, product_kind, kind, lots, book, words_of, ◌≔◌, puts}
use Rattle.places.specs.Act.{most_held}
use Rattle.places.specs.ByAccount.{by_account}
use Rattle.lines.specs.Bytes.{bytes}
use Rattle.lines.specs.Lines.{space, line_feed, lost, field_at, FiguresRead, kind_at, Line, Stand, lines}
use Rattle.dayfile.specs.declared.Holding.{Holding}

-- the words before anything is stated: the numbers of accounts and products, and zeros (01: "Phase and house start at 0")
abbrev pub fresh_words : Shape → List ℤ
fresh_words s = puts by_account s (replicate (words_of s) (pos 0)) ((accounts ≔ pos s.n) ∷ (products ≔ pos s.p) ∷ [])

-- `Y mark price` or `X mark price principal quote`
abbrev pub product_figures : (text : List ℕ) (at : ℕ) → FiguresRead
product_figures text at = kind_at text at (bytes "Y ") 2 (bytes "X ") 4

-- `F` or `L`, then its seven figures: the letter is the kind, and the other words before the positions follow
abbrev pub account_figures : (text : List ℕ) (at : ℕ) → FiguresRead
account_figures text at = kind_at text at (bytes "F ") (fields - 1) (bytes "L ") (fields - 1)

-- the words with a line's figures written in a row, from a place of the ledger on; a layout has a product's words, and an account's, in a row
abbrev pub written : Shape → List ℤ → Place → FiguresRead → Line (List ℤ)
written s words q f = record { next = f.next; held = sets words (by_account.at s q) f.values }

-- the line of product j, and of account a
abbrev pub product_line : (text : List ℕ) (s : Shape) (j at : ℕ) (words : List ℤ) → Line (List ℤ)
product_line text s j at words = written s words (product_kind j) (product_figures text at)

abbrev pub account_line : (text : List ℕ) (s : Shape) (a at : ℕ) (words : List ℤ) → Line (List ℤ)
account_line text s a at words = written s words (kind a) (account_figures text at)

-- the sections of products and accounts, from a place of the text and the number of its line
unfoldable pub products_from : (text : List ℕ) (at line : ℕ) (s : Shape) (words : List ℤ) → Stand (List ℤ)
products_from text at line s words = lines (product_line text s) s.p 0 (record { at = at; line = line; held = words })

unfoldable pub accounts_from : (text : List ℕ) (at line : ℕ) (s : Shape) (words : List ℤ) → Stand (List ℤ)
accounts_from text at line s words = lines (account_line text s) s.n 0 (record { at = at; line = line; held = words })

-- what the position lines so far stated: the words, and a mark for each position stated, that of account a and product j at a × p + j
pub record Stated : Type 0 where
  pub words : List ℤ
  pub marks : List ℕ

-- no position is stated yet
abbrev pub no_marks : List ℕ
no_marks = replicate most_held 0

-- a position is stated once: 01, "a repeat is bad", one of 0 lots and book 0 too
abbrev pub stated : (s : Shape) (a j : ℕ) (q b : ℤ) (next : ℕ) (sofar : Stated) → Line Stated
stated s a j q b next sofar =
    let mark = a * s.p + j in
    let words = puts by_account s sofar.words ((lots a j ≔ q) ∷ (book a j ≔ b) ∷ []) in
    cond (eqb (get_or sofar.marks mark 0) 0)
    (record { next = next; held = record { words = words; marks = set sofar.marks mark 1 } })
    (record { next = lost; held = sofar })

-- `account product lots book`, and the next line
abbrev pub holding_at : (text : List ℕ) (at : ℕ) → Holding
holding_at text at =
    let a = field_at text at space in
    let j = field_at text a.next space in
    let q = field_at text j.next space in
    let b = field_at text q.next line_feed in
    record { account = a.value; product = j.value; lots = q.value; book = b.value; next = b.next }

-- 01, "a position of no account or product" makes its line bad
unfoldable pub position_at : (text : List ℕ) (s : Shape) (at : ℕ) (sofar : Stated) → Line Stated
position_at text s at sofar =
    let h = holding_at text at in
    cond (is_one_of s.n h.account)
    (cond (is_one_of s.p h.product)
    (stated s (nat_abs h.account) (nat_abs h.product) h.lots h.book h.next sofar)
    (record { next = lost; held = sofar }))
    (record { next = lost; held = sofar })

abbrev pub position_line : (text : List ℕ) (s : Shape) (i at : ℕ) (sofar : Stated) → Line Stated
position_line text s i at sofar = position_at text s at sofar

unfoldable pub positions_from : (text : List ℕ) (at line : ℕ) (s : Shape) (count : ℕ) (sofar : Stated) → Stand Stated
positions_from text at line s count sofar = lines (position_line text s) count 0 (record { at = at; line = line; held = sofar })

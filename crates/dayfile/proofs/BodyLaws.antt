-- The bodies, section by section; line numbers stay small. Assumes nothing.
use mathlib.Core.Path.{◌≡◌, refl}
use mathlib.Core.Bool.{Bool, true, false, cond}
use mathlib.Core.List.{List}
use Prim.Native.Nat.{ℕ, zero, suc, ◌+◌, ◌≤◌}
use native.Mathlib.Omega.{arith}
use lib.Dec.{eqb}
use lib.IntN.{ℤ}
use Rattle.places.specs.declared.Shape.{Shape}
use Rattle.lines.specs.Lines.{lost, Line, Stand, line_start_of, onward, lines}
use Rattle.dayfile.specs.CallLines.{calls_from}
use Rattle.dayfile.specs.Day.{ended, start_of, bodies_of}
use Rattle.dayfile.specs.InsideDayfile.{AllPositioned, Bodied}
use Rattle.dayfile.specs.Sections.{fresh_words, no_marks, products_from, accounts_from, Stated, positions_from}
use Rattle.dayfile.specs.Table.{ledger_shape}
use Rattle.lines.specs.declared.LineStart.{LineStart}
use Rattle.dayfile.specs.declared.Contents.{Contents}

module _ {M : Type 0} (read : ℕ → ℕ → M → Line M) where
  line_step : (k : ℕ) (t u : Bool) (a line : ℕ) (h : M) (rest : Stand M) → rest.line ≤ cond t line (line + 1) + k → (cond {A = Stand M} u (record { at = a; line = cond t line (line + 1); held = h }) rest).line ≤ line + suc k
  line_step k true true a line h rest e = omega arith
  line_step k true false a line h rest e = omega arith
  line_step k false true a line h rest e = omega arith
  line_step k false false a line h rest e = omega arith

  pub lines-line : (k i : ℕ) (s : Stand M) → (lines read k i s).line ≤ s.line + k
  unfolding lines
  lines-line zero i s = omega arith
  lines-line (suc k) i s = line_step k (eqb (read i s.at s.held).next lost) (eqb (read i s.at s.held).next lost) (read i s.at s.held).next s.line (read i s.at s.held).held (lines read k (i + 1) (onward s.line (read i s.at s.held))) (lines-line k (i + 1) (onward s.line (read i s.at s.held)))

module _ (text : List ℕ) (at line : ℕ) (s : Shape) where
  pub products-line : (w : List ℤ) → (products_from text at line s w).line ≤ line + s.p
  unfolding products_from
  products-line w = lines-line _ s.p 0 _

  pub accounts-line : (w : List ℤ) → (accounts_from text at line s w).line ≤ line + s.n
  unfolding accounts_from
  accounts-line w = lines-line _ s.n 0 _

  pub positions_line : (m : ℕ) (sofar : Stated) → (positions_from text at line s m sofar).line ≤ line + m
  unfolding positions_from
  positions_line m sofar = lines-line _ m 0 _

-- products, accounts and positions
module _ (text : List ℕ) (c : Contents) where
  abbrev s : Shape
  s = ledger_shape c

  pub start_line : (start_of text c).line ≤ c.line + c.products + c.accounts + c.positions
  start_line =
      let products = products_from text c.at c.line s (fresh_words s) in
      let accounts = accounts_from text products.at products.line s products.held in
      let one = products-line text c.at c.line s (fresh_words s) in
      let two = accounts-line text products.at products.line s products.held in
      omega (arith, positions_line text accounts.at accounts.line s c.positions (record { words = accounts.held; marks = no_marks }))

  module _ (w0 w1 w2 : List ℤ) (m0 : List ℕ) (A B : LineStart) (e0 : w0 ≡ fresh_words s) (em : m0 ≡ no_marks)
      (eA : A ≡ line_start_of (products_from text c.at c.line s w0)) (e1 : w1 ≡ (products_from text c.at c.line s w0).held)
      (eB : B ≡ line_start_of (accounts_from text A.at A.line s w1)) (e2 : w2 ≡ (accounts_from text A.at A.line s w1).held) where
    pub start_is : {D : LineStart} {w3 : List ℤ} {m3 : List ℕ} → AllPositioned (positions_from text B.at B.line s c.positions (record { words = w2; marks = m0 })) D w3 m3
        → (D ≡ line_start_of (start_of text c)) × (w3 ≡ (start_of text c).held.words)
    start_is r = (rw (r.place_is, e2, eB, e1, eA, e0, em) refl, rw (r.words_are, e2, eB, e1, eA, e0, em) refl)

  -- and the calls
  pub bodies_are : (w : List ℤ) (D E : LineStart) (end : ℕ) → D ≡ line_start_of (start_of text c) → w ≡ (start_of text c).held.words → E ≡ line_start_of (calls_from text D.at D.line c.products c.calls) → end ≡ ended text E.at → Bodied text c (record { at = end; line = E.line; calls_at = D.at }) w
  unfolding bodies_of
  bodies_are w D E end d e f g = record { at_is = rw (g, f, d) refl; line_is = rw (f, d) refl; calls_at_is = rw d refl; words_are = e }

-- No sheet is longer than the room that the entry point asks for, and none is empty. Which sheet it is. Assumes nothing.
use mathlib.Core.Path.{◌≡◌, refl, sym, ◌∙◌, ap, subst}
use mathlib.Core.Bool.{Bool, true, false, cond}
use mathlib.Core.List.{List, [], ◌∷◌, ◌++◌}
use Prim.Native.Nat.{ℕ, zero, suc, ◌+◌, ◌*◌, ◌≤◌, ◌<◌}
use native.Mathlib.Omega.{arith}
use borrow.Author.Tests.{eq-eqb, ne_eqb, lt-ltb, le-ltb}
use lib.Dec.{eqb, ltb}
use lib.IntN.{ℤ, pos}
use lib.ListN.{length, drop, length-append}
use lib.Seq.{sets, sets-eq}
use Rattle.places.specs.declared.Shape.{Shape}
use Rattle.places.specs.Place.{house, get}
use Rattle.places.specs.ByAccount.{by_account}
use Rattle.lines.specs.Bytes.{bytes}
use Rattle.lines.specs.Lines.{lost, longest}
use Rattle.lines.specs.Print.{numbers_line, bad_line}
use Rattle.dayfile.proofs.ContentsLaws.{contents_modest}
use Rattle.lines.proofs.PrintLaws.{line-length}
use Rattle.dayfile.specs.CallLines.{call_at, calls_at, Call}
use Rattle.dayfile.specs.Day.{start_of, Day, bodies_of, day_of}
use Rattle.dayfile.specs.InsideDayfile.{Modest, Bodied}
use Rattle.dayfile.specs.Table.{contents_of, ledger_shape}
use Rattle.calls.specs.Ledger.{LedgerRules}
use Rattle.day.specs.Sheet.{reply_line, account_numbers, accounts_part, house_part, end_part, calls_part, good_sheet, day_sheet, sheet_of, room, answer_of}
use Rattle.dayfile.specs.declared.Contents.{Contents}
use Rattle.rules.specs.declared.Reply.{Reply}
use Rattle.dayfile.specs.declared.Bodies.{Bodies}

-- ---- lengths
house-length : (s : Shape) (w : List ℤ) → length (house_part s w) ≤ 28
house-length s w = omega (arith, line-length (get by_account s w house ∷ []))

pub reply-length : (r : Reply) → length (reply_line r) ≤ 44
reply-length r = line-length (pos r.number ∷ r.figure ∷ [])

module _ (l : LedgerRules) (s : Shape) where
  accounts-length : (a k : ℕ) (w : List ℤ) → length (accounts_part l s a k w) ≤ k * 176
  unfolding accounts_part
  accounts-length a zero w = omega arith
  accounts-length a (suc k) w = omega (arith, length-append (numbers_line (account_numbers l s a w)) (accounts_part l s (a + 1) k w), line-length (account_numbers l s a w), accounts-length (a + 1) k w)

  end-length : (w : List ℤ) → length (end_part l s w) ≤ s.n * 176 + 28
  end-length w = omega (arith, length-append (accounts_part l s 0 s.n w) (house_part s w), accounts-length 0 s.n w, house-length s w)

  calls-length : (cs : List Call) (w : List ℤ) → length (calls_part l s cs w) ≤ length cs * 44 + s.n * 176 + 28
  unfolding calls_part
  calls-length [] w = omega (arith, end-length w)
  calls-length (c ∷ cs) w =
      let d = l.perform c w in
      omega (arith, length-append (reply_line d.0) (calls_part l s cs d.1), reply-length d.0, calls-length cs d.1)

calls_count : (text : List ℕ) (p at k : ℕ) → length (calls_at text p at k) ≡ k
unfolding calls_at
calls_count text p at zero = refl
calls_count text p at (suc k) = ap suc (calls_count text p (call_at text p at).next k)

bad_length : (k : ℕ) → length (bad_line k) ≤ 26
unfolding bad_line
bad_length k = omega (arith, line-length (pos k ∷ []))

good_length : (l : LedgerRules) (text : List ℕ) (c : Contents) → Modest c → length (good_sheet l (bodies_of text c)) ≤ room
unfolding good_sheet bodies_of
good_length l text c m =
    let d = bodies_of text c in
    let e : length d.calls ≡ c.calls = calls_count text c.products _ c.calls in
    omega (arith, m, calls-length l (ledger_shape c) d.calls d.words)

cond-low : (t : Bool) (a b : List ℕ) (k : ℕ) → length a ≤ k → length b ≤ k → length (cond t a b) ≤ k
cond-low true a b k p q = p
cond-low false a b k p q = q

day_length : (l : LedgerRules) (text : List ℕ) (c : Contents) → Modest c → length (day_sheet l (bodies_of text c)) ≤ room
unfolding day_sheet
day_length l text c m =
    let d = bodies_of text c in
    cond-low (eqb d.at lost) _ _ room (omega (arith, bad_length d.line)) (cond-low (l.sound d.words) _ _ room (good_length l text c m) (omega (arith, bad_length 0)))

pub sheet_length : (l : LedgerRules) (text : List ℕ) → length (sheet_of l text) ≤ room
unfolding sheet_of
sheet_length l text = cond-low (ltb longest (length text)) _ _ room (omega (arith, bad_length 0)) (day_length l text (contents_of text) (contents_modest text))

-- no sheet is empty
cond-some : (t : Bool) (a b : List ℕ) → 1 ≤ length a → 1 ≤ length b → 1 ≤ length (cond t a b)
cond-some true a b p q = p
cond-some false a b p q = q

bad_some : (k : ℕ) → 1 ≤ length (bad_line k)
unfolding bad_line
bad_some k = omega arith

good-some : (l : LedgerRules) (d : Day) → 1 ≤ length (good_sheet l d)
unfolding good_sheet
good-some l d = omega arith

pub sheet_some : (l : LedgerRules) (text : List ℕ) → 1 ≤ length (sheet_of l text)
unfolding sheet_of day_sheet
sheet_some l text =
    let d = day_of text in
    cond-some (ltb longest (length text)) _ _ (bad_some 0) (cond-some (eqb d.at lost) _ _ (bad_some d.line) (cond-some (l.sound d.words) _ _ (good-some l d) (bad_some 0)))

-- what is written at the start of a list with room
pub sets_first : (s out : List ℕ) → length s ≤ length out → sets out 0 s ≡ s ++ drop (length s) out
sets_first s out h = let e : 0 + length s ≡ length s = omega arith in sets-eq s out 0 (omega arith) ∙ rw e

-- ---- which sheet
pub day_bad : (l : LedgerRules) (d : Day) → d.at ≡ lost → bad_line d.line ≡ day_sheet l d
unfolding day_sheet
day_bad l d e = rw (eq-eqb d.at lost e)

pub day_unsound : (l : LedgerRules) (d : Day) → (d.at ≡ lost → ⊥) → l.sound d.words ≡ false → bad_line 0 ≡ day_sheet l d
unfolding day_sheet
day_unsound l d n e = rw (ne_eqb d.at lost n, e)

day_good : (l : LedgerRules) (d : Day) → (d.at ≡ lost → ⊥) → l.sound d.words ≡ true → good_sheet l d ≡ day_sheet l d
unfolding day_sheet
day_good l d n e = rw (ne_eqb d.at lost n, e)

calls_are : (text : List ℕ) (c : Contents) → (bodies_of text c).calls ≡ calls_at text c.products (start_of text c).at c.calls
unfolding bodies_of
calls_are text c = refl

good_by : (l : LedgerRules) (text : List ℕ) (c : Contents) (r : Bodies) (w : List ℤ) → Bodied text c r w → good_sheet l (bodies_of text c) ≡ bytes "FXSHEET\n" ++ calls_part l (bodies_of text c).shape (calls_at text c.products r.calls_at c.calls) w
unfolding good_sheet
good_by l text c r w b = rw (calls_are text c, b.calls_at_is, b.words_are) refl

pub good-is : (l : LedgerRules) (text : List ℕ) (c : Contents) (r : Bodies) (w : List ℤ) → Bodied text c r w → ((bodies_of text c).at ≡ lost → ⊥) → l.sound (bodies_of text c).words ≡ true → day_sheet l (bodies_of text c) ≡ bytes "FXSHEET\n" ++ calls_part l (ledger_shape c) (calls_at text c.products r.calls_at c.calls) w
unfolding bodies_of
good-is l text c r w b n e = sym (day_good l (bodies_of text c) n e) ∙ good_by l text c r w b

pub sheet_long : (l : LedgerRules) (text : List ℕ) → longest < length text → bad_line 0 ≡ sheet_of l text
unfolding sheet_of
sheet_long l text h = rw (lt-ltb longest (length text) h)

pub sheet_short : (l : LedgerRules) (text : List ℕ) → length text ≤ longest → day_sheet l (day_of text) ≡ sheet_of l text
unfolding sheet_of
sheet_short l text h = rw (le-ltb longest (length text) h)

-- the answer of the entry point, by what was written
pub answer-none : (s out : List ℕ) → length out < room → (0, out) ≡ answer_of s out
answer-none s out h = rw (lt-ltb (length out) room h)

pub answer-is : (l : LedgerRules) (text out s : List ℕ) {r : ℕ} {out' : List ℕ} → room ≤ length out → s ≡ sheet_of l text → r ≡ 0 + length s → out' ≡ sets out 0 s → (r, out') ≡ answer_of (sheet_of l text) out
answer-is l text out s {r} {out'} h e p q =
    let size_is : r ≡ length (sheet_of l text) = omega (arith, p, ap length e) in
    let out_is = q ∙ ap (λ (x : List ℕ). sets out 0 x) e ∙ sets_first (sheet_of l text) out (omega (arith, sheet_length l text)) in
    rw (le-ltb (length out) room h) (λ i. (size_is i, out_is i))

-- the answer counts bytes of the list as it is then
pub answer-within : (s out : List ℕ) {r : ℕ} {out' : List ℕ} → (r, out') ≡ answer_of s out → r ≤ length out'
answer-within s out e = subst (λ (d : ℕ × List ℕ). d.0 ≤ length d.1) (sym e) (within (ltb (length out) room))
  where
    within : (t : Bool) → (cond {A = ℕ × List ℕ} t (0, out) (length s, s ++ drop (length s) out)).0 ≤ length (cond {A = ℕ × List ℕ} t (0, out) (length s, s ++ drop (length s) out)).1
    within true = omega arith
    within false = omega (arith, length-append s (drop (length s) out))

-- `day_sheet` meets its contract: which of the three sheets it is follows from the place and the test; the good one is written in two pieces.
-- Assumes nothing.
use mathlib.Core.Path.{◌≡◌, refl, sym, ◌∙◌, ap, subst}
use mathlib.Core.List.{List, [], append-nil}
use Prim.Native.Nat.{ℕ, ◌+◌}
use native.Mathlib.Omega.{arith}
use lib.IntN.{ℤ}
use lib.ListN.{length}
use lib.Seq.{sets}
use Rattle.lines.specs.Bytes.{bytes}
use Rattle.lines.specs.Lines.{lost}
use Rattle.lines.specs.Print.{bad_line}
use Rattle.lines.proofs.WriteLaws.{wrote_none, wrote_more, wrote_done}
use Rattle.dayfile.specs.CallLines.{calls_at}
use Rattle.dayfile.specs.Day.{bodies_of}
use Rattle.dayfile.specs.Table.{ledger_shape}
use Rattle.dayfile.proofs.HeadLaws.{Head, bodies_head}
use Rattle.places.specs.ByAccount.{by_account}
use Rattle.soundness.specs.SoundLaws.{Ledger}
use Rattle.calls.specs.Ledger.{the_ledger}
use Rattle.day.proofs.StartLaws.{opened}
use Rattle.day.specs.Sheet.{calls_part, day_sheet}
use Rattle.day.proofs.SheetLaws.{day_bad, day_unsound, good-is}
use Rattle.day.proofs.day_sheet.Goals.{After-is_sound, Else-b-eq-LOST, Then-b-eq-LOST}
use Rattle.day.proofs.day_sheet.Goals as goal

-- a bad line
bad : (c : Then-b-eq-LOST) → bad_line c.bodies_into-b.result.line ≡ day_sheet the_ledger (bodies_of c.args.text.now c.args.c)
bad c =
    let b = c.bodies_into-b.ensures in
    ap bad_line b.line_is ∙ day_bad the_ledger (bodies_of c.args.text.now c.args.c) (sym b.at_is ∙ c.if-b-eq-LOST.true)

-- none, and then what the test of the words gave
none-bad : (c : Else-b-eq-LOST) → (bodies_of c.args.text.now c.args.c).at ≡ lost → ⊥
none-bad c q = c.if-b-eq-LOST.false (c.bodies_into-b.ensures.at_is ∙ q)

judged : (c : After-is_sound) → the_ledger.sound (bodies_of c.args.text.now c.args.c).words ≡ c.is_sound.result
judged c = ap (λ (w : List ℤ). the_ledger.sound w) (sym c.bodies_into-b.ensures.words_are) ∙ sym c.is_sound.ensures

-- a sheet that is one line
written : (before : List ℕ) {r : ℕ} {after said sheet : List ℕ} → said ≡ sheet → (r ≡ 0 + length said) × (after ≡ sets before 0 said) → (r ≡ 0 + length sheet) × (after ≡ sets before 0 sheet)
written before {r} {after} e = subst (λ s. (r ≡ 0 + length s) × (after ≡ sets before 0 s)) e

pub returns-then-b-eq-LOST : goal.returns-then-b-eq-LOST
returns-then-b-eq-LOST c = written _ (bad (goal.at.returns-then-b-eq-LOST c).Then-b-eq-LOST) c.put_bad.ensures

pub run_calls-requires : goal.run_calls-requires
run_calls-requires c = let t = c in
    let d = t in
    let a = d.args in
    let m = d.requires.fact_1 in
    let w = c.put_word-start in
    let shape = ledger_shape a.c in
    let stated = subst (Head shape) (sym d.bodies_into-b.ensures.words_are) (bodies_head a.text.now a.c) in
    let start : Ledger by_account shape d.bodies_into-b.new.words =
    opened shape d.bodies_into-b.new.words stated m.accounts_few m.products_few
    (sym t.is_sound.ensures ∙ t.if-not-is_sound.false) in
    record { fact_1 = start; fact_2 = omega (arith, m, w.ensures.0, w.auto.out, d.requires.fact_3) }

pub returns-then-not-is_sound : goal.returns-then-not-is_sound
returns-then-not-is_sound c =
    let t = c in
    written _ (day_unsound the_ledger (bodies_of t.args.text.now t.args.c) (none-bad (goal.at.returns-then-not-is_sound t).Else-b-eq-LOST) (judged (goal.at.returns-then-not-is_sound t).After-is_sound ∙ t.if-not-is_sound.true)) c.put_bad-then-not-is_sound.ensures

pub returns : goal.returns
returns c =
    let t = c in
    let d = t in
    let a = d.args in
    let r = d.bodies_into-b in
    let w = c.put_word-start.ensures in
    let k = c.run_calls.ensures in
    let rest = calls_part the_ledger (ledger_shape a.c) (calls_at a.text.now a.c.products r.result.calls_at a.c.calls) d.bodies_into-b.new.words in
    let e = good-is the_ledger a.text.now a.c r.result d.bodies_into-b.new.words r.ensures (none-bad (goal.at.returns t).Else-b-eq-LOST) (judged (goal.at.returns t).After-is_sound ∙ t.if-not-is_sound.false) in
    let w1 = wrote_more (wrote_none a.out.now 0 (day_sheet the_ledger (bodies_of d.args.text.now d.args.c))) (bytes "FXSHEET\n") rest e w.0 w.1 in
    wrote_done (wrote_more w1 rest [] (sym (append-nil rest)) k.0 k.1) refl

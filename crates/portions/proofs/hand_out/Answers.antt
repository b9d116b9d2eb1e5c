-- `hand_out` meets its contract: the members passed have their yen. Assumes nothing.
use mathlib.Core.Path.{◌≡◌, refl, ap, ◌∙◌}
use mathlib.Core.Bool.{Bool, true, false, not}
use Prim.Native.Nat.{◌≤◌}
use native.Mathlib.Omega.{arith}
use lib.IntN.{ℤ, pos, nat_abs, ◌+ℤ◌}
use lib.ListN.{get_or, length-set}
use mir.Syntax.{w64}
use mir.Val.{to_z, of_z, bool_byte, SFits}
use Rattle.whole.specs.Counting.{one_if}
use Rattle.whole.specs.Listed.{filled_none, filled_next, filled-step}
use Rattle.whole.specs.Signs.{arg}
use Rattle.whole.specs.Reps.{reads}
use Rattle.whole.specs.Whole.{whole, facts, by}
use Rattle.portions.specs.Bounds.{most_amount}
use Rattle.portions.specs.Share.{of_member, comes_before}
use Rattle.portions.proofs.hand_out.Invariants.{after}
use Rattle.portions.proofs.hand_out.Goals.{In-loop-number, After-from}
use Rattle.portions.proofs.hand_out.Goals as goal

pub loop-number-init : goal.loop-number-init
loop-number-init c = let a = c.args in (refl, filled_none (after a.last.remainder a.last.number a.remainders.now a.out.now) a.out.now)

-- the word that is read is as it was
same : (c : In-loop-number) → to_z w64 (of_z w64 (get_or c.loop-number.out c.loop-number.number (pos 0))) ≡ get_or c.args.out.now c.loop-number.number (pos 0)
same c =
    let a = c.args in
    let o = a.out.now in
    let l = c.loop-number in
    let w : get_or l.out l.number (pos 0) ≡ get_or o l.number (pos 0) =
    ap (λ x. get_or x l.number (pos 0)) l.invariant.1 ∙ filled_next l.number (after a.last.remainder a.last.number a.remainders.now o) o (pos 0) (omega arith)
    in
    rw w (reads c.requires.fact_2 tt l.number)

-- a test as a word is what is counted
counted : (t : Bool) → to_z w64 (of_z w64 (pos (bool_byte t))) ≡ pos (one_if t)
counted true = refl
counted false = refl

-- what is added to it
yen : (c : After-from) →
    let a = c.args in
    let i = c.loop-number.number in
    to_z w64 (of_z w64 c.from.result) ≡ pos (one_if (not (comes_before a.last.remainder a.last.number (of_member a.remainders.now i) i)))
yen c = ap (λ x. to_z w64 (of_z w64 x)) (c.from.ensures ∙ ap (λ t. pos (bool_byte (not t))) c.comes_before.ensures) ∙ counted _

-- and so the new word
fits : (x : ℤ) (t : Bool) → nat_abs x ≤ most_amount → SFits w64 (x +ℤ pos (one_if t))
fits x true h = by (search whole depth 20) (omega facts)
fits x false h = by (search whole depth 20) (omega facts)

goes : (c : After-from) → SFits w64 (to_z w64 (of_z w64 (get_or c.loop-number.out c.loop-number.number (pos 0))) +ℤ to_z w64 (of_z w64 c.from.result))
goes c =
    let a = c.args in
    let i = c.loop-number.number in
    let t = not (comes_before a.last.remainder a.last.number (of_member a.remainders.now i) i) in
    rw (same (goal.at.After-from c).In-loop-number, yen c) (fits (get_or a.out.now i (pos 0)) t (c.requires.fact_2.at i))

pub overflow_add-out : goal.overflow_add-out
overflow_add-out c = goes (goal.at.overflow_add-out c).After-from

pub loop-number-preserved : goal.loop-number-preserved
loop-number-preserved c =
    let a = c.args in
    let l = c.loop-number in
    let o = a.out.now in
    let f = after a.last.remainder a.last.number a.remainders.now o in
    let d = (goal.at.loop-number-preserved c).After-from in
    (length-set l.out l.number _ ∙ l.invariant.0, filled-step l.number f o l.out _ l.invariant.1 (omega arith) (arg (goes d) ∙ rw (same (goal.at.After-from d).In-loop-number, yen d) refl))

-- A byte that is no digit ends the run; a digit goes on with it.
use mathlib.Core.Path.{◌≡◌}
use Prim.Native.Nat.{ℕ}
use lib.ListN.{length}
use native.Mathlib.Omega.{arith}
use Rattle.lines.proofs.TextLaws.{seen_more, seen-large, seen_done, leading_end, leading_other}
use Rattle.lines.proofs.digits.Goals as goal
use Rattle.lines.proofs.digits.Goals.{then-value-gt922337203685477580, else-value-gt922337203685477580}

pub returns-then-not-is_ascii_digit : goal.returns-then-not-is_ascii_digit
returns-then-not-is_ascii_digit c =
    let l = c.loop-i in
    let a = c.args in
    seen_done a.text.now a.at l.i l.value (leading_other a.text.now l.i (omega arith) c.if-not-is_ascii_digit.ensures.cases) l.invariant

pub loop-i-preserved : goal.loop-i-preserved
loop-i-preserved c =
    let l = c.loop-i in
    let a = c.args in
    let d = c.if-not-is_ascii_digit.ensures.cases in
    elim c.if-value-gt922337203685477580.branch [
      | then-value-gt922337203685477580 w ↦ rw w.value-is (seen-large a.text.now a.at l.i l.value (omega arith) (omega arith) (omega arith) l.invariant w.if-value-gt922337203685477580.true)
      | else-value-gt922337203685477580 w ↦ rw (w.value-is, w.from.ensures) (seen_more a.text.now a.at l.i l.value (omega arith) (omega arith) (omega arith) l.invariant w.if-value-gt922337203685477580.false)
    ]

pub returns : goal.returns
returns c =
    let l = c.loop-i in
    let a = c.args in
    let e : ◌≡◌ {A = ℕ} l.i (length a.text.now) = omega arith in
    rw (← e) (seen_done a.text.now a.at l.i l.value (leading_end a.text.now l.i (omega arith)) l.invariant)

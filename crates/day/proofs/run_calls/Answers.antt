-- What is left of the sheet, written from here, is the whole, written from the start; and the ledger is sound at every turn.
use mathlib.Core.Path.{◌≡◌, refl, sym, ap, ◌∙◌, ap₂, subst}
use mathlib.Core.List.{List, [], ◌++◌, append-nil}
use Prim.Native.Nat.{ℕ, ◌+◌, ◌-◌}
use native.Mathlib.Omega.{arith}
use lib.IntN.{ℤ}
use lib.ListN.{get_or}
use Rattle.places.specs.ByAccount.{by_account}
use Rattle.soundness.specs.SoundLaws.{Ledger}
use Rattle.lines.proofs.WriteLaws.{wrote_more, wrote_done}
use Rattle.dayfile.specs.CallLines.{call_at, call_of, calls_at}
use Rattle.day.specs.InsideDay.{done_at}
use Rattle.calls.specs.Ledger.{the_ledger}
use Rattle.calls.specs.LedgerLaws.{keeps}
use Rattle.day.specs.Sheet.{reply_line, end_part, calls_part}
use Rattle.day.proofs.CallsPartLaws.{calls-more, calls-none}
use Rattle.day.proofs.SheetLaws.{reply-length}
use Rattle.day.proofs.run_calls.Goals as goal

pub loop-done-preserved : goal.loop-done-preserved
loop-done-preserved c =
    let l = c.loop-done in
    let a = c.args in let left = c.args.count - l._done in let next = c.args.count - (l._done + 1) in
    let k = c.do_call-t in
    let p = a.s.p in
    let text = a.text.now in
    let done = done_at the_ledger text p l.at l.words in
    let rest = calls_part the_ledger a.s (calls_at text p k.result.at next) k.new.words in
    let e : left - 1 ≡ next = omega arith in
    let rest-is = calls-more the_ledger a.s text l.at left l.words (omega arith)
    ∙ ap (λ (n : ℕ). reply_line done.0 ++ calls_part the_ledger a.s (calls_at text p (call_at text p l.at).next n) done.1) e
    ∙ ap₂ (λ (m : ℕ) (w : List ℤ). reply_line done.0 ++ calls_part the_ledger a.s (calls_at text p m next) w) (sym k.ensures.at_is) (sym k.ensures.words_are) in (
      omega (arith, k.ensures.put_is, k.auto.out, reply-length done.0),
      k.auto.figures ∙ l.invariant.1,
      k.auto.words ∙ l.invariant.2,
      subst (Ledger by_account a.s) (sym k.ensures.words_are) (keeps a.s l.words l.invariant.3 (call_of p (get_or text l.at 0) (call_at text p l.at).values)),
      wrote_more l.invariant.4 (reply_line done.0) rest rest-is k.ensures.put_is k.ensures.out_is,
    )

pub returns : goal.returns
returns c =
    let l = c.loop-done in
    let a = c.args in let left = c.args.count - l._done in let next = c.args.count - (l._done + 1) in
    let k = c.put_end in
    let e = end_part the_ledger a.s l.words in
    wrote_done (wrote_more l.invariant.4 e [] (calls-none the_ledger a.s a.text.now l.at left l.words (omega arith) ∙ sym (append-nil e)) k.ensures.0 k.ensures.1) refl

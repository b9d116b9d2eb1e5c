-- The figures lent to the call are those of its line, so that the call done is the call at the place; its reply is printed.
use mathlib.Core.Path.{◌≡◌, sym, ◌∙◌, ap}
use mathlib.Core.List.{List}
use Prim.Native.Nat.{◌+◌, ◌≤◌}
use native.Mathlib.Omega.{arith}
use lib.IntN.{ℤ}
use lib.ListN.{length, take}
use lib.Seq.{sets}
use Rattle.rules.specs.Refusal.{answer_of}
use Rattle.lines.proofs.WriteLaws.{take_figures}
use Rattle.dayfile.specs.CallLines.{call_at, call_of}
use Rattle.dayfile.specs.InsideDayfile.{given_of}
use Rattle.day.specs.InsideDay.{done_at}
use Rattle.calls.specs.Ledger.{the_ledger}
use Rattle.day.specs.Sheet.{reply_line}
use Rattle.day.proofs.CallsPartLaws.{call_length}
use Rattle.rules.specs.declared.Reply.{Reply}
use Rattle.day.proofs.do_call.Goals as goal

pub returns : goal.returns
returns c =
    let a = c.args in
    let g = c.given_of-k in
    let l = c.call_line-next in
    let t = c.act in
    let k = c.put_reply in
    let p = a.s.p in
    let given_is = g.ensures.0 ∙ ap (given_of p) c.letter_there-letter.ensures ∙ sym (call_length a.text.now p a.at) in
    let few : g.result ≤ length a.figures.now = omega (arith, g.ensures.1, c.requires.fact_2) in
    let figures-are = ap (take g.result) l.ensures.1 ∙ take_figures a.figures.now (call_at a.text.now p a.at).values g.result (sym given_is) few in
    let done-is : (answer_of t.result, t.new.words) ≡ done_at the_ledger a.text.now p a.at a.words.now =
    t.ensures ∙ (λ i. the_ledger.perform (call_of p (c.letter_there-letter.ensures i) (figures-are i)) a.words.now) in
    let reply-is : c.from-reply.result ≡ (done_at the_ledger a.text.now p a.at a.words.now).0 = c.from-reply.ensures ∙ ap (λ (d : Reply × List ℤ). d.0) done-is in
    record {
      at_is = l.ensures.0;
      put_is = k.ensures.0 ∙ (λ i. a.put + length (reply_line (reply-is i)));
      words_are = ap (λ (d : Reply × List ℤ). d.1) done-is;
      out_is = k.ensures.1 ∙ (λ i. sets a.out.now a.put (reply_line (reply-is i)));
    }

-- The first account done whose due 0 is not zero. Assumes nothing.
use Rattle.std.specs.Prelude.{◌≡◌, false}
use Rattle.std.proofs.Common.{arith, sym, ap, ◌∙◌}
use Rattle.whole.specs.Number.{is}
use Rattle.whole.specs.CountingLaws.{all-fails}
use Rattle.whole.proofs.Zero.{not_zero-is}
use Rattle.soundness.proofs.run.done_ok.Invariants.{ok}
use Rattle.soundness.proofs.run.done_ok.Goals as goal

pub returns-then-acct_word-ne0 : goal.returns-then-acct_word-ne0
returns-then-acct_word-ne0 c =
    let w = c.acct_word in let W = c.args.words.now in
    let e : ok W c.args.s c.loop-a.a ≡ false = ap (is 0) (sym w.ensures) ∙ not_zero-is w.result c.if-acct_word-ne0.true in
    sym (all-fails c.args.done (ok W c.args.s) c.loop-a.a (omega arith) e)

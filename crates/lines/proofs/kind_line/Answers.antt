-- Which word stands there is told by the place behind it.
use mathlib.Core.Path.{sym, ◌∙◌, ap}
use mathlib.Core.List.{◌∷◌}
use Prim.Native.Nat.{ℕ}
use borrow.Author.Tests.{eq-eqb, ne_eqb}
use lib.IntN.{pos}
use lib.Seq.{sets}
use Rattle.lines.specs.Lines.{past, lost, figures_at, kind_at}
use Rattle.lines.proofs.kind_line.Goals as goal

pub returns-then-y-eq-LOST : goal.returns-then-y-eq-LOST
unfolding kind_at
returns-then-y-eq-LOST c =
    let a = c.args in
    let k = c.kind_and_fields in
    let p = c.past_word-x.ensures in
    let e = eq-eqb (past a.text.now a.at a.zeroth.now) lost (sym c.past_word-y.ensures ∙ c.if-y-eq-LOST.true) in (
      rw e (k.ensures.0 ∙ ap (λ (n : ℕ). (figures_at a.text.now n a.m).next) p),
      rw e (k.ensures.1 ∙ ap (λ (n : ℕ). sets a.words.now a.base (pos 1 ∷ (figures_at a.text.now n a.m).values)) p),
    )

pub returns : goal.returns
unfolding kind_at
returns c =
    let a = c.args in
    let k = c.kind_and_fields-2 in
    let p = c.past_word-y.ensures in
    let e = ne_eqb (past a.text.now a.at a.zeroth.now) lost (λ q. c.if-y-eq-LOST.false (p ∙ q)) in (
      rw e (k.ensures.0 ∙ ap (λ (n : ℕ). (figures_at a.text.now n a.k).next) p),
      rw e (k.ensures.1 ∙ ap (λ (n : ℕ). sets a.words.now a.base (pos 0 ∷ (figures_at a.text.now n a.k).values)) p),
    )

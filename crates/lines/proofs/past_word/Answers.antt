-- A word that stands in the text ends within it, so that the place behind it does not wrap.
use mathlib.Core.Path.{sym, ◌∙◌}
use native.Mathlib.Omega.{arith}
use Rattle.lines.specs.Lines.{past}
use Rattle.lines.proofs.TextLaws.{word_fits}
use Rattle.lines.proofs.past_word.Goals as goal

pub overflow_add-result : goal.overflow_add-result
overflow_add-result c =
    let a = c.args in
    omega (arith, word_fits a.text.now a.at a.word.now (sym c.word_at.ensures ∙ c.if-word_at.true))

pub returns-then-word_at : goal.returns-then-word_at
unfolding past
returns-then-word_at c = rw (sym c.word_at.ensures ∙ c.if-word_at.true)

pub returns : goal.returns
unfolding past
returns c = rw (sym c.word_at.ensures ∙ c.if-word_at.false)

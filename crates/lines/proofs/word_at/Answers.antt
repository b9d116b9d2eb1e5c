-- The library's test of a prefix is that of the definition.
use mathlib.Core.Path.{◌∙◌}
use Rattle.lines.proofs.TextLaws.{word_there}
use Rattle.lines.proofs.word_at.Goals as goal

pub returns : goal.returns
returns c = let a = c.args in c.starts_with.ensures.value ∙ word_there a.text.now a.at c.min.result a.word.now c.min.ensures

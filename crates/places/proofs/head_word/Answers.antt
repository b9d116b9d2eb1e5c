-- `head_word` meets its contract: the word at k is the place `head k`, by the layout's law. Assumes nothing.
use mathlib.Core.Path.{◌∙◌}
use lib.ListN.{get_or}
use lib.IntN.{pos}
use Rattle.whole.specs.Signs.{back}
use Rattle.places.specs.PlaceLaws.{head-word}
use Rattle.places.specs.ByAccount.{by_account}
use Rattle.places.proofs.head_word.Goals as goal

pub returns : goal.returns
returns c =
    let s = c in
    back (get_or s.args.words.now s.args.k (pos 0)) c.result-1.given ∙ head-word by_account s.args.s s.args.words.now s.args.k

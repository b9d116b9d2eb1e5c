-- `put_head` meets its contract: a store at k is a put at `head k`. Assumes nothing.
use mathlib.Core.Path.{ap, ◌∙◌}
use lib.ListN.{set}
use Rattle.whole.specs.Signs.{arg}
use Rattle.places.specs.PlaceLaws.{head-put}
use Rattle.places.specs.ByAccount.{by_account}
use Rattle.places.proofs.put_head.Goals as goal

pub returns : goal.returns
returns c =
    ap (set c.args.words.now c.args.k) (arg c.ranges.v) ∙ head-put by_account c.args.s c.args.words.now c.args.k c.args.v

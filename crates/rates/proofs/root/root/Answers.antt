-- `root` meets its contract: the root of 4^k times q, moved back. Assumes nothing.
use mathlib.Core.Path.{◌∙◌}
use Rattle.rates.specs.RootLaws.{root_back}
use Rattle.rates.proofs.root.root.Goals as goal

pub returns : goal.returns
returns c =
    let d = c in let s = d in let t = d.times_up-k in
    c.moved_back.ensures ∙ root_back s.args.q t.result d.large_root-large.result s.requires.fact_2 t.ensures d.large_root-large.ensures

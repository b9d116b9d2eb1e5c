-- `near` meets its contract: a line for either half. Assumes nothing.
use native.Mathlib.Omega.{arith}
use Rattle.rates.specs.RootLaws.{near-below, near-above}
use Rattle.rates.proofs.root.near.Goals as goal

pub returns-then-m-lt8192 : goal.returns-then-m-lt8192
returns-then-m-lt8192 c = near-below c.args.s c.requires.fact_1 (omega arith)

pub returns : goal.returns
returns c = near-above c.args.s c.requires.fact_2 (omega arith)

-- `prod_at` meets its contract: by the layout itself. Assumes nothing.
use mathlib.Core.Path.{refl}
use native.Mathlib.Omega.{arith}
use Rattle.places.specs.ByAccount.{by_account}
use Rattle.places.proofs.prod_at.Goals as goal

pub returns : goal.returns
unfolding by_account
returns c = (refl, omega arith)

-- `held_at` meets its contract: the products of the counts fit; the place is inside by the layout's law. Assumes nothing.
use mathlib.Core.Path.{refl}
use Rattle.places.specs.Place.{held}
use Rattle.places.specs.ByAccount.{by_account}
use Rattle.places.proofs.held_at.Goals as goal

pub returns : goal.returns
unfolding by_account
returns c = (refl, by_account.inside c.args.s (held c.args.a c.args.j c.args.f) c.requires.has)

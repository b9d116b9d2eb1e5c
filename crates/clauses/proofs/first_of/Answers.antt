-- The one at hand is the first that fails.
use Rattle.clauses.proofs.ClauseLaws.{first-fails}
use Rattle.clauses.proofs.first_of.Goals as goal

pub returns-in-Some : goal.returns-in-Some
returns-in-Some g c f h =
    first-fails c.args.n c.loop-i.i f c.in-Some.f c.loop-i-test.true (c.loop-i.invariant f h) (h c.loop-i.i c.loop-i-test.true _ c.in-Some.ensures)

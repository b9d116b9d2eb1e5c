-- `last_owner` meets its contract: when every member is seen, what was found is the cut. Assumes nothing.
use lib.ListN.{length}
use Rattle.portions.specs.Share.{of_member}
use Rattle.portions.specs.Cut.{Seen}
use Rattle.portions.proofs.Remainders.last_owner.Given as goal

abbrev pub invariant-loop-i : goal.invariant-loop-i
invariant-loop-i l =
    let of = l.self.of.now in Seen (length of) (of_member of) l.yen l.i l.cut.last.remainder l.cut.last.number l.cut.next

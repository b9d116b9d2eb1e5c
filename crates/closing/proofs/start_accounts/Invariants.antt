-- `start_accounts` meets its contract: the words are those of the start with the starts of the accounts before a, none of which is a's own
-- (`pass_more`). Assumes nothing.
use mathlib.Core.Path.{◌≡◌}
use Rattle.places.specs.Place.{get, puts, each}
use Rattle.places.specs.ByAccount.{by_account}
use Rattle.closing.specs.Walk.{start_puts}
use Rattle.closing.proofs.start_accounts.Given as goal

abbrev pub invariant-loop-a : goal.invariant-loop-a
invariant-loop-a l = l.words ≡ puts by_account l.s l.initial.words (each l.a (start_puts (get by_account l.s l.initial.words)))

-- `start_account` meets its contract: the first d dues have moved down, and the due after d is still as it was (`pass_more`); then the margin. Assumes nothing.
use mathlib.Core.Path.{◌≡◌}
use Rattle.places.specs.Place.{get, puts, each}
use Rattle.places.specs.ByAccount.{by_account}
use Rattle.closing.specs.Walk.{move_puts}
use Rattle.closing.proofs.start_account.Given as goal

abbrev pub invariant-loop-d : goal.invariant-loop-d
invariant-loop-d l = l.words ≡ puts by_account l.s l.initial.words (each l.d (move_puts (get by_account l.s l.initial.words) l.a))

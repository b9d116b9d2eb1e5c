-- `moved_gross` meets its contract: the loop has the cash and the first d dues, moved down, in size. Assumes nothing.
use mathlib.Core.Path.{◌≡◌}
use Prim.Native.Nat.{ℕ, ◌+◌, ◌*◌, ◌≤◌}
use lib.IntN.{nat_abs}
use Rattle.whole.specs.Counting.{total}
use Rattle.places.specs.Place.{View, get, cash}
use Rattle.places.specs.ByAccount.{by_account}
use Rattle.daily.specs.DailyFigures.{next_due}
use Rattle.daily.proofs.moved_gross.Given as goal

abbrev pub size : View → ℕ → ℕ → ℕ
size g a d = nat_abs (next_due g a d)

abbrev pub invariant-loop-d : goal.invariant-loop-d
invariant-loop-d l = let g = get by_account l.s l.words in
    (l.gross ≡ nat_abs (g (cash l.a)) + total l.d (size g l.a)) × (l.gross ≤ 1000000000000000 + 1000000000000000 * l.d)

-- `stays` meets its contract: what is left of the walk, from the house as it is at a, is the whole walk. Assumes nothing.
use Prim.Native.Nat.{◌-◌, ◌≤◌}
use mathlib.Core.Path.{◌≡◌}
use lib.IntN.{nat_abs}
use Rattle.rules.specs.Sizes.{most_house}
use Rattle.places.specs.Place.{get}
use Rattle.places.specs.ByAccount.{by_account}
use Rattle.soundness.specs.Sound as S
use Rattle.soundness.proofs.run.stays.Given as goal

abbrev pub invariant-loop-a : goal.invariant-loop-a
invariant-loop-a l = (nat_abs l.h ≤ most_house) × (S.stays (l.s.n - l.from) l.house l.from (get by_account l.s l.words) ≡ S.stays (l.s.n - l.a) l.h l.a (get by_account l.s l.words))

-- `accounts_ok` meets its contract: the accounts before a passed. Assumes nothing.
use Prim.Native.Nat.{ℕ}
use mathlib.Core.Path.{◌≡◌}
use mathlib.Core.Bool.{Bool, true}
use mathlib.Core.List.{List}
use lib.IntN.{ℤ}
use Rattle.whole.specs.Counting.{all}
use Rattle.rules.specs.Account.{account_ok}
use Rattle.places.specs.declared.Shape.{Shape}
use Rattle.places.specs.Place.{get}
use Rattle.places.specs.ByAccount.{by_account}
use Rattle.soundness.specs.Sound.{account_at}
use Rattle.soundness.proofs.accounts_ok.Given as goal

abbrev pub ok : List ℤ → Shape → ℕ → Bool
ok W s a = account_ok (account_at (get by_account s W) a)

abbrev pub invariant-loop-a : goal.invariant-loop-a
invariant-loop-a l = (all l.a (ok l.words l.s) ≡ true)

-- The words of a day file that pass the test are a sound ledger of the shape that they state. Assumes nothing.
use mathlib.Core.Path.{◌≡◌, refl, sym, ◌∙◌, ap}
use mathlib.Core.Bool.{true}
use mathlib.Core.List.{List}
use Prim.Native.Nat.{ℕ, zero, suc, ◌≤◌}
use native.Mathlib.Omega.{arith}
use lib.IntN.{ℤ, pos}
use Rattle.whole.specs.Tests.{is_in}
use Rattle.places.specs.Act.{stated_count, most_accounts, most_products, shape_of}
use Rattle.places.specs.declared.Shape.{Shape}
use Rattle.places.specs.PlaceLaws.{head-word}
use Rattle.places.specs.ActLaws.{ledger-at}
use Rattle.places.specs.ByAccount.{by_account}
use Rattle.soundness.specs.Sound.{places_ok}
use Rattle.soundness.specs.SoundLaws.{Ledger}
use Rattle.dayfile.proofs.HeadLaws.{Head}
use Rattle.calls.specs.Ledger.{the_ledger}

-- a count up to its most is what it states
stated-is : (b k : ℕ) → k ≤ b → stated_count b (pos k) ≡ k
stated-is b zero h = refl
stated-is b (suc k) h = rw (is_in 1 b (suc k) (omega arith) h) refl

pub opened : (s : Shape) (W : List ℤ) → Head s W → s.n ≤ most_accounts → s.p ≤ most_products → the_ledger.sound W ≡ true → Ledger by_account s W
unfolding the_ledger
opened s W d few few' e =
    let n-is = ap (stated_count most_accounts) (head-word by_account s W 0 ∙ d.accounts_are) ∙ stated-is most_accounts s.n few in
    let p-is = ap (stated_count most_products) (head-word by_account s W 1 ∙ d.products_are) ∙ stated-is most_products s.p few' in
    let shape_is : shape_of W ≡ s = λ i. record { n = n-is i; p = p-is i } in
    ledger-at places_ok by_account W s e (sym shape_is)

-- `start_accounts` meets its contract: the words are those of the start with the starts of the accounts before a, none of which is a's own
-- (`pass_more`). Assumes nothing.
use mathlib.Core.Path.{◌≡◌, refl, ap}
use mathlib.Core.Bool.{Bool, true, false, cond}
use mathlib.Core.List.{[], ◌∷◌, ◌++◌}
use Prim.Native.Nat.{ℕ, ◌+◌, ◌≤◌, ◌<◌}
use native.Mathlib.Omega.{arith}
use lib.Dec.{ltb}
use lib.IntN.{pos}
use borrow.Author.Tests.{ltb-true, eq-eqb, ne_eqb}
use Rattle.places.specs.declared.Shape.{Shape}
use Rattle.places.specs.Place.{Place, Has, View, ◌≔◌, get, each, dues, margin, due}
use Rattle.places.specs.PlaceLaws.{each_append, each-each, each_same}
use Rattle.places.specs.ByAccount.{by_account}
use Rattle.places.specs.Passes.{Sees, Off, pass_more}
use Rattle.closing.specs.Walk.{move_puts, start_puts}
use Rattle.closing.specs.Written.{account_sees}
use Rattle.closing.proofs.start_accounts.Goals as goal

module _ (s : Shape) (a : ℕ) where
  start-sees : a < s.n → Sees s (account_sees a) (λ g. start_puts g a)
  start-sees h g g' e = ap (λ us. us ++ ((margin a ≔ pos 0) ∷ [])) (each_same dues (move_puts g a) (move_puts g' a) (λ d k. ap (λ z. (due a d ≔ z) ∷ []) (go d (ltb (d + 1) dues) refl)))
    where
      go : (d : ℕ) (t : Bool) → ltb (d + 1) dues ≡ t → cond t (g (due a (d + 1))) (pos 0) ≡ cond t (g' (due a (d + 1))) (pos 0)
      go d true q = let l = ltb-true (d + 1) dues q in e (due a (d + 1)) (h, omega arith) (eq-eqb a a refl)
      go d false q = refl

  started_off : (g : View) → a ≤ s.n → Off s (account_sees a) (each a (start_puts g))
  started_off g k =
      let P : Place → Type 0 = λ q. Has s q × (account_sees a q ≡ false) in
      each-each P a (start_puts g) (λ b l.
      let n = ne_eqb a b (λ q. omega arith) in
      each_append P (each dues (move_puts g b)) ((margin b ≔ pos 0) ∷ []) (each-each P dues (move_puts g b) (λ d h. (((omega arith, omega arith), n), tt))) (((omega arith, omega arith), n), tt))

pub loop-a-preserved : goal.loop-a-preserved
loop-a-preserved c =
    let s = c.args.s in let W = c.args.words.now in let a = c.loop-a.a in
    pass_more by_account s (account_sees a) start_puts a (start-sees s a (omega arith)) W c.loop-a.words c.start_account.new.words c.loop-a.invariant
    (started_off s a (get by_account s W) (omega arith)) c.start_account.ensures

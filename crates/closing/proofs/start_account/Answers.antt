-- `start_account` meets its contract: the first d dues have moved down, and the due after d is still as it was (`pass_more`); then the margin. Assumes nothing.
use mathlib.Core.Path.{◌≡◌, refl, ap, ◌∙◌}
use mathlib.Core.Bool.{Bool, true, false, cond}
use mathlib.Core.List.{[], ◌∷◌}
use Prim.Native.Nat.{ℕ, ◌+◌, ◌≤◌, ◌<◌}
use native.Mathlib.Omega.{arith}
use lib.Dec.{ltb}
use lib.IntN.{pos}
use borrow.Author.Tests.{ltb-true, lt-ltb, le-ltb}
use Rattle.whole.specs.Signs.{came}
use Rattle.places.specs.declared.Shape.{Shape}
use Rattle.places.specs.Place.{Place, head, prod, acct, held, Has, View, ◌≔◌, get, put, each, dues, first_due, due}
use Rattle.places.specs.PlaceLaws.{each-each}
use Rattle.places.specs.ByAccount.{by_account}
use Rattle.places.specs.Passes.{Sees, Off, pass_more}
use Rattle.closing.specs.Walk.{move_puts}
use Rattle.closing.proofs.start_account.Goals as goal

-- the dues after d
abbrev later : ℕ → Place → Bool
later d (head k) = false
later d (prod j f) = false
later d (acct b f) = ltb (first_due + d) f
later d (held b j f) = false

module _ (s : Shape) (a d : ℕ) (h : a < s.n) where
  move-sees : Sees s (later d) (λ g. move_puts g a d)
  move-sees g g' e = ap (λ z. (due a d ≔ z) ∷ []) (go (ltb (d + 1) dues) refl)
    where
      go : (t : Bool) → ltb (d + 1) dues ≡ t → cond t (g (due a (d + 1))) (pos 0) ≡ cond t (g' (due a (d + 1))) (pos 0)
      go true q = let l = ltb-true (d + 1) dues q in e (due a (d + 1)) (h, omega arith) (lt-ltb (first_due + d) (first_due + (d + 1)) (omega arith))
      go false q = refl

  moved-off : (g : View) → d ≤ dues → Off s (later d) (each d (move_puts g a))
  moved-off g k =
      each-each (λ q. Has s q × (later d q ≡ false)) d (move_puts g a) (λ i l. (((h, omega arith), le-ltb (first_due + d) (first_due + i) (omega arith)), tt))

pub loop-d-preserved : goal.loop-d-preserved
loop-d-preserved c =
    let s = c.args.s in let a = c.args.a in let W = c.args.words.now in let d = c.loop-d.d in let X = c.loop-d.words in
    let w = c.next_due-due in let h = c.requires.a_lt_n in
    pass_more by_account s (later d) (λ g. move_puts g a) d (move-sees s a d h) W X c.put_acct.new.words c.loop-d.invariant
    (moved-off s a d h (get by_account s W) (omega arith))
    (c.put_acct.ensures ∙ ap (put by_account s X (due a d)) (came w.result w.type_inv w.ensures))

-- `position_after` meets its contract: a sound position and the changes are far from 64 bits. Assumes nothing.
use mathlib.Core.Path.{◌≡◌, ap₂, ◌∙◌}
use Prim.Native.Nat.{◌≤◌, ◌^◌}
use native.Mathlib.Omega.{arith}
use lib.IntN.{ℤ, nat_abs, ◌+ℤ◌}
use mir.Syntax.{w64}
use mir.Val.{SFits, to_z, of_z}
use Rattle.whole.specs.Number.{within}
use Rattle.whole.specs.Tests.{both, within_true, abs_add}
use Rattle.whole.specs.Signs.{arg, came}
use Rattle.whole.specs.Reps.{small}
use Rattle.rules.specs.Sizes.{most_lots, most_book}
use Rattle.rules.specs.ProductLaws.{book-most}
use Rattle.places.specs.Place.{View, get, product_kind, lots, book}
use Rattle.places.specs.ByAccount.{by_account}
use Rattle.soundness.specs.SoundLaws.{ledger_facts}
use Rattle.ledger.proofs.trading.position_after.Goals.{Start}
use Rattle.ledger.proofs.trading.position_after.Goals as goal

module _ (s : Start) where
  abbrev g : View
  g = get by_account s.args.s s.args.words.now

  abbrev held : ℤ
  held = g (lots s.args.a s.args.j)

  abbrev booked : ℤ
  booked = g (book s.args.a s.args.j)

  position_in : (nat_abs held ≤ most_lots) × (nat_abs booked ≤ 10 ^ 13)
  position_in =
      let k = g (product_kind s.args.j) in
      let h = both (within most_lots held) (within (most_book k) booked) ((ledger_facts by_account s.args.s s.args.words.now s.requires.ledger).held s.args.a s.args.j s.requires.a_lt_n.0 s.requires.a_lt_n.1) in
      let b = within_true (most_book k) booked h.1 in
      (within_true most_lots held h.0, omega (arith, book-most k))

-- a sum that is far from 64 bits, as the machine has it
sum_fits : (x y : ℤ) → nat_abs x ≤ 10 ^ 15 → nat_abs y ≤ 10 ^ 15 → SFits w64 (x +ℤ y)
sum_fits x y h i = small (x +ℤ y) (2 ^ 62) (omega (arith, abs_add x y)) (omega arith)

-- a word that was read, and a change
module _ (r v x y : ℤ) (is : to_z w64 (of_z w64 r) ≡ v) (given : to_z w64 (of_z w64 x) ≡ y) (h : nat_abs v ≤ 10 ^ 15) (i : nat_abs y ≤ 10 ^ 15) where
  sum_is : to_z w64 (of_z w64 r) +ℤ to_z w64 (of_z w64 x) ≡ v +ℤ y
  sum_is = ap₂ ◌+ℤ◌ is given

  fits : SFits w64 (to_z w64 (of_z w64 r) +ℤ to_z w64 (of_z w64 x))
  fits = rw sum_is (sum_fits v y h i)

pub overflow_add-result : goal.overflow_add-result
overflow_add-result c =
    let s = (goal.at.overflow_add-result c).Start in let w = c.held_word in
    fits w.result (held s) c.args.lots c.args.lots (came w.result w.type_inv w.ensures) (arg c.ranges.lots) (omega (arith, (position_in s).0)) c.requires.lots_bound_1

pub overflow_add-result-2 : goal.overflow_add-result-2
overflow_add-result-2 c =
    let s = (goal.at.overflow_add-result-2 c).Start in let w = c.held_word-2 in
    fits w.result (booked s) c.args.book c.args.book (came w.result w.type_inv w.ensures) (arg c.ranges.book) (omega (arith, (position_in s).1)) c.requires.lots_bound_2

pub returns : goal.returns
returns c =
    let s = (goal.at.returns c).Start in let w = c.held_word in let v = c.held_word-2 in
    let l = came w.result w.type_inv w.ensures in let b = came v.result v.type_inv v.ensures in (
      arg (fits w.result (held s) c.args.lots c.args.lots l (arg c.ranges.lots) (omega (arith, (position_in s).0)) c.requires.lots_bound_1) ∙ sum_is w.result (held s) c.args.lots c.args.lots l (arg c.ranges.lots) (omega (arith, (position_in s).0)) c.requires.lots_bound_1,
      arg (fits v.result (booked s) c.args.book c.args.book b (arg c.ranges.book) (omega (arith, (position_in s).1)) c.requires.lots_bound_2) ∙ sum_is v.result (booked s) c.args.book c.args.book b (arg c.ranges.book) (omega (arith, (position_in s).1)) c.requires.lots_bound_2,
    )

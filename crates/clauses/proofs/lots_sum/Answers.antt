-- `sum` is the sum of the lots of the accounts before a, each in range, so that no sum passes 64 bits.
use Prim.Native.Nat.{ℕ, ◌+◌, ◌≤◌}
use native.Mathlib.Omega.{arith}
use native.Mathlib.Nat.{mul-le-mul_right}
use native.Mathlib.Numerals.{add-one}
use mathlib.Core.Path.{◌≡◌, sym, ap, ap₂, ◌∙◌}
use mathlib.Core.Bool.{true}
use mathlib.Core.List.{List}
use lib.IntN.{ℤ, ◌+ℤ◌}
use mir.Syntax.{w64}
use mir.Val.{SFits, to_z, of_z}
use Rattle.whole.specs.Counting as Counting
use Rattle.whole.specs.CountingLaws.{all-at, all-is}
use Rattle.whole.specs.Signs.{arg, came}
use Rattle.whole.specs.Reps.{small}
use Rattle.rules.specs.Sizes.{most_lots}
use Rattle.places.specs.declared.Shape.{Shape}
use Rattle.places.specs.Place.{get, lots}
use Rattle.places.specs.ByAccount.{by_account}
use Rattle.soundness.specs.Sound.{held_ok}
use Rattle.soundness.specs.SoundLaws.{lots_in}
use Rattle.clauses.proofs.lots_sum.Invariants.{lotsOf}
use Prim.Native.Nat.{◌<◌}
use Rattle.clauses.proofs.lots_sum.Goals as goal

-- the sum with the lots of a, the word v
module _ (W : List ℤ) (s : Shape) (j a t : ℕ) (v : ℤ) (few : a + 1 ≤ 64) (below : a < s.n) (ok : Counting.all s.n (held_ok (get by_account s W) j) ≡ true)
    (before : to_z w64 t ≡ Counting.sum a (lotsOf W s j)) (e : to_z w64 (of_z w64 v) ≡ get by_account s W (lots a j)) where
  next_is : to_z w64 t +ℤ to_z w64 (of_z w64 v) ≡ Counting.sum (a + 1) (lotsOf W s j)
  next_is = ap₂ ◌+ℤ◌ before e ∙ ap (λ k. Counting.sum k (lotsOf W s j)) (sym (add-one a))

  passed : Counting.all (a + 1) (held_ok (get by_account s W) j) ≡ true
  passed = all-is (a + 1) (held_ok (get by_account s W) j) (λ i h. all-at s.n (held_ok (get by_account s W) j) ok i (omega arith))

  fits : SFits w64 (to_z w64 t +ℤ to_z w64 (of_z w64 v))
  fits =
      let h = lots_in (get by_account s W) j (a + 1) passed in
      rw next_is (small (Counting.sum (a + 1) (lotsOf W s j)) 64000000 (omega (arith, mul-le-mul_right most_lots few)) (omega arith))

pub overflow_add-sum : goal.overflow_add-sum
overflow_add-sum c =
    let x = c.held_word-sum in
    fits c.args.words.now c.args.s c.args.j c.loop-a.a c.loop-a.sum-bits x.result (omega (arith, c.requires.sized.few)) (omega arith) c.requires.j_value c.loop-a.invariant
    (came x.result x.type_inv x.ensures)

pub loop-a-preserved : goal.loop-a-preserved
loop-a-preserved c =
    let x = c.held_word-sum in
    let few : c.loop-a.a + 1 ≤ 64 = omega (arith, c.requires.sized.few) in
    let e = came x.result x.type_inv x.ensures in
    arg (fits c.args.words.now c.args.s c.args.j c.loop-a.a c.loop-a.sum-bits x.result few (omega arith) c.requires.j_value c.loop-a.invariant e)
    ∙ next_is c.args.words.now c.args.s c.args.j c.loop-a.a c.loop-a.sum-bits x.result few (omega arith) c.requires.j_value c.loop-a.invariant e

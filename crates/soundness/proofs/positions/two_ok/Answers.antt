-- `two_ok` meets its contract: the positions of the accounts before a passed in both products, and `sum` and `rest` are the sums of their lots. Assumes nothing.
use mathlib.Core.Bool.{Bool, true, false, ◌&&◌}
use mathlib.Core.List.{List}
use mathlib.Core.Path.{◌≡◌, refl, sym, ap, ap₂, ◌∙◌}
use Prim.Native.Nat.{ℕ, ◌+◌, ◌≤◌, ◌<◌}
use native.Mathlib.Nat.{mul-le-mul_right}
use native.Mathlib.Numerals.{add-one}
use native.Mathlib.Omega.{arith}
use lib.IntN.{ℤ, ◌+ℤ◌}
use mir.Syntax.{w64}
use mir.Val.{SFits, to_z, of_z}
use Rattle.whole.specs.Number.{is}
use Rattle.whole.specs.Counting.{all, sum}
use Rattle.whole.specs.CountingLaws.{all-fails, all_more}
use Rattle.whole.specs.Reps.{small}
use Rattle.whole.specs.Signs.{arg, came}
use Rattle.whole.specs.Tests.{holds, fails}
use Rattle.whole.proofs.Zero.{bits-is}
use Rattle.rules.specs.Sizes.{most_lots}
use Rattle.places.specs.declared.Shape.{Shape}
use Rattle.places.specs.Place.{View, get, lots}
use Rattle.places.specs.ByAccount.{by_account}
use Rattle.soundness.specs.Sound.{held_ok, positions_ok}
use Rattle.soundness.specs.SoundLaws.{lots_in}
use Rattle.std.proofs.Common.{not, false, ◌&&◌, add-one, ap₂, ◌<◌, mul-le-mul_right}
use Rattle.soundness.proofs.positions.two_ok.Invariants.{Walked}
use Rattle.soundness.proofs.positions.two_ok.Goals as goal

-- of one product, whichever of the two it is: the account a's lots, the word v, are added to the sum t
module _ (W : List ℤ) (s : Shape) (j a t : ℕ) (v : ℤ) (few : a + 1 ≤ 64) (before : Walked W s j a (to_z w64 t)) (ok : held_ok (get by_account s W) j a ≡ true)
    (e : to_z w64 (of_z w64 v) ≡ get by_account s W (lots a j)) where
  abbrev lotsOf : ℕ → ℤ
  lotsOf b = get by_account s W (lots b j)

  passed : all (a + 1) (held_ok (get by_account s W) j) ≡ true
  passed = all_more a (held_ok (get by_account s W) j) before.0 ok

  next_is : to_z w64 t +ℤ to_z w64 (of_z w64 v) ≡ sum (a + 1) lotsOf
  next_is = ap₂ ◌+ℤ◌ before.1 e ∙ ap (λ k. sum k lotsOf) (sym (add-one a))

  fits : SFits w64 (to_z w64 t +ℤ to_z w64 (of_z w64 v))
  fits =
      let h = lots_in (get by_account s W) j (a + 1) passed in
      rw next_is (small (sum (a + 1) lotsOf) 64000000 (omega (arith, mul-le-mul_right most_lots few)) (omega arith))

  walked : Walked W s j (a + 1) (to_z w64 (of_z w64 (to_z w64 t +ℤ to_z w64 (of_z w64 v))))
  walked = (passed, arg fits ∙ next_is)

-- a position out of range
unfit : (n : ℕ) (g : View) (j a : ℕ) → a < n → held_ok g j a ≡ false → positions_ok n g j ≡ false
unfit n g j a h e = rw (all-fails n (held_ok g j) a h e)

-- all accounts walked over
done : (W : List ℤ) (s : Shape) (j a : ℕ) (t : ℤ) → a ≡ s.n → Walked W s j a t → positions_ok s.n (get by_account s W) j ≡ is 0 t
done W s j a t e w =
    let h : all s.n (held_ok (get by_account s W) j) ≡ true = ap (λ k. all k (held_ok (get by_account s W) j)) (sym e) ∙ w.0 in
    let z : t ≡ sum s.n (λ b. get by_account s W (lots b j)) = w.1 ∙ ap (λ k. sum k (λ b. get by_account s W (lots b j))) e in
    rw h (ap (is 0) (sym z))

never : (t : Bool) → (t && false) ≡ false
never true = refl
never false = refl

pub returns-then-not-position_ok : goal.returns-then-not-position_ok
returns-then-not-position_ok c =
    let s = c.args.s in let g = get by_account s c.args.words.now in
    sym (rw (unfit s.n g c.args.j c.loop-a.a (omega arith) (fails c.position_ok.ensures (ap not c.if-not-position_ok.true))))

pub returns-then-not-position_ok-2 : goal.returns-then-not-position_ok-2
returns-then-not-position_ok-2 c =
    let s = c.args.s in let g = get by_account s c.args.words.now in
    sym (rw (unfit s.n g c.args.k c.loop-a.a (omega arith) (fails c.position_ok-in-loop-a.ensures (ap not c.if-not-position_ok-2.true))) (never (positions_ok s.n g c.args.j)))

pub overflow_add-sum : goal.overflow_add-sum
overflow_add-sum c =
    let w = c.held_word-sum in
    fits c.args.words.now c.args.s c.args.j c.loop-a.a c.loop-a.sum-bits w.result (omega (arith, c.requires.sized.few)) c.loop-a.invariant.0
    (holds c.position_ok.ensures (ap not c.if-not-position_ok.false)) (came w.result w.type_inv w.ensures)

pub overflow_add-rest : goal.overflow_add-rest
overflow_add-rest c =
    let w = c.held_word-rest in
    fits c.args.words.now c.args.s c.args.k c.loop-a.a c.loop-a.rest-bits w.result (omega (arith, c.requires.sized.few)) c.loop-a.invariant.1
    (holds c.position_ok-in-loop-a.ensures (ap not c.if-not-position_ok-2.false)) (came w.result w.type_inv w.ensures)

pub loop-a-preserved : goal.loop-a-preserved
loop-a-preserved c =
    let v = c.held_word-sum in let w = c.held_word-rest in (
      walked c.args.words.now c.args.s c.args.j c.loop-a.a c.loop-a.sum-bits v.result (omega (arith, c.requires.sized.few)) c.loop-a.invariant.0
          (holds c.position_ok.ensures (ap not c.if-not-position_ok.false)) (came v.result v.type_inv v.ensures),
      walked c.args.words.now c.args.s c.args.k c.loop-a.a c.loop-a.rest-bits w.result (omega (arith, c.requires.sized.few)) c.loop-a.invariant.1
          (holds c.position_ok-in-loop-a.ensures (ap not c.if-not-position_ok-2.false)) (came w.result w.type_inv w.ensures),
    )

pub returns-then-sum-eq0 : goal.returns-then-sum-eq0
returns-then-sum-eq0 c =
    let W = c.args.words.now in let s = c.args.s in let l = c.loop-a in
    let e : l.a ≡ s.n = omega arith in
    let z : is 0 (to_z w64 l.sum-bits) ≡ true = ap (λ b. is 0 (to_z w64 b)) c.if-sum-eq0.true in
    bits-is l.rest-bits l.auto.rest-fits
    ∙ sym (rw (done W s c.args.j l.a (to_z w64 l.sum-bits) e l.invariant.0, z) (done W s c.args.k l.a (to_z w64 l.rest-bits) e l.invariant.1))

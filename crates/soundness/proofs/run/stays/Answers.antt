-- `stays` meets its contract: what is left of the walk, from the house as it is at a, is the whole walk. Assumes nothing.
use Prim.Native.Nat.{◌+◌, ◌-◌, ◌^◌, ◌≤◌}
use native.Mathlib.Omega.{arith}
use mathlib.Core.Path.{◌≡◌, refl, sym, ap, ◌∙◌}
use mathlib.Core.Bool.{true, ◌&&◌}
use lib.IntN.{ℤ, nat_abs, ◌-ℤ◌}
use mir.Syntax.{w64}
use mir.Val.{to_z, of_z}
use Rattle.whole.specs.Number.{within}
use Rattle.whole.specs.Tests.{holds, fails, within_true, abs_sub}
use Rattle.whole.specs.Signs.{arg, came}
use Rattle.whole.specs.Reps.{small}
use Rattle.rules.specs.Sizes.{most_house, most_gross}
use Rattle.places.specs.Place.{View, get, due}
use Rattle.places.specs.ByAccount.{by_account}
use Rattle.soundness.specs.Sound as S
use Rattle.soundness.specs.SoundLaws.{stays-more}
use Rattle.std.proofs.Common.{not, ℕ, ◌<◌}
use Rattle.soundness.proofs.run.stays.Goals as goal

-- the house after the step of an account: what it was less the account's first due
module _ (h : ℕ) (r d : ℤ) (is : to_z w64 (of_z w64 r) ≡ d) (small_due : nat_abs d ≤ most_gross) (in_range : nat_abs (to_z w64 h) ≤ most_house) where
  next_is : to_z w64 h -ℤ to_z w64 (of_z w64 r) ≡ to_z w64 h -ℤ d
  next_is = ap (λ z. to_z w64 h -ℤ z) is

  back : to_z w64 (of_z w64 (to_z w64 h -ℤ to_z w64 (of_z w64 r))) ≡ to_z w64 h -ℤ d
  back = arg (rw next_is (small (to_z w64 h -ℤ d) (2 ^ 62) (omega (arith, abs_sub (to_z w64 h) d)) (omega arith))) ∙ next_is

-- the walk from a, step by step
module _ (g : View) (n from a : ℕ) (z house h : ℤ) (is : z ≡ house) (below : a < n) (so_far : S.stays (n - from) z from g ≡ S.stays (n - a) h a g) where
  walk : S.stays (n - from) house from g ≡ (within most_house (h -ℤ g (due a 0)) && S.stays (n - (a + 1)) (h -ℤ g (due a 0)) (a + 1) g)
  walk = ap (λ y. S.stays (n - from) y from g) (sym is) ∙ so_far ∙ stays-more n a h g below

pub returns-then-not-within : goal.returns-then-not-within
returns-then-not-within c =
    let g = get by_account c.args.s c.args.words.now in
    let a = c.loop-a.a in
    let h = c.loop-a.h-bits in
    let w = c.acct_word-h in
    let e = back h w.result (g (due a 0)) (came w.result w.type_inv w.ensures) (c.requires.dues_in.at a (omega arith)) c.loop-a.invariant.0 in
    let t = c.within.ensures ∙ ap (within most_house) e in
    let k = walk g c.args.s.n c.args.from a (to_z w64 (of_z w64 c.args.house)) c.args.house (to_z w64 h) (arg c.ranges.house) (omega arith) c.loop-a.invariant.1 in
    sym (k ∙ rw (fails t (ap not c.if-not-within.true)) refl)

pub loop-a-preserved : goal.loop-a-preserved
loop-a-preserved c =
    let g = get by_account c.args.s c.args.words.now in
    let a = c.loop-a.a in
    let h = c.loop-a.h-bits in
    let w = c.acct_word-h in
    let next = to_z w64 h -ℤ g (due a 0) in
    let e = back h w.result (g (due a 0)) (came w.result w.type_inv w.ensures) (c.requires.dues_in.at a (omega arith)) c.loop-a.invariant.0 in
    let ok : within most_house next ≡ true = holds (c.within.ensures ∙ ap (within most_house) e) (ap not c.if-not-within.false) in
    let k = walk g c.args.s.n c.args.from a (to_z w64 (of_z w64 c.args.house)) c.args.house (to_z w64 h) (arg c.ranges.house) (omega arith) c.loop-a.invariant.1 in (
      rw e (within_true most_house next ok),
      ap (λ z. S.stays (c.args.s.n - c.args.from) z c.args.from g) (arg c.ranges.house)
          ∙ k ∙ rw ok (ap (λ z. S.stays (c.args.s.n - (a + 1)) z (a + 1) g) (sym e)),
    )

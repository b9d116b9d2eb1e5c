-- `all_positions_ok` meets its contract: the positions in the products before j passed. Assumes nothing.
use mathlib.Core.Bool.{Bool, true, false, cond, ◌&&◌}
use mathlib.Core.Path.{◌≡◌, refl, sym, ap, ◌∙◌}
use Prim.Native.Nat.{ℕ, ◌+◌, ◌≤◌, ◌<◌}
use native.Mathlib.Omega.{arith}
use lib.Dec.{ltb}
use borrow.Author.Tests.{ltb-true}
use Rattle.whole.specs.Counting.{all}
use Rattle.whole.specs.CountingLaws.{all-fails, all_more}
use Rattle.whole.specs.Tests.{both, holds, fails}
use Rattle.soundness.proofs.positions.all_positions_ok.Invariants.{ok}
use Rattle.std.proofs.Common.{not}
use Rattle.soundness.proofs.positions.all_positions_ok.Goals.{After-beside-k, Start}
use Rattle.soundness.proofs.positions.all_positions_ok.Goals as goal

-- the product beside j, and that both make the test hold up to there
record Beside (j p k : ℕ) : Type 0 where
  pub inside : k < p
  pub ahead : j ≤ k
  pub seen : (f : ℕ → Bool) → all j f ≡ true → f j ≡ true → f k ≡ true → all (k + 1) f ≡ true

beside : (j p k : ℕ) → j < p → k ≡ cond (ltb (j + 1) p) (j + 1) j → Beside j p k
beside j p k h e = go (ltb (j + 1) p) refl e
  where
    go : (t : Bool) → ltb (j + 1) p ≡ t → k ≡ cond t (j + 1) j → Beside j p k
    go true q e = record { inside = omega (arith, ltb-true (j + 1) p q); ahead = omega arith; seen = λ f x y z. rw e (all_more (j + 1) f (all_more j f x y) (ap f (sym e) ∙ z)) }
    go false q e = record { inside = omega arith; ahead = omega arith; seen = λ f x y z. rw e (all_more j f x y) }

one-fails : (p : ℕ) (f : ℕ → Bool) (j k : ℕ) → j < p → k < p → (f j && f k) ≡ false → all p f ≡ false
one-fails p f j k h i e = go (f j) refl e
  where
    go : (t : Bool) → f j ≡ t → (t && f k) ≡ false → all p f ≡ false
    go true q e = all-fails p f k i e
    go false q e = all-fails p f j h q

abbrev test : Start → ℕ → Bool
test s = ok s.args.words.now s.args.s

pair : (b : After-beside-k) → let l = b in Beside l.loop-j.j l.args.s.p b.beside-k.result
pair b = let l = b in beside l.loop-j.j l.args.s.p b.beside-k.result (omega arith) b.beside-k.ensures

pub returns-then-not-two_ok : goal.returns-then-not-two_ok
returns-then-not-two_ok c =
    let t = c in let b = t in let l = b in let s = l in
    sym (one-fails s.args.s.p (test (goal.at.returns-then-not-two_ok s).Start) l.loop-j.j b.beside-k.result (omega arith) (pair (goal.at.returns-then-not-two_ok b).After-beside-k).inside (fails t.two_ok.ensures (ap not c.if-not-two_ok.true)))

pub loop-j-preserved : goal.loop-j-preserved
loop-j-preserved c =
    let t = c in let b = t in let l = b in let s = l in
    let h = both (test (goal.at.loop-j-preserved s).Start l.loop-j.j) (test (goal.at.loop-j-preserved s).Start b.beside-k.result) (holds t.two_ok.ensures (ap not c.if-not-two_ok.false)) in
    (omega (arith, (pair (goal.at.loop-j-preserved b).After-beside-k).inside), (pair (goal.at.loop-j-preserved b).After-beside-k).seen (test (goal.at.loop-j-preserved s).Start) l.loop-j.invariant.1 h.0 h.1)

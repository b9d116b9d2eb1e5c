-- What is written piece by piece is written whole: one law for every loop and every row of calls that prints. Assumes nothing.
use mathlib.Core.Path.{◌≡◌, refl, sym, ◌∙◌, ap}
use mathlib.Core.List.{List, [], ◌∷◌, ◌++◌, append_assoc}
use Prim.Native.Nat.{ℕ, suc, ◌+◌, ◌-◌, ◌≤◌, ◌<◌}
use native.Mathlib.Numerals.{add-one}
use native.Mathlib.Nat.{add-zero, add-suc, suc-add}
use native.Mathlib.Omega.{arith}
use lib.ListN.{length, take, drop, get_or, set, length-append}
use borrow.Rule.Slice.PartMut.{put_mid, Post-is}
use lib.Seq.{sets, sets-eq, length-sets, drop-cons, take_at}

pub sets_append : {X : Type 0} (l : List X) (i : ℕ) (a b : List X) → sets (sets l i a) (i + length a) b ≡ sets l i (a ++ b)
sets_append l i [] b = rw (add-zero i)
sets_append l i (x ∷ a) b = rw (add-suc i (length a), ← suc-add i (length a)) (sets_append (set l i x) (suc i) a b)

pub record Wrote (out₀ : List ℕ) (from : ℕ) (whole : List ℕ) (out : List ℕ) (at : ℕ) (rest : List ℕ) : Type 0 where
  pub same : length out ≡ length out₀
  pub ends : from + length whole ≡ at + length rest
  pub held : sets out₀ from whole ≡ sets out at rest

pub wrote_none : (out : List ℕ) (from : ℕ) (whole : List ℕ) → Wrote out from whole out from whole
wrote_none out from whole = record { same = refl; ends = refl; held = refl }

module _ {out₀ : List ℕ} {from : ℕ} {whole : List ℕ} {out : List ℕ} {at : ℕ} {rest : List ℕ} (w : Wrote out₀ from whole out at rest) where
  pub wrote_more : (piece more : List ℕ) {out' : List ℕ} {r : ℕ} → rest ≡ piece ++ more → r ≡ at + length piece → out' ≡ sets out at piece → Wrote out₀ from whole out' r more
  wrote_more piece more {out'} {r} e p q =
      record {
        same = ap length q ∙ length-sets out at piece ∙ w.same;
        ends = w.ends ∙ ap (λ (l : List ℕ). at + length l) e ∙ omega (arith, length-append piece more, p);
        held =
            w.held ∙ ap (λ (l : List ℕ). sets out at l) e ∙ sym (sets_append out at piece more)
            ∙ ap (λ (n : ℕ). sets (sets out at piece) n more) (sym p) ∙ ap (λ (l : List ℕ). sets l r more) (sym q);
      }

  pub wrote_done : rest ≡ [] → (at ≡ from + length whole) × (out ≡ sets out₀ from whole)
  wrote_done e =
      (sym (w.ends ∙ ap (λ (l : List ℕ). at + length l) e ∙ add-zero at), sym (w.held ∙ ap (λ (l : List ℕ). sets out at l) e))

-- a word, byte by byte
pub word_more : (l w : List ℕ) (at i : ℕ) → i < length w → sets l (at + i) (drop i w) ≡ sets (set l (at + i) (get_or w i 0)) (at + (i + 1)) (drop (i + 1) w)
word_more l w at i h = let e : at + (i + 1) ≡ suc (at + i) = omega arith in rw (e, drop-cons w i 0 h, add-one i) refl

-- a copy over a part of a list is as many stores in a row
pub put_mid-sets : (l copied w : List ℕ) (at : ℕ) → copied ≡ w → at + length w ≤ length l → put_mid at (at + length w - at) l copied ≡ sets l at w
put_mid-sets l copied w at e h = rw (sets-eq w l at h, e, Post-is at (at + length w) l (omega arith)) (sym (append_assoc (take at l) w (drop (at + length w) l)))

-- the figures that a line wrote at the start of a list stand there
pub take_figures : {X : Type 0} (l v : List X) (k : ℕ) → length v ≡ k → k ≤ length l → take k (sets l 0 v) ≡ v
take_figures l v k e h = rw (sets-eq v l 0 (omega (arith, e))) (take_at v (drop (0 + length v) l) k e)

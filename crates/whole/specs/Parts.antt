-- A part `&mut s[at..]` that is lent and comes back: the part is `drop at s`, and the whole is then `take at s ++ ys`, where ys is what the
-- callee left. Assumes nothing.
use Rattle.std.specs.Prelude.{◌≡◌, List, ◌++◌, ℕ, ◌+◌, ◌-◌, length, take, drop, set}
use Rattle.std.proofs.Common.{sym, ap, ap₂, ◌∙◌, append-nil, arith, length-drop, take-append-drop, drop_of_length-le, take_all}
use Rattle.std.proofs.lemmas.List.{take-set-le, drop-set-add}
use borrow.Rule.Slice.PartMut.{put_mid}

module _ {X : Type 0} (s : List X) (at : ℕ) where
  -- what the callee is lent
  pub part_tail : take (length s - at) (drop at s) ≡ drop at s
  part_tail = take_all (length s - at) (drop at s) (omega (arith, length-drop at s))

  -- what the whole is when it is back
  pub put_tail : (ys : List X) → put_mid at (length s - at) s ys ≡ take at s ++ ys
  put_tail ys = ap (λ (l : List X). take at s ++ l) (ap (λ (l : List X). ys ++ l) (drop_of_length-le (drop at s) {i = length s - at} (omega (arith, length-drop at s))) ∙ append-nil ys)

  pub set_tail_two : (i j : ℕ) (v w : X) → set (set s (at + i) v) (at + j) w ≡ take at s ++ set (set (drop at s) i v) j w
  set_tail_two i j v w =
      sym (take-append-drop at (set (set s (at + i) v) (at + j) w))
      ∙ ap₂ ◌++◌
      (take-set-le at (set s (at + i) v) (at + j) w (omega arith) ∙ take-set-le at s (at + i) v (omega arith))
      (drop-set-add at (set s (at + i) v) j w ∙ ap (λ (l : List X). set l j w) (drop-set-add at s i v))

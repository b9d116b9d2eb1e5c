-- What tests of numbers and of two tests together say, and how a test that a function made is used. Assumes nothing.
use Rattle.std.specs.Prelude.{◌≡◌, refl, ◌⊎◌, Bool, true, false, not, ◌&&◌, ℕ, suc, ◌+◌, ◌≤◌, ◌<◌, leb, ltb, ℤ, pos, negsuc, nat_abs, ◌+ℤ◌, ◌-ℤ◌}
use Rattle.std.proofs.Common.{sym, ◌∙◌, inl, inr, arith, leb-true, le-leb, ltb-true, ltb-false}
use Rattle.std.proofs.lemmas.Bool.{not-true, not-false}
use Rattle.whole.specs.Number.{within, between, is_one_of, unless}
use Rattle.whole.specs.Signs.{false_true}
use Rattle.whole.specs.Reps.{leaf}
use Rattle.whole.specs.Whole.{whole, facts, by}

pub both : (a b : Bool) → (a && b) ≡ true → (a ≡ true) × (b ≡ true)
both true b e = (refl, e)
both false b e = absurd (false_true e)

pub none : (a b : Bool) → b ≡ false → (a && b) ≡ false
none true b e = e
none false b e = refl

pub clash : {b : Bool} {A : Type 0} → b ≡ true → b ≡ false → A
clash e f = absurd (false_true (sym f ∙ e))

-- what `if !f(..)` tells, where f returns r, and r is b
pub fails : {r b : Bool} → r ≡ b → not r ≡ true → b ≡ false
fails {r} e h = sym e ∙ not-true r h

pub holds : {r b : Bool} → r ≡ b → not r ≡ false → b ≡ true
holds {r} e h = sym e ∙ not-false r h

-- what holds of the refusal and of the answer holds of the call
pub unless-both : {A : Type 0} (P : A → Type 0) (t : Bool) (refusal o : A) → (t ≡ false → P refusal) → (t ≡ true → P o) → P (unless t refusal o)
unless-both P true refusal o f g = g refl
unless-both P false refusal o f g = f refl

-- what a passed range test says of a number at and above 0
pub record InRange (lo hi : ℕ) (z : ℤ) : Type 0 where
  pub low : lo ≤ nat_abs z
  pub high : nat_abs z ≤ hi
  pub nat : z ≡ pos (nat_abs z)

pub in-range : (lo hi : ℕ) (z : ℤ) → between (pos lo) (pos hi) z ≡ true → InRange lo hi z
in-range lo hi (pos k) e =
    let h = both (leb lo k) (leb k hi) e in
    record { low = leb-true lo k h.0; high = leb-true k hi h.1; nat = refl }
in-range lo hi (negsuc k) e = absurd (false_true e)

-- and back
pub is_in : (lo hi k : ℕ) → lo ≤ k → k ≤ hi → between (pos lo) (pos hi) (pos k) ≡ true
is_in lo hi k h i = rw (le-leb lo k h, le-leb k hi i)

-- what a passed test `is_one_of` says, and back
pub record IsOneOf (n : ℕ) (z : ℤ) : Type 0 where
  pub high : nat_abs z < n
  pub nat : z ≡ pos (nat_abs z)

pub is-one-of : (n : ℕ) (z : ℤ) → is_one_of n z ≡ true → IsOneOf n z
is-one-of n (pos k) e = record { high = ltb-true k n (both (leb 0 k) (ltb k n) e).1; nat = refl }
is-one-of n (negsuc k) e = absurd (false_true e)

pub within_true : (b : ℕ) (z : ℤ) → within b z ≡ true → nat_abs z ≤ b
within_true b z e = leb-true (nat_abs z) b e

-- ---- sizes

pub abs_add : (x y : ℤ) → nat_abs (x +ℤ y) ≤ nat_abs x + nat_abs y
abs_add x y = let l = leaf x in let m = leaf y in by (search whole depth 20) (omega facts)

pub abs_sub : (x y : ℤ) → nat_abs (x -ℤ y) ≤ nat_abs x + nat_abs y
abs_sub x y = let l = leaf x in let m = leaf y in by (search whole depth 20) (omega facts)

pub true_or_false : (t : Bool) → (t ≡ true) ⊎ (t ≡ false)
true_or_false true = inl refl
true_or_false false = inr refl

pub is_false : (t : Bool) → (t ≡ true → ⊥) → t ≡ false
is_false true h = absurd (h refl)
is_false false h = refl

-- an index below n + 1 is below n or is n
pub below-or-last : (k n : ℕ) → k < suc n → (k < n) ⊎ (k ≡ n)
below-or-last k n b = go (ltb k n) refl
  where
    go : (t : Bool) → ltb k n ≡ t → (k < n) ⊎ (k ≡ n)
    go true e = inl (ltb-true k n e)
    go false e = inr (omega (arith, ltb-false k n e))

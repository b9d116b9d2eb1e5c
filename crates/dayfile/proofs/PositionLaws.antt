-- A position's line, by the four fields that were read, and by what they say. Assumes nothing.
use mathlib.Core.Path.{◌≡◌, refl}
use mathlib.Core.Bool.{Bool, true, false, cond}
use mathlib.Core.List.{List}
use Prim.Native.Nat.{ℕ}
use lib.IntN.{ℤ, nat_abs}
use Rattle.std.proofs.Common.{Some, None}
use Rattle.whole.specs.Number.{is_one_of}
use Rattle.places.specs.declared.Shape.{Shape}
use Rattle.lines.specs.Lines.{lost}
use Rattle.dayfile.specs.InsideDayfile.{Positioned}
use Rattle.dayfile.specs.Sections.{Stated, stated, holding_at, position_at}
use Rattle.dayfile.specs.declared.Holding.{Holding}

-- which of n things a number names, or none
pub named_none : (k : ℕ) (b : Bool) → None ≡ cond b (Some k) None → b ≡ false
named_none k true e = cc
named_none k false e = refl

pub named_some : (a k : ℕ) (b : Bool) → Some a ≡ cond b (Some k) None → (b ≡ true) × (a ≡ k)
named_some a k true e = (refl, cc)
named_some a k false e = (cc, cc)

module _ (text : List ℕ) (s : Shape) (at : ℕ) (sofar : Stated) (h : Holding) (e : h ≡ holding_at text at) where
  position_is : position_at text s at sofar
      ≡ cond (is_one_of s.n h.account)
      (cond (is_one_of s.p h.product) (stated s (nat_abs h.account) (nat_abs h.product) h.lots h.book h.next sofar)
      (record { next = lost; held = sofar }))
      (record { next = lost; held = sofar })
  unfolding position_at
  position_is = rw e

  pub position_no-account : is_one_of s.n h.account ≡ false → Positioned (position_at text s at sofar) lost sofar.words sofar.marks
  position_no-account outside = rw (position_is, outside) (record { next_is = refl; words_are = refl; marks_are = refl })

  pub position_no-product : is_one_of s.n h.account ≡ true → is_one_of s.p h.product ≡ false
      → Positioned (position_at text s at sofar) lost sofar.words sofar.marks
  position_no-product one outside = rw (position_is, one, outside) (record { next_is = refl; words_are = refl; marks_are = refl })

  pub position_stated : is_one_of s.n h.account ≡ true → is_one_of s.p h.product ≡ true → {r : ℕ} {w : List ℤ} {m : List ℕ}
      → Positioned (stated s (nat_abs h.account) (nat_abs h.product) h.lots h.book h.next sofar) r w m
      → Positioned (position_at text s at sofar) r w m
  position_stated one too q = rw (position_is, one, too) q

pub stated_by : {v w : List ℤ} {l m : List ℕ} → v ≡ w → l ≡ m → ◌≡◌ {A = Stated} (record { words = v; marks = l }) (record { words = w; marks = m })
stated_by p q = λ x. record { words = p x; marks = q x }

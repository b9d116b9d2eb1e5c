-- A word is 0 where the number that it holds is. Assumes nothing.
use Rattle.std.specs.Prelude.{◌≡◌, true, false, ℕ, eqb, ℤ, pos}
use Rattle.std.proofs.Common.{rules, sym, ap, ◌∙◌, to_z, of_z, w64, SFits, Fits}
use Rattle.std.proofs.lemmas.Int.{to_z-of_z}
use Rattle.whole.specs.Number.{is}

pub zero-is : (r : ℤ) → SFits w64 r → of_z w64 r ≡ 0 → is 0 r ≡ true
zero-is r h e = ap (is 0) (sym (to_z-of_z w64 r h) ∙ ap (to_z w64) e)

not_zero : (r : ℤ) → (r ≡ pos 0 → ⊥) → is 0 r ≡ false
not_zero r h = search rules

pub not_zero-is : (r : ℤ) → (of_z w64 r ≡ 0 → ⊥) → is 0 r ≡ false
not_zero-is r h = not_zero r (λ e. h (ap (of_z w64) e))

pub bits-is : (b : ℕ) → Fits w64 b → eqb b 0 ≡ is 0 (to_z w64 b)
bits-is b h = search rules

-- The opposite of a number that a word holds has its size. That of the least number fits no word, and what it wraps to is the least number again: so a
-- size is right there too, and only the overflow is not. Assumes nothing.
use Rattle.std.specs.Prelude.{◌≡◌, refl, ◌-◌, ◌^◌, ◌<◌, ℕ, ℤ, pos, negsuc, nat_abs, ◌-ℤ◌}
use Rattle.std.proofs.Common.{arith, sym, subst, ⊎_elim, to_z, of_z, w64, SFits}
use Rattle.std.proofs.lemmas.Int.{ints, to_z-of_z}
use Rattle.whole.specs.Tests.{below-or-last}

abbrev size_of_opposite : ℤ → ℕ
size_of_opposite x = nat_abs (to_z w64 (of_z w64 (pos 0 -ℤ x)))

above : (x : ℤ) → nat_abs x < 2 ^ 63 → size_of_opposite x ≡ nat_abs x
above x h = omega (arith, ints)

least : (n : ℕ) → n ≡ 2 ^ 63 - 1 → size_of_opposite (negsuc n) ≡ nat_abs (negsuc n)
least n e = subst (λ k. size_of_opposite (negsuc k) ≡ nat_abs (negsuc k)) (sym e) refl

of_any : (x : ℤ) → SFits w64 x → size_of_opposite x ≡ nat_abs x
of_any (pos n) h = above (pos n) (omega (arith, ints))
of_any (negsuc n) h = ⊎_elim (λ l. above (negsuc n) (omega arith)) (λ e. least n e) (below-or-last n (2 ^ 63 - 1) (omega (arith, ints)))

pub opposite-size : (x : ℤ) → SFits w64 x → nat_abs (to_z w64 (of_z w64 (pos 0 -ℤ to_z w64 (of_z w64 x)))) ≡ nat_abs x
opposite-size x h = rw (to_z-of_z w64 x h) (of_any x h)

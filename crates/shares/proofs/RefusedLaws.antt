-- The number tells the refusal of a loss: its numbers 2, 5 and 8 name no limit and no account. Assumes nothing.
use Rattle.std.specs.Prelude.{◌≡◌, refl, true, false, Bool, cond, ℕ, List, ℤ, pos, length, Option, Some, None}
use Rattle.std.proofs.Common.{sym, ap, ◌∙◌, arith}
use Rattle.rules.specs.Refusal.{number_of}
use Rattle.rules.specs.declared.refusal.Refusal.{Refusal}
use Rattle.rules.proofs.RefusalLaws.{number-some, one-number_of}
use Rattle.whole.specs.Number.{between}
use Rattle.shares.specs.Refused.{number}
use Rattle.shares.specs.Loss.{most_loss, one_length, members_ok, refusal}

one-number : (r q : Option Refusal) → number r ≡ number q → (number r ≡ 11 → ⊥) → (number r ≡ 12 → ⊥) → r ≡ q
one-number None None e h i = refl
one-number None (Some q) e h i = absurd (number-some q (sym e))
one-number (Some r) None e h i = absurd (number-some r e)
one-number (Some r) (Some q) e h i = ap Some (one-number_of r q e h i)

low : (s t u : Bool) (k : ℕ) → cond s (cond t (cond u 0 8) 5) 2 ≡ k → (k ≡ 11 → ⊥) × (k ≡ 12 → ⊥)
low true true true k e = (λ h. absurd (omega arith), λ h. absurd (omega arith))
low true true false k e = (λ h. absurd (omega arith), λ h. absurd (omega arith))
low true false u k e = (λ h. absurd (omega arith), λ h. absurd (omega arith))
low false t u k e = (λ h. absurd (omega arith), λ h. absurd (omega arith))

-- so what `refusals::refusal` promises of its number permits one result alone
pub one-refusal : (loss : ℤ) (deposits differences marks : List ℤ) (first second : ℕ) (r q : Option Refusal)
    → number r ≡ refusal loss deposits differences marks first second → number q ≡ refusal loss deposits differences marks first second → r ≡ q
unfolding refusal
one-refusal loss deposits differences marks first second r q h i =
    let sizes = one_length (length deposits) (length differences) (length marks) first second in
    let l = low sizes (between (pos 0) (pos most_loss) loss) (members_ok deposits differences marks) (number r) (sym h) in
    one-number r q (h ∙ sym i) l.0 l.1

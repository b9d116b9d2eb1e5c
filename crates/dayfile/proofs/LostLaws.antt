-- Who is lost stays lost: at the place past every text nothing can be read. Assumes nothing.
use mathlib.Core.Path.{◌≡◌, refl, sym, ap}
use mathlib.Core.List.{List, ◌∷◌}
use Prim.Native.Nat.{ℕ, zero, suc, ◌≤◌}
use native.Mathlib.Omega.{arith}
use lib.ListN.{length, drop_of_length-le, get_or-eq_default}
use Rattle.lines.specs.Lines.{longest, lost, past, no_field, closed_field, field_at, close_of, figures_at}
use Rattle.lines.proofs.TextLaws.{numeral_none}
use Rattle.dayfile.specs.CallLines.{figures_of, call_at}

module _ (text : List ℕ) (short : length text ≤ longest) where
  pub past-lost : (b : ℕ) (w : List ℕ) → past text lost (b ∷ w) ≡ lost
  unfolding past
  past-lost b w = rw (drop_of_length-le text {i = lost} (omega arith))

  pub field-lost : (close : ℕ) → field_at text lost close ≡ no_field
  unfolding field_at
  field-lost close = ap (closed_field text close) (sym (numeral_none text lost (omega arith)))

  pub figures_lost : (k : ℕ) → (figures_at text lost k).next ≡ lost
  unfolding figures_at
  figures_lost zero = refl
  figures_lost (suc k) = rw (field-lost (close_of k)) (figures_lost k)

  pub call-lost : (p : ℕ) → (call_at text p lost).next ≡ lost
  unfolding call_at figures_of
  call-lost p = rw (get_or-eq_default text 0 {n = lost} (omega arith))

-- A loop over the lines of a section: one law for every line reader. Assumes nothing.
use mathlib.Core.Path.{◌≡◌, refl, sym, ◌∙◌, ap}
use mathlib.Core.Bool.{cond}
use Prim.Native.Nat.{ℕ, zero, suc, ◌+◌, ◌-◌, ◌≤◌, ◌<◌, zero-le}
use native.Mathlib.Omega.{arith}
use native.Mathlib.Nat.{not-suc-le-zero}
use lib.Dec.{eqb}
use borrow.Author.Tests.{eq-eqb, ne_eqb}
use Rattle.lines.specs.Lines.{lost, Line, Stand, onward, lines}

module _ {M : Type 0} (read : ℕ → ℕ → M → Line M) where
  lines_step : (k i : ℕ) (s : Stand M) → 0 < k → lines read k i s ≡ cond (eqb (read i s.at s.held).next lost) (onward s.line (read i s.at s.held)) (lines read (k - 1) (i + 1) (onward s.line (read i s.at s.held)))
  unfolding lines
  lines_step zero i s h = absurd (not-suc-le-zero h)
  lines_step (suc k) i s h = let e : suc k - 1 ≡ k = omega arith in rw e

  -- i lines were good, and the reader stands at s: the whole section ends where what is left of it does
  pub record Onward (count : ℕ) (s₀ : Stand M) (i : ℕ) (s : Stand M) : Type 0 where
    pub low : i ≤ count
    pub grown : s.line ≡ s₀.line + i
    pub goes : lines read count 0 s₀ ≡ lines read (count - i) i s

  pub onward-none : (count : ℕ) (s : Stand M) → Onward count s 0 s
  onward-none count s = record { low = zero-le; grown = omega arith; goes = let e : count - 0 ≡ count = omega arith in rw e }

  pub onward-more : {count : ℕ} {s₀ : Stand M} {i : ℕ} {s : Stand M} → Onward count s₀ i s → i < count → (l : Line M) → l ≡ read i s.at s.held → (l.next ≡ lost → ⊥) → Onward count s₀ (i + 1) (record { at = l.next; line = s₀.line + (i + 1); held = l.held })
  onward-more {count} {s₀} {i} {s} o h l e n =
      record {
        low = omega arith;
        grown = refl;
        goes =
            o.goes ∙ lines_step (count - i) i s (omega arith)
            ∙ ap (λ (x : Line M). cond (eqb x.next lost) (onward s.line x) (lines read (count - i - 1) (i + 1) (onward s.line x))) (sym e)
            ∙ rw (ne_eqb l.next lost n, less, on) refl;
      }
    where
      less : count - i - 1 ≡ count - (i + 1)
      less = omega arith

      on : s.line + 1 ≡ s₀.line + (i + 1)
      on = omega (arith, o.grown)

  pub onward_bad : {count : ℕ} {s₀ : Stand M} {i : ℕ} {s : Stand M} → Onward count s₀ i s → i < count → (l : Line M) → l ≡ read i s.at s.held → l.next ≡ lost → record { at = lost; line = s₀.line + i; held = l.held } ≡ lines read count 0 s₀
  onward_bad {count} {s₀} {i} {s} o h l e n =
      (λ j. record { at = sym n j; line = sym o.grown j; held = l.held })
      ∙ sym
      (o.goes ∙ lines_step (count - i) i s (omega arith)
      ∙ ap (λ (x : Line M). cond (eqb x.next lost) (onward s.line x) (lines read (count - i - 1) (i + 1) (onward s.line x))) (sym e)
      ∙ rw (eq-eqb l.next lost n) refl)

  lines_none : (k i : ℕ) (s : Stand M) → k ≤ 0 → s ≡ lines read k i s
  unfolding lines
  lines_none zero i s h = refl
  lines_none (suc k) i s h = absurd (not-suc-le-zero h)

  pub onward-done : {count : ℕ} {s₀ : Stand M} {i : ℕ} {s : Stand M} → Onward count s₀ i s → count ≤ i → record { at = s.at; line = s₀.line + count; held = s.held } ≡ lines read count 0 s₀
  onward-done {count} {s₀} {i} {s} o h = (λ j. record { at = s.at; line = full j; held = s.held }) ∙ lines_none (count - i) i s (omega arith) ∙ sym o.goes
    where
      full : s₀.line + count ≡ s.line
      full = omega (arith, o.low, o.grown)

pub line_by : {M : Type 0} {n m : ℕ} {g h : M} → n ≡ m → g ≡ h → ◌≡◌ {A = Line M} (record { next = n; held = g }) (record { next = m; held = h })
line_by p q = λ x. record { next = p x; held = q x }

-- A loop over the fields of a line: what is left of the line, written from here on, is the whole of it, written from the start. Assumes nothing.
use mathlib.Core.Path.{◌≡◌, refl, sym, ◌∙◌, ap}
use mathlib.Core.List.{List, []}
use Prim.Native.Nat.{ℕ, zero, suc, ◌+◌, ◌-◌, ◌≤◌, ◌<◌}
use native.Mathlib.Nat.{not-suc-le-zero}
use native.Mathlib.Omega.{arith}
use lib.IntN.{ℤ}
use lib.ListN.{length, set, length-set}
use lib.Seq.{sets}
use Rattle.lines.specs.Lines.{field_at, close_of, FiguresRead, follow, figures_at}
use Rattle.lines.specs.declared.Field.{Field}

figures_step : (text : List ℕ) (at left : ℕ) → 0 < left → figures_at text at left ≡ follow (field_at text at (close_of (left - 1))).value (figures_at text (field_at text at (close_of (left - 1))).next (left - 1))
unfolding figures_at
figures_step text at zero h = absurd (not-suc-le-zero h)
figures_step text at (suc k) h = let e : suc k - 1 ≡ k = omega arith in rw e

filled-end : (text : List ℕ) (at left : ℕ) → left ≤ 0 → figures_at text at left ≡ record { values = []; next = at }
unfolding figures_at
filled-end text at zero h = refl
filled-end text at (suc k) h = absurd (not-suc-le-zero h)

-- what a loop over the fields keeps: what is left of the line, written from here on, is the whole of it, written from the start
pub record Filled (text : List ℕ) (from count : ℕ) (out₀ : List ℤ) (base : ℕ) (out : List ℤ) (at i : ℕ) : Type 0 where
  pub low : base ≤ i
  pub within : i ≤ base + count
  pub room : base + count ≤ length out
  pub same : length out ≡ length out₀
  pub ends : (figures_at text from count).next ≡ (figures_at text at (base + count - i)).next
  pub held : sets out₀ base (figures_at text from count).values ≡ sets out i (figures_at text at (base + count - i)).values

pub filled_more : {text : List ℕ} {from count : ℕ} {out₀ : List ℤ} {base : ℕ} {out : List ℤ} {at i : ℕ} (f : Field) (v : ℤ) → Filled text from count out₀ base out at i → i < base + count → f ≡ field_at text at (close_of (base + count - 1 - i)) → v ≡ f.value → Filled text from count out₀ base (set out i v) f.next (i + 1)
filled_more {text} {from} {count} {out₀} {base} {out} {at} {i} f v s h e d =
    let less : base + count - i - 1 ≡ base + count - (i + 1) = omega arith in
    let left : base + count - 1 - i ≡ base + count - i - 1 = omega arith in
    let on : suc i ≡ i + 1 = omega arith in
    let this : f ≡ field_at text at (close_of (base + count - i - 1)) = e ∙ ap (λ (k : ℕ). field_at text at (close_of k)) left in
    let step = figures_step text at (base + count - i) (omega arith) in
    record {
      low = omega arith;
      within = omega arith;
      room = omega (arith, s.room, length-set out i v);
      same = length-set out i v ∙ s.same;
      ends =
          s.ends ∙ ap (λ (x : FiguresRead). x.next) step ∙ ap (λ (x : Field). (figures_at text x.next (base + count - i - 1)).next) (sym this)
          ∙ ap (λ (k : ℕ). (figures_at text f.next k).next) less;
      held =
          s.held ∙ ap (λ (x : FiguresRead). sets out i x.values) step
          ∙ ap (λ (x : Field). sets (set out i x.value) (suc i) (figures_at text x.next (base + count - i - 1)).values) (sym this)
          ∙ ap (λ (x : ℤ). sets (set out i x) (suc i) (figures_at text f.next (base + count - i - 1)).values) (sym d)
          ∙ (λ j. sets (set out i v) (on j) (figures_at text f.next (less j)).values);
    }

pub filled_done : {text : List ℕ} {from count : ℕ} {out₀ : List ℤ} {base : ℕ} {out : List ℤ} {at i : ℕ} → Filled text from count out₀ base out at i → base + count ≤ i → (at ≡ (figures_at text from count).next) × (out ≡ sets out₀ base (figures_at text from count).values)
filled_done {text} {from} {count} {out₀} {base} {out} {at} {i} s h =
    let e = filled-end text at (base + count - i) (omega arith) in
    (sym (s.ends ∙ ap (λ (f : FiguresRead). f.next) e), sym (s.held ∙ ap (λ (f : FiguresRead). sets out i f.values) e))

-- Laws of calls, of counts, of marks and of a close's columns. Assumes nothing.
use mathlib.Core.Path.{◌≡◌, refl, subst}
use mathlib.Core.Bool.{Bool, true, false, cond}
use mathlib.Core.List.{List, ◌∷◌}
use Prim.Native.Nat.{ℕ, zero, suc, ◌+◌, ◌*◌, ◌-◌, ◌≤◌, ◌<◌, zero-le}
use native.Mathlib.Nat.{not-suc-le-zero, mul-le-mul, lt_of_not-le}
use native.Mathlib.Omega.{arith}
use borrow.Author.Tests.{ltb-false}
use lib.Dec.{ltb}
use lib.IntN.{ℤ, pos, negsuc}
use lib.ListN.{length, drop, get_or, get_or-eq_default}
use lib.Seq.{get_or-drop, drop-drop}
use Rattle.whole.specs.Counting.{figure_at}
use Rattle.places.specs.declared.Shape.{Shape}
use Rattle.places.specs.Act.{most_accounts, most_products, most_held}
use Rattle.lines.specs.Bytes.{bytes}
use Rattle.dayfile.specs.CallLines.{gap, figures_of, most_figures, column}
use Rattle.dayfile.specs.Table.{no_count, count_of}

-- ---- calls
pub gap_more : (k : ℕ) → (k ≡ 0 → ⊥) → bytes " " ≡ gap k
gap_more zero h = absurd (h refl)
gap_more (suc k) h = refl

-- a byte that begins a call is a byte of the text
no_call : (p : ℕ) → figures_of p 0 ≤ most_figures → ⊥
unfolding figures_of
no_call p h = omega arith

pub call_inside : (text : List ℕ) (p at : ℕ) → figures_of p (get_or text at 0) ≤ most_figures → at < length text
call_inside text p at h = lt_of_not-le (λ l. no_call p (subst (λ (b : ℕ). figures_of p b ≤ most_figures) (get_or-eq_default text 0 l) h))

-- ---- counts
-- a count is at most its highest
pub count_most : (low high next : ℕ) (v : ℤ) → (count_of low high next v).count ≤ high
count_most low high next (pos m) = count_cases (ltb m low) (ltb high m) refl
  where
    count_cases : (s t : Bool) → ltb high m ≡ t → (cond s no_count (cond t no_count (record { count = m; next = next }))).count ≤ high
    count_cases true t e = zero-le
    count_cases false true e = zero-le
    count_cases false false e = ltb-false high m e
count_most low high next (negsuc m) = zero-le

-- ---- marks: each position of a ledger has its own
pub mark-inside : (s : Shape) (a j : ℕ) → s.n ≤ most_accounts → s.p ≤ most_products → a < s.n → j < s.p → a * s.p + j < most_held
mark-inside s a j hn hp ha hj = omega (arith, mul-le-mul {n₁ = a} {m₁ = s.p} {n₂ = most_accounts - 1} {m₂ = most_products} (omega arith) hp)

-- ---- a close's columns
pub column-more : (v : List ℤ) (k j left : ℕ) → 0 < left → column k left (drop (j * 4) v) ≡ figure_at v (j * 4 + k) ∷ column k (left - 1) (drop ((j + 1) * 4) v)
column-more v k j zero h = absurd (not-suc-le-zero h)
column-more v k j (suc n) h =
    let e : suc n - 1 ≡ n = omega arith in
    let f : j * 4 + 4 ≡ (j + 1) * 4 = omega arith in
    rw (e, get_or-drop (j * 4) v k (pos 0), drop-drop 4 (j * 4) v, f)

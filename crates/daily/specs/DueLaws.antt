-- The new dues of an account as one list, product by product: what a product's difference does to it; and how far a close can bring its gross at most.
-- Assumes nothing.
use Rattle.std.specs.Prelude.{◌≡◌, refl, ◌≢◌, Bool, true, false, cond, List, eqb, ℤ, pos, ◌+ℤ◌, length, get_or, set}
use Rattle.std.proofs.Common.{sym, ap, subst, ◌∙◌, mul-le-mul_right, suc-mul, add-one, arith, length-set, get_or-set_same, get_or-set_other, ext_get_or, eqb-true, eq-eqb, ne_eqb}
use Prim.Native.Nat.{ℕ, zero, suc, ◌+◌, ◌*◌, ◌≤◌, ◌<◌}
use Rattle.std.proofs.Math.IntN.{nat_abs, +ℤ_idr, +ℤ_assoc}
use Rattle.std.proofs.lemmas.Bool.{eqb-false}
use Rattle.whole.specs.Counting.{sum, total, one_if, how_many, listed, figure_at}
use Rattle.whole.specs.CountingLaws.{total-same, total-le, total-add, total_times, many_once}
use Rattle.whole.specs.Tests.{abs_add}
use Rattle.whole.specs.Listed.{length-listed, get_or-listed}
use Rattle.places.specs.declared.Shape.{Shape}
use Rattle.places.specs.Act.{most_products}
use Rattle.places.specs.Place.{View, dues, cash}
use Rattle.daily.specs.DailyFigures.{difference, added_to, next_due, new_due, new_gross}
use Rattle.daily.specs.Ranges.{Row, most_added, difference_in}

-- the list f 0, f 1, .. with its word k made h's is h's list, where the others are h's already
module _ (n : ℕ) (f h : ℕ → ℤ) (k : ℕ) (b : k < n) (others : (i : ℕ) → i ≢ k → f i ≡ h i) (v : ℤ) (e : v ≡ h k) where
  long : length (set (listed n f) k v) ≡ n
  long = length-set (listed n f) k v ∙ length-listed n f

  at : (i : ℕ) → i < n → (t : Bool) → eqb i k ≡ t → get_or (set (listed n f) k v) i (pos 0) ≡ get_or (listed n h) i (pos 0)
  at i l true q =
      let z = eqb-true i k q in
      rw z (get_or-set_same (listed n f) k v (pos 0) (rw (length-listed n f) b) ∙ e ∙ sym (get_or-listed n h (pos 0) k b))
  at i l false q =
      let z = eqb-false i k q in
      get_or-set_other (listed n f) k i v (pos 0) z ∙ get_or-listed n f (pos 0) i l ∙ others i z ∙ sym (get_or-listed n h (pos 0) i l)

  pub listed-set : set (listed n f) k v ≡ listed n h
  listed-set = ext_get_or (pos 0) (set (listed n f) k v) (listed n h) (long ∙ sym (length-listed n h)) (λ i l. at i (subst (λ z. i < z) long l) (eqb i k) refl)

-- the due d with what the first j products add
abbrev pub part : List ℤ → List ℤ → View → ℕ → ℕ → ℕ → ℤ
part prices lags g a j d = next_due g a d +ℤ sum j (added_to prices lags g a d)

module _ (prices lags : List ℤ) (g : View) (a j : ℕ) where
  abbrev k : ℕ
  k = nat_abs (figure_at lags j)

  other : (i : ℕ) → i ≢ k → part prices lags g a j i ≡ part prices lags g a (j + 1) i
  other i ne = rw (add-one j, ne_eqb k i (λ q. ne (sym q))) (ap (λ z. next_due g a i +ℤ z) (sym (+ℤ_idr (sum j (added_to prices lags g a i)))))

  pub named : part prices lags g a j k +ℤ difference prices g a j ≡ part prices lags g a (j + 1) k
  named = rw (add-one j, eq-eqb k k refl) (+ℤ_assoc (next_due g a k) (sum j (added_to prices lags g a k)) (difference prices g a j))

  -- one more product
  pub part-more : k < dues → set (listed dues (part prices lags g a j)) k (part prices lags g a j k +ℤ difference prices g a j) ≡ listed dues (part prices lags g a (j + 1))
  part-more h = listed-set dues (part prices lags g a j) (part prices lags g a (j + 1)) k h other (part prices lags g a j k +ℤ difference prices g a j) named

-- ---- how far a close can bring the gross

-- an account's gross when its dues have moved down and nothing has been added
abbrev pub moved_gross : View → ℕ → ℕ
moved_gross g a = nat_abs (g (cash a)) + total dues (λ d. nat_abs (next_due g a d))

module _ (prices lags : List ℤ) (s : Shape) (g : View) (a : ℕ) (r : Row prices s g a) where
  -- a product's difference goes to one due
  once : (j : ℕ) → total dues (λ d. nat_abs (added_to prices lags g a d j)) ≤ nat_abs (difference prices g a j)
  once j =
      let k = nat_abs (figure_at lags j) in let x = nat_abs (difference prices g a j) in
      let e : total dues (λ d. nat_abs (added_to prices lags g a d j)) ≡ how_many dues (eqb k) * x =
      total-same dues (λ d. nat_abs (added_to prices lags g a d j)) (λ d. one_if (eqb k d) * x) (λ d h. size (eqb k d)) ∙ total_times dues (λ d. one_if (eqb k d)) x in
      let m : how_many dues (eqb k) * x ≤ 1 * x = mul-le-mul_right x (many_once dues (eqb k) (λ i l b c p q. let y = eqb-true k i p in let z = eqb-true k l q in omega arith)) in
      omega arith
    where
      size : (t : Bool) → nat_abs (cond t (difference prices g a j) (pos 0)) ≡ one_if t * nat_abs (difference prices g a j)
      size true = omega arith
      size false = omega arith

  -- what the first j products add to all dues together
  together : (j : ℕ) → j ≤ s.p → total dues (λ d. nat_abs (sum j (added_to prices lags g a d))) ≤ j * 30000000000000
  together zero h = omega arith
  together (suc j) h =
      let f : ℕ → ℕ = λ d. nat_abs (sum j (added_to prices lags g a d)) in let x : ℕ → ℕ = λ d. nat_abs (added_to prices lags g a d j) in
      let m = total-le dues (λ d. nat_abs (sum (suc j) (added_to prices lags g a d))) (λ d. f d + x d) (λ d b. abs_add (sum j (added_to prices lags g a d)) (added_to prices lags g a d j)) in
      rw (suc-mul j) (omega (arith, m, total-add dues f x, once j, together j (omega arith), difference_in prices s g a r j (omega arith)))

  pub gross_in : s.p ≤ most_products → new_gross prices lags s g a ≤ moved_gross g a + most_added
  unfolding new_due
  gross_in few =
      let f : ℕ → ℕ = λ d. nat_abs (next_due g a d) in let x : ℕ → ℕ = λ d. nat_abs (sum s.p (added_to prices lags g a d)) in
      let m = total-le dues (λ d. nat_abs (new_due prices lags s g a d)) (λ d. f d + x d) (λ d b. abs_add (next_due g a d) (sum s.p (added_to prices lags g a d))) in
      omega (arith, m, total-add dues f x, together s.p (omega arith))

-- `fx_rate` meets its contract: the part handed back, as a pointer and a count. Assumes nothing.
use Rattle.std.proofs.Common.{◌≡◌, sym, ◌∙◌, ℕ, ◌+◌, ◌<◌, ◌≤◌, List, length, arith, eq-eqb, ne_eqb, w64, ap, to_z, of_z, Bor, ℤ}
use Rattle.std.specs.Prelude.{eqb, cond}
use Rattle.whole.specs.Whole.{whole, facts, by}
use Rattle.rates.specs.MarginRate.{part_of, rated, rated_in_c}
use Rattle.rates.specs.JudgedLaws.{figure_most, eight-some, begins_with_eight, answer_in_c}
use Rattle.interface.proofs.fx_rate.Goals as goal

-- the first figure stands where its list begins
first : (at : ℕ × ℕ) → ◌≡◌ {A = ℕ × ℕ} (at.0, 0 + at.1) at
first at = λ i. (at.0, start at.1 i)
  where
    start : (o : ℕ) → 0 + o ≡ o
    start o = omega arith

-- what `governing` handed back, as a pointer and a count, by where the pointer points then
module _ (weeks8 weeks104 : Bor (List ℤ)) (n : ℕ) (rate : ℤ) (p : Bor (List ℤ)) (is : (n, rate, part_of p) ≡ rated weeks8 weeks104) (before : ℕ × ℕ) where
  -- the rate as it is answered is the one that was written
  written : to_z w64 (of_z w64 rate) ≡ rate
  written = let h = figure_most weeks8 weeks104 n rate p is in by (search whole depth 20) (omega facts)

  answered : (at : ℕ × ℕ) → at ≡ cond (eqb (length weeks8.now) 0) before p.ref_ptr
      → (record { number = n; figure = to_z w64 (of_z w64 rate) }, length p.now, at) ≡ rated_in_c weeks8 weeks104 before
  answered at q = answer_in_c weeks8 weeks104 _ _ p (ap (λ z. (n, z, part_of p)) written ∙ is) before at q

  some : 0 < length p.now → (record { number = n; figure = to_z w64 (of_z w64 rate) }, length p.now, (p.ref_ptr.0, 0 + p.ref_ptr.1)) ≡ rated_in_c weeks8 weeks104 before
  some h = answered (p.ref_ptr.0, 0 + p.ref_ptr.1) (first p.ref_ptr ∙ sym (rw (eight-some weeks8 weeks104 _ _ p is h)))

  none : length p.now ≤ 0 → 0 < length weeks8.now
      → (record { number = n; figure = to_z w64 (of_z w64 rate) }, length p.now, (weeks8.ref_ptr.0, 0 + weeks8.ref_ptr.1)) ≡ rated_in_c weeks8 weeks104 before
  none h k =
      let start = begins_with_eight weeks8 weeks104 _ _ p is (omega arith) in
      answered (weeks8.ref_ptr.0, 0 + weeks8.ref_ptr.1) (first weeks8.ref_ptr ∙ sym start ∙ sym (rw (ne_eqb (length weeks8.now) 0 (λ z. omega arith))))

  empty : length weeks8.now ≤ 0 → (record { number = n; figure = to_z w64 (of_z w64 rate) }, length p.now, before) ≡ rated_in_c weeks8 weeks104 before
  empty h = answered before (sym (rw (eq-eqb (length weeks8.now) 0 (omega arith))))

pub returns-then-many-gt0 : goal.returns-then-many-gt0
returns-then-many-gt0 c =
    let g = c.governing-part in
    some c.args.weeks8 c.args.weeks104 g.new.number g.new.rate g.result g.ensures c.args.governs.now.ref_ptr c.if-many-gt0.true

pub returns-then-weeks8-gt0 : goal.returns-then-weeks8-gt0
returns-then-weeks8-gt0 c =
    let g = c.governing-part in
    none c.args.weeks8 c.args.weeks104 g.new.number g.new.rate g.result g.ensures c.args.governs.now.ref_ptr c.if-many-gt0.false c.if-weeks8-gt0.true

pub returns-else-weeks8-gt0 : goal.returns-else-weeks8-gt0
returns-else-weeks8-gt0 c =
    let g = c.governing-part in
    empty c.args.weeks8 c.args.weeks104 g.new.number g.new.rate g.result g.ensures c.args.governs.now.ref_ptr c.if-weeks8-gt0.false

-- What a call that is not refused has shown: the lengths, and that every figure is in range. Assumes nothing.
use Rattle.std.specs.Prelude.{◌≡◌, refl, Bool, true, false, cond, List, ℕ, ◌≤◌, ◌<◌, leb, eqb, ℤ, pos, negsuc, nat_abs, ◌≤ℤ◌, length}
use Rattle.std.proofs.Common.{arith, leb-true, eqb-true}
use Rattle.std.specs.Int.Signed.{le_z}
use Rattle.whole.specs.Counting.{figure_at}
use Rattle.whole.specs.Number.{between}
use Rattle.whole.specs.CountingLaws.{all-at}
use Rattle.whole.specs.Reps.{Each}
use Rattle.whole.specs.Tests.{both, in-range}
use Rattle.whole.specs.Whole.{true_le}
use Rattle.whole.specs.Listed.{each_of}
use Rattle.portions.specs.Bounds.{most_members}
use Rattle.shares.specs.Loss.{most_loss, most_figure, member_ok, members_ok, one_length, refusal}

-- six lists, one of them scratch for the weights, have one length
pub record Lengths (n differences marks weights first second : ℕ) : Type 0 where
  pub some : 1 ≤ n
  pub few : n ≤ most_members
  pub differences_same : differences ≡ n
  pub marks_same : marks ≡ n
  pub weights_same : weights ≡ n
  pub first_same : first ≡ n
  pub second_same : second ≡ n

pub lengths_say : (n differences marks first second : ℕ) → one_length n differences marks first second ≡ true → Lengths n differences marks n first second
lengths_say n differences marks first second e =
    let e1 = both (leb 1 n) _ e in
    let e2 = both (leb n most_members) _ e1.1 in
    let e3 = both (eqb differences n) _ e2.1 in
    let e4 = both (eqb marks n) _ e3.1 in
    let e5 = both (eqb first n) _ e4.1 in
    record {
      some = leb-true 1 n e1.0;
      few = leb-true n most_members e2.0;
      differences_same = eqb-true differences n e3.0;
      marks_same = eqb-true marks n e4.0;
      weights_same = refl;
      first_same = eqb-true first n e5.0;
      second_same = eqb-true second n e5.1;
    }

-- a difference in range
difference-says : (z : ℤ) → between (negsuc 999999999999) (pos 1000000000000) z ≡ true → nat_abs z ≤ most_figure
difference-says (pos k) e = leb-true k 1000000000000 e
difference-says (negsuc k) e = omega (arith, leb-true k 999999999999 (both (leb k 999999999999) true e).0)

pub record Accepted (loss : ℤ) (deposits differences marks : List ℤ) (first second : ℕ) : Type 0 where
  pub lengths : Lengths (length deposits) (length differences) (length marks) (length deposits) first second
  pub loss_low : pos 0 ≤ℤ loss
  pub loss_high : nat_abs loss ≤ most_loss
  pub loss_natural : loss ≡ pos (nat_abs loss)
  pub deposits_in : Each most_figure deposits
  pub differences_in : Each most_figure differences

-- no refusal applies
none : (s t u : Bool) → ◌≡◌ {A = ℕ} (cond s (cond t (cond u 0 8) 5) 2) 0 → (s ≡ true) × (t ≡ true) × (u ≡ true)
none true true true e = (refl, refl, refl)
none true true false e = absurd (omega arith)
none true false u e = absurd (omega arith)
none false t u e = absurd (omega arith)

module _ (loss : ℤ) (deposits differences marks : List ℤ) (first second : ℕ) (not-refused : refusal loss deposits differences marks first second ≡ 0) where
  tests : (one_length (length deposits) (length differences) (length marks) first second ≡ true) × (between (pos 0) (pos most_loss) loss ≡ true) × (members_ok deposits differences marks ≡ true)
  unfolding refusal
  tests = none (one_length (length deposits) (length differences) (length marks) first second) (between (pos 0) (pos most_loss) loss) (members_ok deposits differences marks) not-refused

  lengths : Lengths (length deposits) (length differences) (length marks) (length deposits) first second
  lengths = lengths_say (length deposits) (length differences) (length marks) first second tests.0

  member : (i : ℕ) → i < length deposits → member_ok (figure_at deposits i) (figure_at differences i) (figure_at marks i) ≡ true
  member = all-at (length deposits) (λ i. member_ok (figure_at deposits i) (figure_at differences i) (figure_at marks i)) tests.2

  deposit : (i : ℕ) → i < length deposits → nat_abs (figure_at deposits i) ≤ most_figure
  deposit i b = (in-range 0 most_figure (figure_at deposits i) (both (between (pos 0) (pos most_figure) (figure_at deposits i)) _ (member i b)).0).high

  difference : (i : ℕ) → i < length deposits → nat_abs (figure_at differences i) ≤ most_figure
  difference i b = difference-says (figure_at differences i) (both (between (negsuc 999999999999) (pos 1000000000000) (figure_at differences i)) _ (both (between (pos 0) (pos most_figure) (figure_at deposits i)) _ (member i b)).1).0

  pub accepted : Accepted loss deposits differences marks first second
  accepted =
      record {
        lengths = lengths;
        loss_low = true_le (pos 0) loss (both (le_z (pos 0) loss) _ tests.1).0;
        loss_high = (in-range 0 most_loss loss tests.1).high;
        loss_natural = (in-range 0 most_loss loss tests.1).nat;
        deposits_in = each_of most_figure deposits deposit;
        differences_in = each_of most_figure differences (λ i b. difference i (omega (arith, lengths.differences_same)));
      }

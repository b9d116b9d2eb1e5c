-- `with` meets its contract: a figure in range is added, with its square, and each sum fits. Assumes nothing.
use Rattle.std.proofs.Common.{ℕ, cond, ltb, ltb-true, ltb-false, le-ltb, Less, Greater, Equal, ⊎_elim, ℤ, pos, negsuc, true, is_le, int_cmp, ◌≡◌, Some, nat_abs, ◌≤◌, ◌+ℤ◌, ◌*ℤ◌, arith, le-leb, w64, to_z, of_z}
use Rattle.whole.specs.Reps.{prod}
use Rattle.whole.specs.Signs.{arg, false_true}
use Rattle.whole.specs.Tests.{true_or_false}
use Rattle.whole.specs.Whole.{whole, facts, by}
use Rattle.rates.specs.MarginRate.{most_size}
use Rattle.rates.proofs.windows.Sums.with.Goals.{Then-contains}
use Rattle.rates.proofs.windows.Sums.with.Goals as goal

-- what is not above a number is at most that
no-more : (a b : ℕ) → is_le (cond (ltb a b) Less (cond (ltb b a) Greater Equal)) ≡ true → a ≤ b
no-more a b e =
    ⊎_elim
    (λ t. let l = ltb-true b a t in absurd (false_true (rw (le-ltb a b (omega arith), t) at e)))
    (λ t. ltb-false b a t)
    (true_or_false (ltb b a))

-- a figure between the two ends is no larger than either
between-ends : (x : ℤ) → is_le (int_cmp (negsuc 19999) x) ≡ true → is_le (int_cmp x (pos 20000)) ≡ true → nat_abs x ≤ 20000
between-ends (pos k) low high = no-more k 20000 high
between-ends (negsuc k) low high = omega (arith, no-more k 19999 low)

sized : (c : Then-contains) → nat_abs c.args.x ≤ 20000
sized c =
    let e = c.if-contains.ensures.cases in
    let n = c.new.ensures in
    between-ends c.args.x (rw (n.start, arg c.ranges.x) at e.0) (rw (n.end, arg c.ranges.x) at e.1)

pub returns-then-contains : goal.returns-then-contains
returns-then-contains c =
    let s = c.args.self in
    let x = c.args.x in
    let h = sized (goal.at.returns-then-contains c).Then-contains in
    let i = c.requires.sum_in in
    let j = c.requires.squares_in in
    let p = prod x x h h in
    let sum : to_z w64 (of_z w64 (to_z w64 (of_z w64 s.sum) +ℤ to_z w64 (of_z w64 x))) ≡ s.sum +ℤ x = by (search whole depth 20) (omega facts) in
    let squares : to_z w64 (of_z w64 (to_z w64 (of_z w64 s.squares) +ℤ to_z w64 (of_z w64 (to_z w64 (of_z w64 x) *ℤ to_z w64 (of_z w64 x))))) ≡ s.squares +ℤ x *ℤ x =
    by (search whole depth 20) (omega (facts, p))
    in
    rw (le-leb (nat_abs x) most_size h) (λ k. Some (record { sum = sum k; squares = squares k }))

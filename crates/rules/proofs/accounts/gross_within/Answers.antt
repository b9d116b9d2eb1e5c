-- `rules::accounts::gross_within` meets its contract: joined sizes below 2^61 are each below it, and sizes that come to at most 10^15 are so. The size of
-- cash may be taken of its opposite too: that the opposite of the least number fits no word is left to the overflow. Assumes nothing.
use Prim.Native.Nat.{ℕ, ◌+◌, ◌^◌, ◌≤◌, ◌<◌}
use native.Mathlib.Nat.{lt_of_not-le}
use native.Mathlib.Omega.{arith}
use lib.Bits.{bit_or, or_lt, or_add_and, and_le_l, and_le_r}
use lib.IntN.{nat_abs}
use mathlib.Core.Path.{◌≡◌}
use Rattle.std.proofs.lemmas.Int.{ints}
use Rattle.whole.specs.Whole.{whole, facts, by}
use Rattle.whole.proofs.Opposite.{opposite-size}
use Rattle.rules.proofs.accounts.gross_within.Goals as goal

abbrev four : ℕ → ℕ → ℕ → ℕ → ℕ
four a b c d = bit_or (bit_or (bit_or a b) c) d

-- each of the four is at most what they are joined
parts : (a b c d : ℕ) → (a ≤ four a b c d) × (b ≤ four a b c d) × (c ≤ four a b c d) × (d ≤ four a b c d)
parts a b c d =
    let u = bit_or a b in let v = bit_or u c in
    let p : a ≤ u = omega (arith, or_add_and a b, and_le_r a b) in
    let q : b ≤ u = omega (arith, or_add_and a b, and_le_l a b) in
    let r : u ≤ v = omega (arith, or_add_and u c, and_le_r u c) in
    let s : c ≤ v = omega (arith, or_add_and u c, and_le_l u c) in
    let t : v ≤ bit_or v d = omega (arith, or_add_and v d, and_le_r v d) in
    let w : d ≤ bit_or v d = omega (arith, or_add_and v d, and_le_l v d) in
    (omega arith, omega arith, omega arith, omega arith)

-- small sizes, joined
small : (a b c d : ℕ) → a + b + c + d ≤ 10 ^ 15 → four a b c d < 2 ^ 61
small a b c d h =
    or_lt 61 (bit_or (bit_or a b) c) d
    (or_lt 61 (bit_or a b) c (or_lt 61 a b (omega arith) (omega arith)) (omega arith))
    (omega arith)

-- so where they are not below it, the sum is past the bound
large : (a b c d : ℕ) → 2 ^ 61 ≤ four a b c d → 10 ^ 15 < a + b + c + d
large a b c d h = lt_of_not-le (λ k. let s = small a b c d k in omega arith)

-- each size is small where they are so joined
sizes : (a b c d : ℕ) → four a b c d < 2 ^ 61 → (d < 2 ^ 61) × (c < 2 ^ 61) × (b < 2 ^ 61) × (a < 2 ^ 61)
sizes a b c d h = let p = parts a b c d in (omega arith, omega arith, omega arith, omega arith)

pub returns-then-cash_size-due0_size-ge2305843009213693952 : goal.returns-then-cash_size-due0_size-ge2305843009213693952
returns-then-cash_size-due0_size-ge2305843009213693952 c =
    let d = c in
    let l = large d.unsigned_abs-cash_size.result d.unsigned_abs-due0_size.result d.unsigned_abs-due1_size.result d.unsigned_abs-due2_size.result c.if-cash_size-due0_size-ge2305843009213693952.true in
    let size : d.unsigned_abs-cash_size.result ≡ nat_abs d.args.cash = rw d.unsigned_abs-cash_size.ensures.value (omega (arith, ints, opposite-size d.args.cash d.ranges.cash)) in
    by (search whole depth 20) (omega (facts, l))

pub overflow_add-result : goal.overflow_add-result
overflow_add-result c = let z = sizes c.unsigned_abs-cash_size.result c.unsigned_abs-due0_size.result c.unsigned_abs-due1_size.result c.unsigned_abs-due2_size.result c.if-cash_size-due0_size-ge2305843009213693952.false in omega arith

pub overflow_add-result-2 : goal.overflow_add-result-2
overflow_add-result-2 c = let z = sizes c.unsigned_abs-cash_size.result c.unsigned_abs-due0_size.result c.unsigned_abs-due1_size.result c.unsigned_abs-due2_size.result c.if-cash_size-due0_size-ge2305843009213693952.false in omega arith

pub overflow_add-result-3 : goal.overflow_add-result-3
overflow_add-result-3 c = let z = sizes c.unsigned_abs-cash_size.result c.unsigned_abs-due0_size.result c.unsigned_abs-due1_size.result c.unsigned_abs-due2_size.result c.if-cash_size-due0_size-ge2305843009213693952.false in omega arith

pub returns : goal.returns
returns c =
    let size : c.unsigned_abs-cash_size.result ≡ nat_abs c.args.cash = rw c.unsigned_abs-cash_size.ensures.value (omega (arith, ints, opposite-size c.args.cash c.ranges.cash)) in
    by (search whole depth 20) (omega facts)

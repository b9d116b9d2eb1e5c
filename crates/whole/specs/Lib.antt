-- Signed whole numbers. Believed: `Number` (ranges, rounding) and `Counting` (tests and sums over the numbers below n). The rest are laws:
-- `Signs`, `Reps`, `Whole` (signed needs in one line), `Tests`, `CountingLaws`, `Listed`, `Parts` (a part of a list lent and given back).
pub mod Number
pub mod Counting
pub mod Signs
pub mod Reps
pub mod Whole
pub mod Tests
pub mod CountingLaws
pub mod Listed
pub mod Parts

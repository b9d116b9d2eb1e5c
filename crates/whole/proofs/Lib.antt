-- The proofs on whole numbers.
--   Floor     rounding down by whole units
--   Extremes  the lesser and the greater of two, as std says it
--   Zero      a word is 0 where its number is
--   Opposite  the size of a number is that of its opposite
pub mod Floor
pub mod Extremes
pub mod Zero
pub mod Opposite

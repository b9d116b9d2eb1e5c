-- Texts, line by line. Believed: `Bytes`, `Text` (words and numbers at a place), `Lines` (fields, lines, the first bad line), `Print`.
-- `InsideLines` has words for the contracts of private functions.
pub mod Bytes
pub mod Text
pub mod Lines
pub mod Print
pub mod InsideLines

-- The figures that document 01 works out by hand, as theorems on the rule book, and figures of the requests.
--   Figures       R1 to R12
--   OwesToday     M-101
--   PriceHistory  M-105
pub mod Figures
pub mod OwesToday
pub mod PriceHistory

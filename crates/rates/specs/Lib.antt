-- Margin rates from price history (M-105). Believed: `MarginRate` (the rate of a window, which window governs, what is refused). `RateTheorems` has what a reader of
-- rates will ask. The rest are laws: `SpreadLaws` (what stands under the root is the schoolbook's, and not below 0), `SumsLaws` (one pass over a window),
-- `RateLaws` (its rate by a root), `RootLaws` (how a root is found), `JudgedLaws` (two windows by one root, and the answer of the call).
pub mod MarginRate
pub mod SpreadLaws
pub mod SumsLaws
pub mod RateLaws
pub mod RootLaws
pub mod JudgedLaws
pub mod RateTheorems

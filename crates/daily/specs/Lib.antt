-- The daily figures. Believed: `DailyFigures` (the new dues, margin and books of each account at a close). Laws: `Ranges` (on a sound ledger they
-- stay within 64 bits), `Once` (what is worked out once a product), `DueLaws` (the new dues, product by product).
-- `Given` hands the four lists of a close to a definition: a word for contracts behind the gate.
pub mod DailyFigures
pub mod Ranges
pub mod Once
pub mod DueLaws
pub mod Given

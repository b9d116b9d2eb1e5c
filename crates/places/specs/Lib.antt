-- The ledger's words as places. Believed: `Place` (places, layouts, get and put), `ByAccountWords` and `ByAccount` (the layout of 01), `Act` (acts,
-- rules, and a rule performed on words). The rest are laws: `PlaceLaws`, `ByAccountLaws`, `ActLaws`, `Passes` (a pass as one list of puts),
-- `Footprint` (rules apart commute).
pub mod Place
pub mod PlaceLaws
pub mod ByAccountWords
pub mod ByAccountLaws
pub mod ByAccount
pub mod Passes
pub mod Act
pub mod ActLaws
pub mod Footprint

-- Sharing one amount by weights. Believed: `Share` (who gets what) and `Bounds` (the ranges within which it is worked out). The rest are laws:
-- `Ratio` (the division by many weights), `Order` (who comes before whom), `Cut` (the last who gets a yen), `ShareLaws` (floors, remainders and the yen left); `PortionTheorems` has what a member will ask,
-- `ShareExamples` a sharing past 64 bits.
pub mod Share
pub mod Bounds
pub mod Ratio
pub mod Order
pub mod Cut
pub mod ShareLaws
pub mod PortionTheorems
pub mod ShareExamples

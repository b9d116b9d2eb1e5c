-- Demand 3: requests that fall between the transfers of a run get the answers, and leave the ledger, of three stretches one after another.
-- Believed: `Stretch` (judging and picking, of any acts), `History` (the statement) and `Leaves` (the words of the theorems beyond the demand). Laws that rest on none of
-- the ledger's events: `Sort` (acts whose inverted pairs commute may be sorted by stretch) and `Apart` (which footprints of the ledger's rules are apart).
-- THE THEOREMS stand in proofs/, so that an edit of `History` or `Leaves` is refused by them: proofs/Lib.antt has the list.
pub mod Stretch
pub mod Sort
pub mod History
pub mod Leaves
pub mod Apart

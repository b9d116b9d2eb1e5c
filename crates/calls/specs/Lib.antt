-- The ledger's calls, as the sheet makes them. Believed: `Ledger` (what a ledger does with its words, and the ledger that is meant). Laws:
-- `LedgerLaws` (that ledger stays sound). `InsideCalls` has words for the contracts of private functions.
pub mod Ledger
pub mod LedgerLaws
pub mod InsideCalls

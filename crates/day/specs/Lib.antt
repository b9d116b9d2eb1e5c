-- The sheet. Believed: `Sheet` (the sheet of a text, over what the ledger does). `InsideDay` has words for the contract of a private function.
-- `SheetExamples` and `Days` are computed.
pub mod Sheet
pub mod InsideDay
pub mod SheetExamples
pub mod Days

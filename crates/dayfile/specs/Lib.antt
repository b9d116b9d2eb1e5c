-- The day file. Believed: `Table` (of contents), `Sections` (products, accounts, positions, each written at its places of the ledger's words),
-- `CallLines`, `Day` (all of them in a row). `InsideDayfile` has words for the contracts of functions below the entry point.
pub mod Table
pub mod Sections
pub mod CallLines
pub mod Day
pub mod InsideDayfile

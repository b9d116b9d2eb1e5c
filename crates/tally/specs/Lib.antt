-- What the programs of the gate count by.
pub mod Tally

-- The proofs of the two windows and of those that call them.
--   TellerContracts  what the two windows' contracts say is `WindowSays`
pub mod TellerContracts

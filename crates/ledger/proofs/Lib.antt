-- What the seven contracts say (`LedgerContracts`), for whoever states a theorem about the functions.
pub mod LedgerContracts

-- The theorems of demand 3, and what they stand on.
--   EventRules      each event as one rule; `Events`: the ledger's events meet the law's conditions
--   Attempts        begin and close while the run is on: the number, and nothing changes
--   Demand3         THE THEOREMS, in both forms, and what they leave
--   RunAlone        the run with no requests settles every due 0, once
--   CallChains      the same, said of calls that do what happens
--   LedgerCalls     and said of the ledger's own functions, by their own contracts
--   HistoryExample  a history worked out
pub mod EventRules
pub mod Events
pub mod Attempts
pub mod Demand3
pub mod RunAlone
pub mod CallChains
pub mod LedgerCalls
pub mod HistoryExample

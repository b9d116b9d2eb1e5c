-- The ledger's calls as rules: each reads what stands at the places and answers a reply and puts. Believed: `Requests` (deposit, withdrawal,
-- guarantee, question), `Trade`, `Run` (begin and step). `WithdrawalLaws` has what a withdrawal asks, in words. The laws stand in proofs/, so that an edit of a rule is
-- refused by them: proofs/Lib.antt has the list.
pub mod Requests
pub mod Trade
pub mod Run
pub mod WithdrawalLaws

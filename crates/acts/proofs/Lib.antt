-- The laws of the ledger's calls.
--   OneAccount, RequestsLaws  what a request about one account puts and sees (`own`, `nothing`), and that it keeps the ledger sound
--   TradeLaws                 the same of a trade (`trading`)
--   RunLaws, StepLaws         the same of begin (`beginning`) and of step (`stepping`), and every word after a step
--   ActsKeep                  each call leaves a ledger
--   Withdrawals               when a withdrawal is paid, both ways
--   FormerQuestion            what a question answers as before M-101
pub mod OneAccount
pub mod RequestsLaws
pub mod TradeLaws
pub mod RunLaws
pub mod StepLaws
pub mod ActsKeep
pub mod FormerQuestion
pub mod Withdrawals

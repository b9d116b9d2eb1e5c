-- The proofs of the rule book.
--   CallFits     the sums of a call on a sound account fit 64 bits
--   RefusalLaws  every refusal has a number, and what is answered tells the outcome
mod CallFits
pub mod RefusalLaws

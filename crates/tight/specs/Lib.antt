-- Document 01, "How tight a contract has to be": for all input, refusals too, one number, one figure and one content of the ledger and output lists
-- follow from each public contract, and no empty program meets them.
-- Believed: nothing new. The definitions that the contracts cite are those of crates `soundness`, `acts`, `closing`, `shares`, `day` and `rules`.
-- Proved:
--   OneResult    any two results that an entry point's own contract permits coincide: one line for each
--   Small        the words of a ledger of two accounts and one yen product, for the two files that follow
--   Numbers      each refusal 1 to 13 is the answer of some call, and each call is accepted on some ledger, and changes it unless it is a question
--   PaperSheet   01's day file gives 01's sheet, byte for byte
-- And in proofs/, so that an edit of `Numbers` or `PaperSheet` is refused at its own line:
--   Empty        the four empty programs of 01: none of them meets an entry point's own contract
pub mod OneResult
pub mod Small
pub mod Numbers
pub mod PaperSheet

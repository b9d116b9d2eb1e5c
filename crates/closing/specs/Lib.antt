-- The close of a day. Believed: `Close` (the rule: its refusals and its puts). Laws: `Written` (which places the puts of an account are), `Acts` (the rule,
-- test by test), `After` (what the places say after a close), `Walk`, `Stages` and `WholeWalk` (the words as they are made, product by product, and that they
-- are the close's), `CloseKeeps` (a close that is taken leaves a sound ledger); `First` (what a search below n finds). `CloseExamples` run the rule. What rests on the rule's putting nothing where its
-- search finds an account is in proofs/CloseLaws: that answer, an example of it, and that a close leaves a sound ledger, taken or refused.
pub mod Close
pub mod Written
pub mod Acts
pub mod After
pub mod Walk
pub mod Stages
pub mod WholeWalk
pub mod CloseKeeps
pub mod CloseExamples
pub mod First

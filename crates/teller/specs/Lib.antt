-- What the teller window's contracts say, and what holds of a call at the window. There is nothing to believe here: its two rules are
-- `teller_deposit` and `teller_withdrawal` of the rule book.
--   WindowRule  what the contract of a window says, at a rule by value
--   WindowLaws  an unsound record is refused with 1; on a sound one the window is the day's call; it changes cash alone, and a refusal nothing
pub mod WindowRule
pub mod WindowLaws

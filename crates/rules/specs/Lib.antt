-- The rule book of document 01 on one account and one product. A reader believes the first five; the others are laws, and what a rule was before.
--   Sizes             the ranges of 01, "Units and sizes"
--   Product           rate, Y, margin and daily difference of one product
--   Account           the margin rules on one account: LG value, deposit, required margin, shortfalls, excesses, limit; gross; a sound record
--   Refusal           number and figure of each refusal, and what is answered
--   AccountCalls      what a deposit, a withdrawal, a guarantee call, a transfer and a question do to one account
--   ProductLaws       the figures of one product are bounded
--   AccountLaws       the figures of a sound account are bounded
--   AccountCallsLaws  the calls keep a sound account sound and change what they name alone; a withdrawal is taken exactly up to the limit
--   ShortfallLaws     what a second shortfall is: the least payment that covers the transfers near; beside a limit above 0 only an L can have one
--   FormerNeed        the next-day need before M-101, which is compared with and else not used
--   FormerNeedLaws    what M-101 moves, and what it does not
pub mod Sizes
pub mod Product
pub mod Account
pub mod Refusal
pub mod AccountCalls
pub mod ProductLaws
pub mod AccountLaws
pub mod AccountCallsLaws
pub mod ShortfallLaws
pub mod FormerNeed
pub mod FormerNeedLaws

-- 01, "Numbers returned": the number and the figure of each refusal, and what a call that is taken or refused answers.
use Rattle.std.specs.Prelude.{◌≡◌, ℕ, ℤ, pos, Result, Ok, Err}
use Rattle.rules.specs.declared.refusal.Refusal.{Refusal}
use Rattle.rules.specs.declared.refusal.Refusal.TheVariants.{Unsound, Lists, NoSuchAccount, NoSuchProduct, Amount, WrongKind, WrongPhase, OutOfRange, PositionTooLarge, GrossTooLarge, AboveLimit, AccountTooLarge, HouseTooLarge}
use Rattle.rules.specs.declared.Reply.{Reply}

abbrev pub number_of : Refusal → ℕ
number_of Unsound = 1
number_of Lists = 2
number_of NoSuchAccount = 3
number_of NoSuchProduct = 4
number_of Amount = 5
number_of WrongKind = 6
number_of WrongPhase = 7
number_of OutOfRange = 8
number_of PositionTooLarge = 9
number_of GrossTooLarge = 10
number_of (AboveLimit limit) = 11
number_of (AccountTooLarge account) = 12
number_of HouseTooLarge = 13

-- the limit, the lowest account; 0 where the paper names none
abbrev pub figure_of : Refusal → ℤ
figure_of (AboveLimit limit) = limit
figure_of (AccountTooLarge account) = account
figure_of _ = pos 0

-- a call that is taken answers 0 and its figure
abbrev pub answer_of : Result ℤ Refusal → Reply
answer_of (Ok figure) = record { number = 0; figure = figure }
answer_of (Err refusal) = record { number = number_of refusal; figure = figure_of refusal }

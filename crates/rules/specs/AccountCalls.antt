-- 01, "The day", on one account: what a deposit, a withdrawal, a guarantee call, a transfer and a question do. Each answers a number, a
-- figure and the account after the call; a refusal leaves the account as it was. The lowest number that applies is the answer.
use Rattle.std.specs.Prelude.{Bool, ◌&&◌, ℕ, leb, ℤ, pos, ◌+ℤ◌, ◌-ℤ◌, Result, Ok, Err}
use Rattle.std.specs.Int.Signed.{le_z}
use Rattle.whole.specs.Number.{between, unless}
use Rattle.rules.specs.Sizes.{amount_ok, most_guarantee, most_gross}
use Rattle.rules.specs.Refusal.{number_of, figure_of}
use Rattle.rules.specs.Account.{is_broker, lg_value, limit_of, first_shortfall, second_shortfall, gross_of, account_ok}
use Rattle.rules.specs.declared.Account.{Account}
use Rattle.rules.specs.declared.Reply.{Reply}
use Rattle.rules.specs.declared.Standing.{Standing}
use Rattle.rules.specs.declared.Accepted.{Accepted}
use Rattle.rules.specs.declared.refusal.Refusal.{Refusal}

-- the account with another cash; with another guarantee and cap; with what is due now moved into cash
abbrev pub with_cash : Account → ℤ → Account
with_cash account z = record { kind = account.kind; cash = z; guarantee = account.guarantee; cap = account.cap; margin = account.margin; due0 = account.due0; due1 = account.due1; due2 = account.due2 }

abbrev pub with_guarantee : Account → ℤ → ℤ → Account
with_guarantee account g c = record { kind = account.kind; cash = account.cash; guarantee = g; cap = c; margin = account.margin; due0 = account.due0; due1 = account.due1; due2 = account.due2 }

-- 01, "Step": due 0 is added to cash and set to 0
abbrev pub transferred : Account → Account
transferred account = record { kind = account.kind; cash = account.cash +ℤ account.due0; guarantee = account.guarantee; cap = account.cap; margin = account.margin; due0 = pos 0; due1 = account.due1; due2 = account.due2 }

-- what a call on one account answers: a number, a figure, and the account after it
pub record Taken : Type 0 where
  pub number : ℕ
  pub figure : ℤ
  pub account : Account

-- taken, with its figure and the account after; refused, with the number and its figure, 0 where the paper names none
abbrev pub taken : ℤ → Account → Taken
taken z account = record { number = 0; figure = z; account = account }

abbrev pub refused_at : ℕ → ℤ → Account → Taken
refused_at k z account = record { number = k; figure = z; account = account }

abbrev pub reply_of : Taken → Reply
reply_of t = record { number = t.number; figure = t.figure }

-- a call on an account that is accepted, or refused: a refusal gives the account back as it was
abbrev pub outcome : Account → Result Accepted Refusal → Taken
outcome account (Ok accepted) = taken accepted.figure accepted.account
outcome account (Err refusal) = refused_at (number_of refusal) (figure_of refusal) account

-- a deposit adds its amount to cash: 5 amount out of range, 10 gross would pass 10^15; the figure is the new cash
unfoldable pub deposited : Account → ℤ → Taken
deposited account x =
    unless (amount_ok x) (refused_at 5 (pos 0) account)
    (unless (leb (gross_of (with_cash account (account.cash +ℤ x))) most_gross) (refused_at 10 (pos 0) account)
    (taken (account.cash +ℤ x) (with_cash account (account.cash +ℤ x))))

-- a withdrawal takes its amount from cash: 5 amount out of range, 11 above the limit, whose figure is the limit; the figure is the new cash
unfoldable pub withdrawn : Account → ℤ → Taken
withdrawn account x =
    unless (amount_ok x) (refused_at 5 (pos 0) account)
    (unless (le_z x (limit_of account)) (refused_at 11 (limit_of account) account)
    (taken (account.cash -ℤ x) (with_cash account (account.cash -ℤ x))))

-- a guarantee call puts in the new guarantee and cap: 5 out of range, 6 for an L; the figure is the new LG value
abbrev pub guarantee_ok : ℤ → Bool
guarantee_ok x = between (pos 0) (pos most_guarantee) x

unfoldable pub guaranteed : Account → ℤ → ℤ → Taken
guaranteed account g c =
    unless (guarantee_ok g && guarantee_ok c) (refused_at 5 (pos 0) account)
    (unless (is_broker account) (refused_at 6 (pos 0) account)
    (taken (lg_value (with_guarantee account g c)) (with_guarantee account g c)))

-- a question only reads: limit and both shortfalls
unfoldable pub standing_of : Account → Standing
standing_of account = record { number = 0; limit = limit_of account; first = first_shortfall account; second = second_shortfall account }

-- the teller window, on a single record of which nothing is known: 1 where it is not sound
unfoldable pub teller_deposit : Account → ℤ → Taken
teller_deposit account x = unless (account_ok account) (refused_at 1 (pos 0) account) (deposited account x)

unfoldable pub teller_withdrawal : Account → ℤ → Taken
teller_withdrawal account x = unless (account_ok account) (refused_at 1 (pos 0) account) (withdrawn account x)

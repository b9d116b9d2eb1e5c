-- 01, "The margin rules", on one account: the eight figures before its positions.
use Rattle.std.specs.Prelude.{Bool, cond, ◌&&◌, ℕ, ◌+◌, leb, ℤ, pos, nat_abs, ◌+ℤ◌, ◌-ℤ◌, ◌*ℤ◌}
use Rattle.whole.specs.Number.{is, between, min_z, max_z, takes_away, floor_div}
use Rattle.rules.specs.Sizes.{most_guarantee, most_gross, most_margin}
use Rattle.rules.specs.declared.Account.{Account}

-- an account's kind: 0 broker F, 1 liquidity provider L
abbrev pub is_broker : Account → Bool
is_broker account = is 0 account.kind

-- Source 001, article 17: the LG value is guarantee × 99 / 100 rounded down (house), at most the cap.
unfoldable pub lg_value : Account → ℤ
lg_value account = min_z (floor_div (account.guarantee *ℤ pos 99) 100) account.cap

-- Source 001, 2(2): deposit is cash + LG value.
unfoldable pub deposit_of : Account → ℤ
deposit_of account = account.cash +ℤ lg_value account

-- Source 001, 2(14): required margin is initial margin minus all three dues. It may be negative.
unfoldable pub required_of : Account → ℤ
required_of account = account.margin -ℤ account.due0 -ℤ account.due1 -ℤ account.due2

-- Source 001, article 6: required minus deposit, or 0.
unfoldable pub first_shortfall : Account → ℤ
first_shortfall account = max_z (pos 0) (required_of account -ℤ deposit_of account)

-- Source 001, 2(16), as M-101 reads it, of an L: what due 1 takes away (|due 1| where it is negative, else 0) minus due 0, or 0 if that is negative.
unfoldable pub next_day_need : Account → ℤ
next_day_need account = max_z (pos 0) (takes_away account.due1 -ℤ account.due0)

-- Source 001, article 6: F, what due 0 takes away (its absolute value if negative, else 0) minus cash, or 0; L, next-day need minus cash, or 0.
unfoldable pub second_shortfall : Account → ℤ
second_shortfall account = max_z (pos 0) (cond (is_broker account) (takes_away account.due0) (next_day_need account) -ℤ account.cash)

-- Source 001, article 8: excess one is deposit minus required.
unfoldable pub excess_one : Account → ℤ
excess_one account = deposit_of account -ℤ required_of account

-- Source 001, article 8: excess two, F, cash + due 0 - initial margin; L, cash + due 1 - initial margin, less |due 0| if due 0 is negative.
unfoldable pub excess_two : Account → ℤ
excess_two account =
    cond (is_broker account)
    (account.cash +ℤ account.due0 -ℤ account.margin)
    (account.cash +ℤ account.due1 -ℤ account.margin -ℤ takes_away account.due0)

-- Source 001, article 8: the least of cash and the two excesses, or 0 if that is negative. Cash is the cash now (house).
unfoldable pub limit_of : Account → ℤ
limit_of account = max_z (pos 0) (min_z account.cash (min_z (excess_one account) (excess_two account)))

-- 01, "Units and sizes": gross is |cash| plus the absolute values of the three dues.
abbrev pub gross_of : Account → ℕ
gross_of account = nat_abs account.cash + nat_abs account.due0 + nat_abs account.due1 + nat_abs account.due2

-- 01, "The ledger's words": an L has guarantee and cap 0
abbrev pub guarantee_limit : Account → ℤ
guarantee_limit account = cond (is_broker account) (pos most_guarantee) (pos 0)

-- 01, "The ledger's words": a sound record is one whose figures, gross included, are in range, with guarantee and cap 0 for an L.
unfoldable pub account_ok : Account → Bool
account_ok account =
    between (pos 0) (pos 1) account.kind
    && between (pos 0) (guarantee_limit account) account.guarantee
    && between (pos 0) (guarantee_limit account) account.cap
    && between (pos 0) (pos most_margin) account.margin
    && leb (gross_of account) most_gross

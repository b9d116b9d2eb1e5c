-- The next-day need of document 01, which M-101 changes: kept to be compared with (`FormerNeedLaws`). No contract cites it.
use Rattle.std.specs.Prelude.{cond, ℤ, pos, ◌-ℤ◌}
use Rattle.std.specs.Int.Signed.{lt_z}
use Rattle.whole.specs.Number.{max_z, takes_away}
use Rattle.rules.specs.Account.{is_broker, first_shortfall, limit_of}
use Rattle.rules.specs.declared.Account.{Account}
use Rattle.rules.specs.declared.Standing.{Standing}

-- 01, "The margin rules": the next-day need is 0 unless due 1 is negative; then |due 1| minus due 0, or 0 if that is negative
unfoldable pub former_need : Account → ℤ
former_need account = cond (lt_z account.due1 (pos 0)) (max_z (pos 0) (takes_away account.due1 -ℤ account.due0)) (pos 0)

-- the second shortfall by that need, and what a question answered by it, with limit and first shortfall as they stand
unfoldable pub former_second_shortfall : Account → ℤ
former_second_shortfall account = max_z (pos 0) (cond (is_broker account) (takes_away account.due0) (former_need account) -ℤ account.cash)

abbrev pub former_standing : Account → Standing
former_standing account = record { number = 0; limit = limit_of account; first = first_shortfall account; second = former_second_shortfall account }

-- M-101, liquidity providers who owe today: the request's figure, and others at the edges of the need, as one list beside R1 to R12. What a figure does not
-- name is any; the provider of the request has no margin and nothing due later. R9 and 01's sheet stay as they were. Assumes nothing.
use Rattle.std.specs.Prelude.{◌≡◌, refl, ℤ, pos, neg_ℤ}
use Rattle.whole.specs.Number.{min_z, max_z, takes_away, floor_div}
use Rattle.rules.specs.Account.{lg_value, deposit_of, required_of, next_day_need, second_shortfall, excess_one, excess_two, limit_of}
use Rattle.rules.specs.FormerNeed.{former_need, former_second_shortfall}
use Rattle.rules.specs.declared.Account.{Account}
use Rattle.figures.specs.Figures.{L, account}

-- an L, which has no guarantee and no cap
abbrev pub provider : (cash margin due0 due1 due2 : ℤ) → Account
provider cash margin due0 due1 due2 = account L cash (pos 0) (pos 0) margin due0 due1 due2

-- due to pay 100,000 today and receive 300,000 tomorrow, with 80,000 held
abbrev pub owing : Account
owing = provider (pos 80000) (pos 0) (neg_ℤ (pos 100000)) (pos 300000) (pos 0)

-- due to pay on both days; with cash below 0, to receive on both
abbrev pub both : ℤ → ℤ → Account
both margin due2 = provider (pos 80000) margin (neg_ℤ (pos 100000)) (neg_ℤ (pos 50000)) due2

abbrev pub below : ℤ → ℤ → Account
below margin due2 = provider (neg_ℤ (pos 5)) margin (pos 7) (pos 3) due2

pub record OwesToday : Type 0 where
  -- his need is 100,000 and his second shortfall 20,000; the limit is 80,000. Before, the sheet asked him for nothing
  pub today : (next_day_need owing ≡ pos 100000) × (second_shortfall owing ≡ pos 20000) × (limit_of owing ≡ pos 80000)
  pub before : former_second_shortfall owing ≡ pos 0
  -- cash 80,000, dues -100,000, -50,000: need 150,000, shortfall 70,000
  pub both_days : (margin due2 : ℤ) → (next_day_need (both margin due2) ≡ pos 150000) × (second_shortfall (both margin due2) ≡ pos 70000)
  -- with 100,000 held he is short of nothing
  pub held : second_shortfall (provider (pos 100000) (pos 0) (neg_ℤ (pos 100000)) (pos 300000) (pos 0)) ≡ pos 0
  -- dues 20,000, -50,000: need 30,000
  pub received_in_part : (cash margin due2 : ℤ) → next_day_need (provider cash margin (pos 20000) (neg_ℤ (pos 50000)) due2) ≡ pos 30000
  -- dues 60,000, -50,000: need 0
  pub received : (cash margin due2 : ℤ) → next_day_need (provider cash margin (pos 60000) (neg_ℤ (pos 50000)) due2) ≡ pos 0
  -- cash -5, dues 7, 3: need 0, shortfall 5
  pub cash_below : (margin due2 : ℤ) → (next_day_need (below margin due2) ≡ pos 0) × (second_shortfall (below margin due2) ≡ pos 5)
  -- due 0 of -10^15, all else 0: shortfall 10^15, the most that there is (`rules/specs/AccountLaws`: `second_in`)
  pub most : second_shortfall (provider (pos 0) (pos 0) (neg_ℤ (pos 1000000000000000)) (pos 0) (pos 0)) ≡ pos 1000000000000000

pub owes_today : OwesToday
unfolding min_z max_z takes_away floor_div lg_value deposit_of required_of excess_one excess_two limit_of next_day_need second_shortfall former_need former_second_shortfall
owes_today =
    record {
      today = (refl, refl, refl);
      before = refl;
      both_days = λ margin due2. (refl, refl);
      held = refl;
      received_in_part = λ cash margin due2. refl;
      received = λ cash margin due2. refl;
      cash_below = λ margin due2. (refl, refl);
      most = refl;
    }

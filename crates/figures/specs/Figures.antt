-- 01, "Figures by hand": the numbered figures as one list. Each says what a rule's definition gives at the figure's numbers; what a figure
-- does not name (a price, the other figures of an account) is any. A proof of one is the rule, computed. Assumes nothing.
use Rattle.std.specs.Prelude.{◌≡◌, refl, [], ◌∷◌, ℕ, ◌<◌, ℤ, pos, neg_ℤ, ◌+ℤ◌, ◌*ℤ◌}
use Rattle.std.proofs.Common.{ap}
use Rattle.whole.specs.Number.{min_z, max_z, takes_away, floor_div}
use Rattle.whole.specs.Reps.{leaf}
use Rattle.whole.specs.Whole.{whole, facts, by}
use Rattle.rules.specs.Product.{margin_of, raw_difference, difference_of}
use Rattle.rules.specs.Account.{lg_value, deposit_of, required_of, excess_one, excess_two, limit_of, first_shortfall, second_shortfall}
use Rattle.rules.specs.AccountCalls.{transferred, refused_at, withdrawn}
use Rattle.rules.specs.declared.Account.{Account}
use Rattle.portions.specs.Share.{shares}
use Rattle.shares.specs.LossExamples.{r11, r12_any}

-- kinds: a yen product and a cross; a broker and a liquidity provider
abbrev yen : ℤ
yen = pos 0

abbrev cross : ℤ
cross = pos 1

abbrev F : ℤ
F = pos 0

abbrev pub L : ℤ
L = pos 1

abbrev pub account : (kind cash guarantee cap margin due0 due1 due2 : ℤ) → Account
account kind cash guarantee cap margin due0 due1 due2 = record { kind = kind; cash = cash; guarantee = guarantee; cap = cap; margin = margin; due0 = due0; due1 = due1; due2 = due2 }

-- the accounts of R8, whose guarantee and cap the figure leaves open, R9 and R10
abbrev pub eighth : ℤ → ℤ → Account
eighth guarantee cap = account F (pos 1000000) guarantee cap (pos 600000) (neg_ℤ (pos 100000)) (pos 50000) (pos 0)

abbrev pub ninth : Account
ninth = account L (pos 1000000) (pos 0) (pos 0) (pos 600000) (pos 100000) (neg_ℤ (pos 50000)) (pos 0)

abbrev pub tenth : Account
tenth = account F (pos 80000) (pos 0) (pos 0) (pos 600000) (neg_ℤ (pos 100000)) (pos 0) (pos 0)

pub record Figures : Type 0 where
  -- 30 lots, price 1,502,500, rate 400: margin 180,300
  pub R1 : margin_of (pos 30) (pos 1502500) (pos 400) ≡ 180300
  -- 1 lot, 1,502,501, 333: 5,004
  pub R2 : margin_of (pos 1) (pos 1502501) (pos 333) ≡ 5004
  -- 7 lots, move +3, from any price t: +2 for the buyer
  pub R3 : (t quoted : ℤ) → difference_of yen (pos 7) (pos 7 *ℤ t) (t +ℤ pos 3) quoted ≡ pos 2
  -- and -3 for the seller
  pub R4 : (t quoted : ℤ) → difference_of yen (neg_ℤ (pos 7)) (neg_ℤ (pos 7) *ℤ t) (t +ℤ pos 3) quoted ≡ neg_ℤ (pos 3)
  -- cross, 10 lots bought at 10,850, close 10,873, quote's yen price 1,502,500: +3,455
  pub R5 : difference_of cross (pos 10) (pos 10 *ℤ pos 10850) (pos 10873) (pos 1502500) ≡ pos 3455
  -- the seller: -3,456
  pub R6 : difference_of cross (neg_ℤ (pos 10)) (neg_ℤ (pos 10) *ℤ pos 10850) (pos 10873) (pos 1502500) ≡ neg_ℤ (pos 3456)
  -- guarantee and cap 1,000,001: LG value 990,000
  pub R7 : (kind cash margin due0 due1 due2 : ℤ) → lg_value (account kind cash (pos 1000001) (pos 1000001) margin due0 due1 due2) ≡ pos 990000
  -- F, cash 1,000,000, LG value 990,000, margin 600,000, dues -100,000, 50,000, 0: limit 300,000; 300,001 is refused.
  -- By whatever guarantee and cap that LG value comes; those of R7 are such
  pub R8 : (guarantee cap : ℤ) → lg_value (eighth guarantee cap) ≡ pos 990000 → (limit_of (eighth guarantee cap) ≡ pos 300000) × (withdrawn (eighth guarantee cap) (pos 300001) ≡ refused_at 11 (pos 300000) (eighth guarantee cap))
  -- L, cash 1,000,000, margin 600,000, dues 100,000, -50,000, 0: limit 350,000; after its transfer 450,000
  pub R9 : (limit_of ninth ≡ pos 350000) × (limit_of (transferred ninth) ≡ pos 450000)
  -- F, cash 80,000, margin 600,000, due 0 -100,000: shortfalls 620,000 and 20,000
  pub R10 : (first_shortfall tenth ≡ pos 620000) × (second_shortfall tenth ≡ pos 20000)
  -- weights 5, 7, 9 million, layer 10: 3, 3, 4
  pub R11 : shares 10 (5000000 ∷ 7000000 ∷ 9000000 ∷ []) ≡ pos 3 ∷ pos 3 ∷ pos 4 ∷ []
  -- three equal weights, layer 10: 4, 3, 3
  pub R12 : (w : ℕ) → 0 < w → shares 10 (w ∷ w ∷ w ∷ []) ≡ pos 4 ∷ pos 3 ∷ pos 3 ∷ []

-- ---- the proofs

bought : (t : ℤ) → raw_difference (pos 7) (pos 7 *ℤ t) (t +ℤ pos 3) ≡ pos 21
bought t = let l = leaf t in by (search whole depth 20) (omega facts)

sold : (t : ℤ) → raw_difference (neg_ℤ (pos 7)) (neg_ℤ (pos 7) *ℤ t) (t +ℤ pos 3) ≡ neg_ℤ (pos 21)
sold t = let l = leaf t in by (search whole depth 20) (omega facts)

-- the LG value alone is used of the guarantee and the cap
eighth_limit : (guarantee cap : ℤ) → lg_value (eighth guarantee cap) ≡ pos 990000 → limit_of (eighth guarantee cap) ≡ pos 300000
unfolding deposit_of required_of excess_one excess_two limit_of min_z max_z
eighth_limit guarantee cap h = rw h

eighth-refused : (guarantee cap : ℤ) → lg_value (eighth guarantee cap) ≡ pos 990000 → withdrawn (eighth guarantee cap) (pos 300001) ≡ refused_at 11 (pos 300000) (eighth guarantee cap)
unfolding withdrawn
eighth-refused guarantee cap h = rw (eighth_limit guarantee cap h)

pub figures : Figures
unfolding min_z max_z takes_away floor_div difference_of lg_value deposit_of required_of excess_one excess_two limit_of first_shortfall second_shortfall
figures =
    record {
      R1 = refl;
      R2 = refl;
      R3 = λ t quoted. ap (λ z. floor_div z 10) (bought t);
      R4 = λ t quoted. ap (λ z. floor_div z 10) (sold t);
      R5 = refl;
      R6 = refl;
      R7 = λ kind cash margin due0 due1 due2. refl;
      R8 = λ guarantee cap h. (eighth_limit guarantee cap h, eighth-refused guarantee cap h);
      R9 = (refl, refl);
      R10 = (refl, refl);
      R11 = r11;
      R12 = r12_any;
    }

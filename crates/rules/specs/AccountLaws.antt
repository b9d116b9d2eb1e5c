-- What a sound record gives: bounds of its figures and of all that the rules compute from them, which so fit 64 bits. Assumes nothing.
use Rattle.std.specs.Prelude.{◌≡◌, Bool, true, false, cond, ◌&&◌, ◌≤◌, leb, ℤ, pos, nat_abs, ◌+ℤ◌, ◌≤ℤ◌}
use Rattle.std.proofs.Common.{⊎_elim, arith, leb-true}
use Rattle.std.specs.Int.Signed.{lt_z}
use Rattle.whole.specs.Number.{between, takes_away}
use Rattle.whole.specs.Reps.{leaf}
use Rattle.whole.specs.Whole.{whole, known, facts, by, told}
use Rattle.whole.specs.Tests.{both, InRange, in-range, true_or_false}
use Rattle.rules.specs.Sizes.{most_guarantee, most_gross, most_margin}
use Rattle.rules.specs.Account.{is_broker, guarantee_limit, gross_of, account_ok, lg_value, deposit_of, required_of, next_day_need, second_shortfall}
use Rattle.rules.specs.ProductLaws.{at_least}
use Rattle.rules.specs.declared.Account.{Account}

-- ---- a sound record, test by test, and back

pub record Tests (a : Account) : Type 0 where
  pub kind_ok : between (pos 0) (pos 1) a.kind ≡ true
  pub guarantee-ok : between (pos 0) (guarantee_limit a) a.guarantee ≡ true
  pub cap_ok : between (pos 0) (guarantee_limit a) a.cap ≡ true
  pub margin_ok : between (pos 0) (pos most_margin) a.margin ≡ true
  pub gross_ok : leb (gross_of a) most_gross ≡ true

pub account_tests : (a : Account) → account_ok a ≡ true → Tests a
unfolding account_ok
account_tests a e =
    let k = between (pos 0) (pos 1) a.kind in let g = between (pos 0) (guarantee_limit a) a.guarantee in
    let c = between (pos 0) (guarantee_limit a) a.cap in let m = between (pos 0) (pos most_margin) a.margin in
    let t = leb (gross_of a) most_gross in
    let h = both (k && g && c && m) t e in let i = both (k && g && c) m h.0 in let j = both (k && g) c i.0 in let l = both k g j.0 in
    record { kind_ok = l.0; guarantee-ok = l.1; cap_ok = j.1; margin_ok = i.1; gross_ok = h.1 }

pub account-ok : (a : Account) → Tests a → account_ok a ≡ true
unfolding account_ok
account-ok a t = rw (t.kind_ok, t.guarantee-ok, t.cap_ok, t.margin_ok) t.gross_ok

-- ---- the bounds, as `omega` reads them

pub record AccountIn (a : Account) : Type 0 where
  pub kind_in : nat_abs a.kind ≤ 1
  pub guarantee_in : nat_abs a.guarantee ≤ most_guarantee
  pub guarantee_low : pos 0 ≤ℤ a.guarantee
  pub cap_in : nat_abs a.cap ≤ most_guarantee
  pub cap_low : pos 0 ≤ℤ a.cap
  pub margin_in : nat_abs a.margin ≤ most_margin
  pub margin_low : pos 0 ≤ℤ a.margin
  pub cash_in : nat_abs a.cash ≤ most_gross
  pub due0_in : nat_abs a.due0 ≤ most_gross
  pub due1_in : nat_abs a.due1 ≤ most_gross
  pub due2_in : nat_abs a.due2 ≤ most_gross
  pub gross_in : gross_of a ≤ most_gross

-- within an F's limit or an L's is within an F's
guaranteed_in : (t : Bool) (z : ℤ) → between (pos 0) (cond t (pos most_guarantee) (pos 0)) z ≡ true → InRange 0 most_guarantee z
guaranteed_in true z e = in-range 0 most_guarantee z e
guaranteed_in false z e = let r = in-range 0 0 z e in record { low = r.low; high = omega (arith, r.high); nat = r.nat }

pub account_facts : (a : Account) → account_ok a ≡ true → AccountIn a
account_facts a e =
    let t = account_tests a e in let k = in-range 0 1 a.kind t.kind_ok in let m = in-range 0 most_margin a.margin t.margin_ok in
    let g = guaranteed_in (is_broker a) a.guarantee t.guarantee-ok in let c = guaranteed_in (is_broker a) a.cap t.cap_ok in
    let s = leb-true (gross_of a) most_gross t.gross_ok in
    record {
      kind_in = k.high;
      guarantee_in = g.high;
      guarantee_low = at_least 0 most_guarantee a.guarantee g;
      cap_in = c.high;
      cap_low = at_least 0 most_guarantee a.cap c;
      margin_in = m.high;
      margin_low = at_least 0 most_margin a.margin m;
      cash_in = omega (arith, s);
      due0_in = omega (arith, s);
      due1_in = omega (arith, s);
      due2_in = omega (arith, s);
      gross_in = s;
    }

-- ---- the figures of a sound record

pub lg_in : (a : Account) → account_ok a ≡ true → nat_abs (lg_value a) ≤ most_guarantee
unfolding lg_value
lg_in a e = let i = account_facts a e in by (search whole depth 20) (omega facts)

pub deposit_in : (a : Account) → account_ok a ≡ true → nat_abs (deposit_of a) ≤ 1001000000000000
unfolding deposit_of
deposit_in a e = let i = account_facts a e in let l = lg_in a e in by (search whole depth 20) (omega facts)

pub required_in : (a : Account) → account_ok a ≡ true → nat_abs (required_of a) ≤ 1008000000000000
unfolding required_of
required_in a e = let i = account_facts a e in by (search whole depth 20) (omega facts)

-- the next-day need by cases: where due 1 is negative, what both dues take away together; else what due 0 takes away
pub need-of-both : (a : Account) → lt_z a.due1 (pos 0) ≡ true → next_day_need a ≡ takes_away (a.due0 +ℤ a.due1)
unfolding next_day_need takes_away
need-of-both a h =
    let l = leaf a.due0 in let m = leaf a.due1 in
    by (search whole depth 20) (omega (facts, told h (search known depth 20) (omega facts)))

pub need-of-today : (a : Account) → lt_z a.due1 (pos 0) ≡ false → next_day_need a ≡ takes_away a.due0
unfolding next_day_need takes_away
need-of-today a h =
    let l = leaf a.due0 in let m = leaf a.due1 in
    by (search whole depth 20) (omega (facts, told h (search known depth 20) (omega facts)))

-- a need is of two dues, a second shortfall of a need and cash: neither passes the most that gross may be
pub need_in : (a : Account) → account_ok a ≡ true → nat_abs (next_day_need a) ≤ most_gross
unfolding next_day_need takes_away
need_in a e = let i = account_facts a e in by (search whole depth 20) (omega facts)

pub second_in : (a : Account) → account_ok a ≡ true → nat_abs (second_shortfall a) ≤ most_gross
unfolding second_shortfall next_day_need takes_away
second_in a e =
    let i = account_facts a e in
    ⊎_elim (λ h. by (search whole depth 20) (omega facts)) (λ h. by (search whole depth 20) (omega facts)) (true_or_false (is_broker a))

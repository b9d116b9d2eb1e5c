-- `trade_at` meets its contract: the two positions after the trade, tested, then written. Assumes nothing.
use mathlib.Core.Path.{◌≡◌, refl, sym, ap, ap₂, ◌∙◌}
use mathlib.Core.List.{List}
use Prim.Native.Nat.{ℕ, ◌≤◌, ◌^◌}
use native.Mathlib.Omega.{arith}
use lib.IntN.{ℤ, pos, neg_ℤ, nat_abs, ◌+ℤ◌, ◌-ℤ◌, ◌*ℤ◌, +ℤ_idl}
use mir.Syntax.{w64}
use mir.Val.{SFits, to_z, of_z}
use Rattle.whole.specs.Tests.{fails, holds}
use Rattle.whole.specs.Signs.{arg}
use Rattle.whole.specs.Reps.{small}
use Rattle.rules.specs.ProductLaws.{times_in, abs_neg}
use Rattle.places.specs.Place.{View, get, put, lots, book}
use Rattle.places.specs.ByAccount.{by_account}
use Rattle.soundness.specs.Perform.{replies}
use Rattle.soundness.specs.PerformLaws.{refused_as}
use Rattle.acts.specs.Trade.{position_in, traded}
use Rattle.std.proofs.Common.{not}
use Rattle.ledger.proofs.trading.trade_at.Goals.{After-position_after-bought, After-position_after-sold, After-position_ok, After-position_ok-2, Start}
use Rattle.ledger.proofs.trading.trade_at.Goals as goal

-- lots and value of the trade, and both with the other sign, as the machine has them
module _ (s : Start) where
  abbrev W : List ℤ
  W = s.args.words.now

  abbrev g : View
  g = get by_account s.args.s W

  abbrev q : ℤ
  q = s.args.lots

  abbrev value : ℤ
  value = q *ℤ s.args.price

  abbrev lotsBits : ℕ
  lotsBits = of_z w64 q

  abbrev valueBits : ℕ
  valueBits = of_z w64 (to_z w64 lotsBits *ℤ to_z w64 (of_z w64 s.args.price))

  value_is : to_z w64 lotsBits *ℤ to_z w64 (of_z w64 s.args.price) ≡ value
  value_is = ap₂ ◌*ℤ◌ (arg s.ranges.lots) (arg s.ranges.price)

  value_in : nat_abs value ≤ 5000000000000
  value_in = times_in q s.args.price s.requires.lots_bound_1 s.requires.lots_bound_2

  value-fits : SFits w64 (to_z w64 lotsBits *ℤ to_z w64 (of_z w64 s.args.price))
  value-fits = rw value_is (small value (10 ^ 15) (omega (arith, value_in)) (omega arith))

  value-back : to_z w64 valueBits ≡ value
  value-back = arg value-fits ∙ value_is

  -- 0 - z of a word that is z
  less-is : (z : ℤ) (b : ℕ) → to_z w64 b ≡ z → pos 0 -ℤ to_z w64 b ≡ neg_ℤ z
  less-is z b e = ap (λ y. pos 0 -ℤ y) e ∙ +ℤ_idl (neg_ℤ z)

  less-fits : (z : ℤ) (b : ℕ) → to_z w64 b ≡ z → nat_abs z ≤ 10 ^ 15 → SFits w64 (pos 0 -ℤ to_z w64 b)
  less-fits z b e h = rw (less-is z b e) (small (neg_ℤ z) (10 ^ 15) (omega (arith, abs_neg z)) (omega arith))

  q_back : to_z w64 lotsBits ≡ q
  q_back = arg s.ranges.lots

  q-in : nat_abs q ≤ 10 ^ 15
  q-in = omega (arith, s.requires.lots_bound_1)

  v-in : nat_abs value ≤ 10 ^ 15
  v-in = omega (arith, value_in)

  less-q : to_z w64 (of_z w64 (pos 0 -ℤ to_z w64 lotsBits)) ≡ neg_ℤ q
  less-q = arg (less-fits q lotsBits q_back q-in) ∙ less-is q lotsBits q_back

  less-v : to_z w64 (of_z w64 (pos 0 -ℤ to_z w64 valueBits)) ≡ neg_ℤ value
  less-v = arg (less-fits value valueBits value-back v-in) ∙ less-is value valueBits value-back

-- the buyer's position after the trade, and its test
module _ (c : After-position_after-bought) where
  abbrev s₁ : Start
  s₁ = c.before

  bought-lots : c.position_after-bought.result.lots ≡ g s₁ (lots s₁.args.buyer s₁.args.j) +ℤ q s₁
  bought-lots = c.position_after-bought.ensures.0 ∙ ap (λ z. g s₁ (lots s₁.args.buyer s₁.args.j) +ℤ z) (q_back s₁)

  bought-book : c.position_after-bought.result.book ≡ g s₁ (book s₁.args.buyer s₁.args.j) +ℤ value s₁
  bought-book = c.position_after-bought.ensures.1 ∙ ap (λ z. g s₁ (book s₁.args.buyer s₁.args.j) +ℤ z) (value-back s₁)

bought-in : (c : After-position_ok) →
    let s = c in
    c.position_ok.result ≡ position_in (g s.before.before) s.args.j (g s.before.before (lots s.args.buyer s.args.j) +ℤ q s.before.before) (g s.before.before (book s.args.buyer s.args.j) +ℤ value s.before.before)
bought-in c =
    let d = c in let s = d in
    c.position_ok.ensures ∙ (λ i. position_in (g s.before.before) s.args.j (bought-lots d.before i) (bought-book d.before i))

-- the seller's
module _ (c : After-position_after-sold) where
  abbrev s₂ : Start
  s₂ = c.before.before.before.before

  sold-lots : c.position_after-sold.result.lots ≡ g s₂ (lots s₂.args.seller s₂.args.j) -ℤ q s₂
  sold-lots = c.position_after-sold.ensures.0 ∙ ap (λ z. g s₂ (lots s₂.args.seller s₂.args.j) +ℤ z) (less-q s₂)

  sold-book : c.position_after-sold.result.book ≡ g s₂ (book s₂.args.seller s₂.args.j) -ℤ value s₂
  sold-book = c.position_after-sold.ensures.1 ∙ ap (λ z. g s₂ (book s₂.args.seller s₂.args.j) +ℤ z) (less-v s₂)

sold-in : (c : After-position_ok-2) →
    let s = s₂ c.before in
    c.position_ok-2.result ≡ position_in (g s) s.args.j (g s (lots s.args.seller s.args.j) -ℤ q s) (g s (book s.args.seller s.args.j) -ℤ value s)
sold-in c =
    let d = c in let s = s₂ d.before in
    c.position_ok-2.ensures ∙ (λ i. position_in (g s) s.args.j (sold-lots d.before i) (sold-book d.before i))

pub overflow_mul-value : goal.overflow_mul-value
overflow_mul-value c = value-fits c

pub position_after-bought-requires : goal.position_after-bought-requires
position_after-bought-requires c = let s = c in record { ledger = s.requires.ledger; a_lt_n = (s.requires.buyer_lt_n.0, s.requires.buyer_lt_n.2); lots_bound_1 = rw (q_back s) (q-in s); lots_bound_2 = rw (value-back s) (v-in s) }

pub returns-then-not-position_ok : goal.returns-then-not-position_ok
returns-then-not-position_ok c =
    let s = c in
    refused_as by_account s.args.s (W (goal.at.returns-then-not-position_ok s).Start) (replies 9 (pos 0)) 9 (traded s.args.buyer s.args.seller s.args.j (q (goal.at.returns-then-not-position_ok s).Start) s.args.price (g (goal.at.returns-then-not-position_ok s).Start)) refl
    (simp (fails (bought-in (goal.at.returns-then-not-position_ok c).After-position_ok) (ap not c.if-not-position_ok.true)))

pub overflow_sub-value : goal.overflow_sub-value
overflow_sub-value c = let s = c in less-fits (goal.at.overflow_sub-value s).Start (value (goal.at.overflow_sub-value s).Start) (valueBits (goal.at.overflow_sub-value s).Start) (value-back (goal.at.overflow_sub-value s).Start) (v-in (goal.at.overflow_sub-value s).Start)

pub position_after-sold-requires : goal.position_after-sold-requires
position_after-sold-requires c = let s = c in record { ledger = s.requires.ledger; a_lt_n = (s.requires.buyer_lt_n.1, s.requires.buyer_lt_n.2); lots_bound_1 = rw (less-q (goal.at.position_after-sold-requires s).Start, abs_neg (q (goal.at.position_after-sold-requires s).Start)) (q-in (goal.at.position_after-sold-requires s).Start); lots_bound_2 = rw (less-v (goal.at.position_after-sold-requires s).Start, abs_neg (value (goal.at.position_after-sold-requires s).Start)) (v-in (goal.at.position_after-sold-requires s).Start) }

pub returns-then-not-position_ok-2 : goal.returns-then-not-position_ok-2
returns-then-not-position_ok-2 c =
    let d = c in let s = s₂ (goal.at.returns-then-not-position_ok-2 d).After-position_after-sold in let one = d in
    refused_as by_account s.args.s (W s) (replies 9 (pos 0)) 9 (traded s.args.buyer s.args.seller s.args.j (q s) s.args.price (g s)) refl
    (simp (holds (bought-in (goal.at.returns-then-not-position_ok-2 one).After-position_ok) (ap not one.if-not-position_ok.false), fails (sold-in (goal.at.returns-then-not-position_ok-2 d).After-position_ok-2) (ap not c.if-not-position_ok-2.true)))

pub returns : goal.returns
returns c =
    let two = c in let d = two in let s = s₂ (goal.at.returns d).After-position_after-sold in let one = d in let x = s.args.s in let j = s.args.j in
    let b = one in let e = d in
    let first = c.put_position.ensures ∙ (λ i. put by_account x (put by_account x (W s) (lots s.args.buyer j) (bought-lots (goal.at.returns b).After-position_after-bought i)) (book s.args.buyer j) (bought-book (goal.at.returns b).After-position_after-bought i)) in
    (λ i. (record { number = 0; figure = pos 0 }, (c.put_position-2.ensures ∙ (λ i. put by_account x (put by_account x (first i) (lots s.args.seller j) (sold-lots (goal.at.returns e).After-position_after-sold i)) (book s.args.seller j) (sold-book (goal.at.returns e).After-position_after-sold i))) i))
    ∙ sym (rw (holds (bought-in (goal.at.returns one).After-position_ok) (ap not one.if-not-position_ok.false), holds (sold-in (goal.at.returns d).After-position_ok-2) (ap not two.if-not-position_ok-2.false)) refl)

-- The figures that a close computes on a sound ledger stay within 64 bits: `Row` is what is known of an account's positions and their products,
-- `part_in`, `due_in` and `charges_in` the bounds of the new dues and of the new margin, `ready` how all of it follows. Assumes nothing.
use Rattle.std.specs.Prelude.{List, Bool, true, false, cond, not, ◌&&◌, ◌≡◌, refl, ℕ, zero, suc, ◌+◌, ◌-◌, ◌*◌, ◌≤◌, ◌<◌, ltb, eqb, ℤ, pos, nat_abs, ◌+ℤ◌, length}
use Rattle.std.proofs.Common.{arith, eqb-true, ltb-true}
use Rattle.whole.specs.Number.{within, between, is, is_one_of}
use Rattle.whole.specs.Counting.{all, sum, total, figure_at}
use Rattle.whole.specs.CountingLaws.{all-at, sum_abs, total-most}
use Rattle.whole.specs.Tests.{both, InRange, in-range, is-one-of, within_true, abs_add}
use Rattle.rules.specs.Sizes.{is_yen, most_price, most_book, most_lots, most_rate, most_gross}
use Rattle.rules.specs.Product.{rate_of}
use Rattle.rules.specs.ProductLaws.{Fair, fair_in, rate_in, margin_in, price-most}
use Rattle.rules.specs.Account.{account_ok}
use Rattle.rules.specs.AccountLaws.{account_facts}
use Rattle.places.specs.declared.Shape.{Shape}
use Rattle.places.specs.Act.{most_products}
use Rattle.places.specs.Place.{Place, View, dues, product_kind, floor_mark, price, principal, quote, cash, due, lots, book}
use Rattle.soundness.specs.Sound.{account_at, product_ok, names_yen, yen_pair, cross_pair, pair_ok}
use Rattle.soundness.specs.SoundLaws.{Facts}
use Rattle.daily.specs.DailyFigures.{lengths_ok, figure_ok, difference, added_to, next_due, new_due, charge}

-- the number of the product whose price is Y, by the words of the product j (`yen_product`)
abbrev yen_of : ℤ → ℕ → ℤ → ℕ
yen_of kind j principal = cond (is_yen kind) j (nat_abs principal)

-- ---- what is known of an account's position in the product j
pub record Cell (prices : List ℤ) (j : ℕ) (kind lots book quote : ℤ) : Type 0 where
  pub lots_in : nat_abs lots ≤ most_lots
  pub book_in : nat_abs book ≤ most_book kind
  pub price_in : InRange 1 (most_price kind) (figure_at prices j)
  pub quote_price : InRange 1 5000000 (figure_at prices (nat_abs quote))

pub record Row (prices : List ℤ) (s : Shape) (g : View) (a : ℕ) : Type 0 where
  pub at : (j : ℕ) → j < s.p → Cell prices j (g (product_kind j)) (g (lots a j)) (g (book a j)) (g (quote j))

-- ---- what is known of the products: a price for each, and those that the quote and Y name among them
pub record Named (prices : List ℤ) (s : Shape) (g : View) : Type 0 where
  pub priced : length prices ≡ s.p
  pub quote_in : (j : ℕ) → j < s.p → nat_abs (g (quote j)) < s.p
  pub yen_in : (j : ℕ) → j < s.p → yen_of (g (product_kind j)) j (g (principal j)) < s.p
  pub yen_price : (j : ℕ) → j < s.p → InRange 1 5000000 (figure_at prices (yen_of (g (product_kind j)) j (g (principal j))))

pub record Rates (p : ℕ) (rates8 rates104 : List ℤ) : Type 0 where
  pub long8 : length rates8 ≡ p
  pub long104 : length rates104 ≡ p
  pub in8 : (j : ℕ) → j < p → InRange 1 most_rate (figure_at rates8 j)
  pub in104 : (j : ℕ) → j < p → InRange 1 most_rate (figure_at rates104 j)

-- the lags name dues
pub record Lags (p : ℕ) (lags : List ℤ) : Type 0 where
  pub long : length lags ≡ p
  pub names : (j : ℕ) → j < p → nat_abs (figure_at lags j) < dues

-- an account's dues
pub record EachDueIn (g : View) (a : ℕ) : Type 0 where
  pub at : (d : ℕ) → d < dues → nat_abs (g (due a d)) ≤ most_gross

-- ---- the four lengths as facts

pub record Lengths (p : ℕ) (prices rates8 rates104 lags : List ℤ) : Type 0 where
  pub prices_long : length prices ≡ p
  pub rates8_long : length rates8 ≡ p
  pub rates104_long : length rates104 ≡ p
  pub lags_long : length lags ≡ p

pub lengths-of : (prices rates8 rates104 lags : List ℤ) (p : ℕ) → lengths_ok prices rates8 rates104 lags p ≡ true → Lengths p prices rates8 rates104 lags
lengths-of prices rates8 rates104 lags p e =
    let x = eqb (length prices) p in let y = eqb (length rates8) p in let z = eqb (length rates104) p in
    let h = both (x && y && z) (eqb (length lags) p) e in let i = both (x && y) z h.0 in let k = both x y i.0 in
    record {
      prices_long = eqb-true (length prices) p k.0;
      rates8_long = eqb-true (length rates8) p k.1;
      rates104_long = eqb-true (length rates104) p i.1;
      lags_long = eqb-true (length lags) p h.1;
    }

-- no close adds more than this, in size, to an account's dues together: 3 × 10^13 for each of 16 products
abbrev pub most_added : ℕ
most_added = 480000000000000

-- ---- the new words of an account whose row is known

module _ (prices : List ℤ) (s : Shape) (g : View) (a : ℕ) (r : Row prices s g a) where
  pub fair : (j : ℕ) → j < s.p → Fair (g (product_kind j)) (g (lots a j)) (g (book a j)) (figure_at prices j) (figure_at prices (nat_abs (g (quote j))))
  fair j h = let c = r.at j h in record { lots_in = c.lots_in; price_in = c.price_in.high; book_in = c.book_in; quoted_in = c.quote_price.high }

  pub difference_in : (j : ℕ) → j < s.p → nat_abs (difference prices g a j) ≤ 30000000000000
  difference_in j h = fair_in (g (product_kind j)) (g (lots a j)) (g (book a j)) (figure_at prices j) (figure_at prices (nat_abs (g (quote j)))) (fair j h)

  added_in : (lags : List ℤ) (d j : ℕ) → j < s.p → nat_abs (added_to prices lags g a d j) ≤ 30000000000000
  added_in lags d j h = go (eqb (nat_abs (figure_at lags j)) d)
    where
      go : (t : Bool) → nat_abs (cond t (difference prices g a j) (pos 0)) ≤ 30000000000000
      go true = difference_in j h
      go false = omega arith

  -- a due in range, with what the first j products add
  pub part_in : (lags : List ℤ) (d j : ℕ) (z : ℤ) → s.p ≤ most_products → j ≤ s.p → nat_abs z ≤ most_gross → nat_abs (z +ℤ sum j (added_to prices lags g a d)) ≤ 1480000000000000
  part_in lags d j z few h n =
      let m = sum_abs 30000000000000 j (added_to prices lags g a d) (λ i k. added_in lags d i (omega arith)) in
      omega (arith, abs_add z (sum j (added_to prices lags g a d)))

  pub due_in : (lags : List ℤ) (d : ℕ) → s.p ≤ most_products → nat_abs (next_due g a d) ≤ most_gross → nat_abs (new_due prices lags s g a d) ≤ 1480000000000000
  unfolding new_due
  due_in lags d few n = part_in lags d s.p (next_due g a d) few (omega arith) n

module _ (prices rates8 rates104 : List ℤ) (s : Shape) (g : View) (a : ℕ) (n : Named prices s g) (r : Row prices s g a) (t : Rates s.p rates8 rates104) where
  charge_in : (j : ℕ) → j < s.p → charge prices rates8 rates104 g a j ≤ 500000000000
  charge_in j h =
      let c = r.at j h in
      let k = rate_in (g (floor_mark j)) (figure_at rates8 j) (figure_at rates104 j) (t.in8 j h) (t.in104 j h) in
      margin_in (g (lots a j)) (figure_at prices (yen_of (g (product_kind j)) j (g (principal j)))) (rate_of (g (floor_mark j)) (figure_at rates8 j) (figure_at rates104 j)) c.lots_in (n.yen_price j h).high k.high

  -- the margin of the first j products
  pub charges_in : (j : ℕ) → j ≤ s.p → total j (charge prices rates8 rates104 g a) ≤ j * 500000000000
  charges_in j h = total-most 500000000000 j (charge prices rates8 rates104 g a) (λ i k. charge_in i (omega arith))

-- ---- what a sound ledger and lists in range give

-- the product j's figures are in range
abbrev pub InFigures : List ℤ → List ℤ → List ℤ → List ℤ → View → ℕ → Type 0
InFigures prices rates8 rates104 lags g j =
    InRange 1 (most_price (g (product_kind j))) (figure_at prices j) × InRange 1 most_rate (figure_at rates8 j) × InRange 1 most_rate (figure_at rates104 j) × InRange 0 (dues - 1) (figure_at lags j)

pub figures : (prices rates8 rates104 lags : List ℤ) (g : View) (j : ℕ) → figure_ok prices rates8 rates104 lags g j ≡ true → InFigures prices rates8 rates104 lags g j
figures prices rates8 rates104 lags g j e =
    let x = between (pos 1) (pos (most_price (g (product_kind j)))) (figure_at prices j) in let y = between (pos 1) (pos most_rate) (figure_at rates8 j) in
    let z = between (pos 1) (pos most_rate) (figure_at rates104 j) in let w = between (pos 0) (pos (dues - 1)) (figure_at lags j) in
    let h = both (x && y && z) w e in let i = both (x && y) z h.0 in let k = both x y i.0 in
    (in-range 1 (most_price (g (product_kind j))) (figure_at prices j) k.0, in-range 1 most_rate (figure_at rates8 j) k.1, in-range 1 most_rate (figure_at rates104 j) i.1, in-range 0 (dues - 1) (figure_at lags j) h.1)

-- a name of a yen product of lower number
pub lower : (g : View) (j : ℕ) (q : Place) → names_yen g j q ≡ true → nat_abs (g q) < j
lower g j q e = (is-one-of j (g q) (both (is_one_of j (g q)) (is_yen (g (product_kind (nat_abs (g q))))) e).0).high

-- a sound product names products of the ledger
named_in : (p : ℕ) (g : View) (j : ℕ) → product_ok g j ≡ true → j < p → (nat_abs (g (quote j)) < p) × (yen_of (g (product_kind j)) j (g (principal j)) < p)
named_in p g j e h = go (is_yen (g (product_kind j))) (both rest (pair_ok g j) e).1
  where
    rest : Bool
    rest = between (pos 0) (pos 1) (g (product_kind j)) && between (pos 0) (pos 1) (g (floor_mark j)) && between (pos 1) (pos (most_price (g (product_kind j)))) (g (price j))

    go : (t : Bool) → cond t (yen_pair g j) (cross_pair g j) ≡ true → (nat_abs (g (quote j)) < p) × (cond t j (nat_abs (g (principal j))) < p)
    go true i =
        let z = in-range 0 0 (g (quote j)) (both (is 0 (g (principal j))) (is 0 (g (quote j))) i).1 in
        (omega arith, h)
    go false i =
        let k = both (names_yen g j (principal j) && names_yen g j (quote j)) (not (eqb (nat_abs (g (principal j))) (nat_abs (g (quote j))))) i in
        let l = both (names_yen g j (principal j)) (names_yen g j (quote j)) k.0 in
        (omega (arith, lower g j (quote j) l.1), omega (arith, lower g j (principal j) l.0))

module _ (prices rates8 rates104 lags : List ℤ) (s : Shape) (g : View) (ok : Facts s g) (fig : all s.p (figure_ok prices rates8 rates104 lags g) ≡ true) where
  pub figure : (j : ℕ) → j < s.p → InFigures prices rates8 rates104 lags g j
  figure j h = figures prices rates8 rates104 lags g j (all-at s.p (figure_ok prices rates8 rates104 lags g) fig j h)

  pub any_price : (j : ℕ) → j < s.p → InRange 1 5000000 (figure_at prices j)
  any_price j h = let f = (figure j h).0 in record { low = f.low; high = omega (arith, price-most (g (product_kind j))); nat = f.nat }

  pub rates_of : length rates8 ≡ s.p → length rates104 ≡ s.p → Rates s.p rates8 rates104
  rates_of e e' = record { long8 = e; long104 = e'; in8 = λ j h. (figure j h).1; in104 = λ j h. (figure j h).2 }

  pub lags-of : length lags ≡ s.p → Lags s.p lags
  lags-of e = record { long = e; names = λ j h. let f = (figure j h).3 in omega (arith, f.high) }

  names : (j : ℕ) → j < s.p → (nat_abs (g (quote j)) < s.p) × (yen_of (g (product_kind j)) j (g (principal j)) < s.p)
  names j h = named_in s.p g j (ok.product j h) h

  named-of : length prices ≡ s.p → Named prices s g
  named-of e =
      record {
        priced = e;
        quote_in = λ j h. (names j h).0;
        yen_in = λ j h. (names j h).1;
        yen_price = λ j h. any_price (yen_of (g (product_kind j)) j (g (principal j))) (names j h).1;
      }

  row_of : (a : ℕ) → a < s.n → Row prices s g a
  row_of a h = record { at = cell }
    where
      cell : (j : ℕ) → j < s.p → Cell prices j (g (product_kind j)) (g (lots a j)) (g (book a j)) (g (quote j))
      cell j k =
          let o = both (within most_lots (g (lots a j))) (within (most_book (g (product_kind j))) (g (book a j))) (ok.held a j h k) in
          record {
            lots_in = within_true most_lots (g (lots a j)) o.0;
            book_in = within_true (most_book (g (product_kind j))) (g (book a j)) o.1;
            price_in = (figure j k).0;
            quote_price = any_price (nat_abs (g (quote j))) (names j k).0;
          }

-- a sound account's dues
dues-of : (g : View) (a : ℕ) → account_ok (account_at g a) ≡ true → EachDueIn g a
dues-of g a e = record { at = one }
  where
    one : (d : ℕ) → d < dues → nat_abs (g (due a d)) ≤ most_gross
    one zero h = (account_facts (account_at g a) e).due0_in
    one (suc zero) h = (account_facts (account_at g a) e).due1_in
    one (suc (suc zero)) h = (account_facts (account_at g a) e).due2_in
    one (suc (suc (suc d))) h = absurd (omega arith)

pub next_in : (g : View) (a d : ℕ) → EachDueIn g a → nat_abs (next_due g a d) ≤ most_gross
next_in g a d h = go (ltb (d + 1) dues) refl
  where
    go : (t : Bool) → ltb (d + 1) dues ≡ t → nat_abs (cond t (g (due a (d + 1))) (pos 0)) ≤ most_gross
    go true e = h.at (d + 1) (ltb-true (d + 1) dues e)
    go false e = omega arith

-- each account's cash
pub record CashIn (s : Shape) (g : View) : Type 0 where
  pub at : (a : ℕ) → a < s.n → nat_abs (g (cash a)) ≤ most_gross

-- each account's dues
pub record EveryDueIn (s : Shape) (g : View) : Type 0 where
  pub at : (a : ℕ) → a < s.n → EachDueIn g a

-- of the products, and of each account
pub record Ready (prices : List ℤ) (s : Shape) (g : View) : Type 0 where
  pub named : Named prices s g
  pub row : (a : ℕ) → a < s.n → Row prices s g a
  pub dues_in : EveryDueIn s g
  pub cash_in : CashIn s g

pub ready : (prices rates8 rates104 lags : List ℤ) (s : Shape) (g : View) → Facts s g → all s.p (figure_ok prices rates8 rates104 lags g) ≡ true → length prices ≡ s.p → Ready prices s g
ready prices rates8 rates104 lags s g ok fig e =
    record {
      named = named-of prices rates8 rates104 lags s g ok fig e;
      row = row_of prices rates8 rates104 lags s g ok fig;
      dues_in = record { at = λ a h. dues-of g a (ok.account a h) };
      cash_in = record { at = λ a h. (account_facts (account_at g a) (ok.account a h)).cash_in };
    }

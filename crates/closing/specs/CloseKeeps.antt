-- A close that is taken leaves a sound ledger, over any layout: `taken-keeps`. That any close does, taken or refused, is in proofs/CloseLaws.
-- Books, margins, gross, dues, prices and the phase after it are in range; lots, names and marks are as they were. Assumes nothing.
use Rattle.std.specs.Prelude.{◌≡◌, refl, Bool, true, false, cond, not, ◌&&◌, List, ℕ, ◌+◌, ◌*◌, ◌^◌, ◌≤◌, ◌<◌, leb, ltb, eqb, ℤ, pos, nat_abs, ◌*ℤ◌, get_or}
use Rattle.std.proofs.Math.Path.{ap}
use Rattle.std.proofs.Common.{subst, ◌∙◌, mul-le-mul, arith, ltb-false, le-leb}
use Rattle.whole.specs.Number.{within, between, is}
use Rattle.whole.specs.Counting.{all, total, least, figure_at}
use Rattle.whole.specs.CountingLaws.{sum_same, least-none, least-most}
use Rattle.whole.specs.Tests.{both, is_in, within_true}
use Rattle.rules.specs.Sizes.{is_yen, most_price, most_book, most_lots, most_gross, most_margin}
use Rattle.rules.specs.Account.{guarantee_limit, gross_of, account_ok}
use Rattle.rules.specs.AccountLaws.{account_tests, account-ok}
use Rattle.rules.specs.ProductLaws.{abs_mul}
use Rattle.places.specs.declared.Shape.{Shape}
use Rattle.places.specs.Place.{Place, head, View, Layout, Put, get, puts, house, product_kind, floor_mark, price, principal, quote, kind, cash, guarantee, cap, margin, lots, book}
use Rattle.places.specs.PlaceLaws.{length-puts}
use Rattle.places.specs.Act.{stated_count, most_accounts, most_products}
use Rattle.soundness.specs.Sound.{account_at, names_yen, yen_pair, cross_pair, pair_ok, product_ok, held_ok}
use Rattle.soundness.specs.SoundLaws.{Ledger, Facts, from_facts, ledger_facts}
use Rattle.daily.specs.DailyFigures.{new_margin, new_book, new_gross, charge, over_gross, figure_ok}
use Rattle.daily.specs.Ranges.{Lengths, lengths-of, Ready, ready, rates_of, charges_in, figure, lower}
use Rattle.closing.specs.Close.{close_puts}
use Rattle.closing.specs.Acts.{lengths_test, figures_test}
use Rattle.closing.specs.After.{After, after}

-- lots at a price in range are a book in range
new_book_in : (k x t : ℤ) → nat_abs x ≤ most_lots → nat_abs t ≤ most_price k → nat_abs (x *ℤ t) ≤ most_book k
new_book_in k x t h i = go (is_yen k) i
  where
    go : (b : Bool) → nat_abs t ≤ cond b 5000000 200000 → nat_abs (x *ℤ t) ≤ cond b (10 ^ 13) (4 * 10 ^ 11)
    go true l = omega (arith, abs_mul x t, mul-le-mul h l)
    go false l = omega (arith, abs_mul x t, mul-le-mul h l)

four : {a b c d : Bool} → a ≡ true → b ≡ true → c ≡ true → d ≡ true → (a && b && c && d) ≡ true
four h i j k = rw (h, i, j, k)

module _ (prices rates8 rates104 lags : List ℤ) (s : Shape) (g g' : View) (f : After prices rates8 rates104 lags s g g') (few : s.p ≤ most_products)
    (ok : Facts s g) (fig : all s.p (figure_ok prices rates8 rates104 lags g) ≡ true) (long : Lengths s.p prices rates8 rates104 lags)
    (none : (a : ℕ) → a < s.n → over_gross prices lags s g a ≡ false) where
  -- ---- products

  kind-kept : (j : ℕ) → j < s.p → g' (product_kind j) ≡ g (product_kind j)
  kind-kept j h = f.kept (product_kind j) (h, omega arith) refl

  names-kept : (j : ℕ) (r : Place) → j < s.p → g' r ≡ g r → names_yen g j r ≡ true → names_yen g' j r ≡ true
  names-kept j r h e m = let low = lower g j r m in rw (e, kind-kept (nat_abs (g r)) (omega arith)) m

  pair-kept : (j : ℕ) → j < s.p → pair_ok g j ≡ true → pair_ok g' j ≡ true
  pair-kept j h e = rw (kind-kept j h) (go (is_yen (g (product_kind j))) e)
    where
      first : g' (principal j) ≡ g (principal j)
      first = f.kept (principal j) (h, omega arith) refl

      second : g' (quote j) ≡ g (quote j)
      second = f.kept (quote j) (h, omega arith) refl

      go : (t : Bool) → cond t (yen_pair g j) (cross_pair g j) ≡ true → cond t (yen_pair g' j) (cross_pair g' j) ≡ true
      go true i = rw (first, second) i
      go false i =
          let k = both (names_yen g j (principal j) && names_yen g j (quote j)) (not (eqb (nat_abs (g (principal j))) (nat_abs (g (quote j))))) i in
          let l = both (names_yen g j (principal j)) (names_yen g j (quote j)) k.0 in
          rw (names-kept j (principal j) h first l.0, names-kept j (quote j) h second l.1, first, second) k.1

  product-keeps : (j : ℕ) → j < s.p → product_ok g' j ≡ true
  product-keeps j h =
      let x = between (pos 0) (pos 1) (g (product_kind j)) in let y = between (pos 0) (pos 1) (g (floor_mark j)) in let z = between (pos 1) (pos (most_price (g (product_kind j)))) (g (price j)) in
      let p = both (x && y && z) (pair_ok g j) (ok.product j h) in let q = both (x && y) z p.0 in let r = both x y q.0 in
      let t = (figure prices rates8 rates104 lags s g ok fig j h).0 in
      four (ap (between (pos 0) (pos 1)) (kind-kept j h) ∙ r.0) (ap (between (pos 0) (pos 1)) (f.kept (floor_mark j) (h, omega arith) refl) ∙ r.1)
      ((λ i. between (pos 1) (pos (most_price (kind-kept j h i))) (f.price_new j h i)) ∙ rw t.nat (is_in 1 (most_price (g (product_kind j))) (nat_abs (figure_at prices j)) t.low t.high))
      (pair-kept j h p.1)

  -- ---- accounts

  is_ready : Ready prices s g
  is_ready = ready prices rates8 rates104 lags s g ok fig long.prices_long

  margin-keeps : (a : ℕ) → a < s.n → between (pos 0) (pos most_margin) (g' (margin a)) ≡ true
  unfolding new_margin
  margin-keeps a h =
      let c = charges_in prices rates8 rates104 s g a is_ready.named (is_ready.row a h) (rates_of prices rates8 rates104 lags s g ok fig long.rates8_long long.rates104_long) s.p (omega arith) in
      ap (between (pos 0) (pos most_margin)) (f.margin_new a h) ∙ is_in 0 most_margin (total s.p (charge prices rates8 rates104 g a)) (omega arith) (omega arith)

  -- no account was over
  gross-keeps : (a : ℕ) → a < s.n → leb (gross_of (account_at g' a)) most_gross ≡ true
  gross-keeps a h =
      le-leb (gross_of (account_at g' a)) most_gross
      (omega (
        arith,
        ap nat_abs (f.kept (cash a) (h, omega arith) refl),
        ap nat_abs (f.due_new a 0 h (omega arith)),
        ap nat_abs (f.due_new a 1 h (omega arith)),
        ap nat_abs (f.due_new a 2 h (omega arith)),
        ltb-false most_gross (new_gross prices lags s g a) (none a h),
      ))

  account-keeps : (a : ℕ) → a < s.n → account_ok (account_at g' a) ≡ true
  account-keeps a h =
      let t = account_tests (account_at g a) (ok.account a h) in
      let k = f.kept (kind a) (h, omega arith) refl in
      let limit : guarantee_limit (account_at g' a) ≡ guarantee_limit (account_at g a) = ap (λ z. cond (is 0 z) (pos (10 ^ 12)) (pos 0)) k in
      account-ok (account_at g' a) (record {
        kind_ok = ap (between (pos 0) (pos 1)) k ∙ t.kind_ok;
        guarantee-ok = (λ i. between (pos 0) (limit i) (f.kept (guarantee a) (h, omega arith) refl i)) ∙ t.guarantee-ok;
        cap_ok = (λ i. between (pos 0) (limit i) (f.kept (cap a) (h, omega arith) refl i)) ∙ t.cap_ok;
        margin_ok = margin-keeps a h;
        gross_ok = gross-keeps a h;
      })

  -- ---- positions

  lots-kept : (a j : ℕ) → a < s.n → j < s.p → g' (lots a j) ≡ g (lots a j)
  lots-kept a j h k = f.kept (lots a j) (h, k, omega arith) refl

  held_keeps : (a j : ℕ) → a < s.n → j < s.p → held_ok g' j a ≡ true
  held_keeps a j h k =
      let o = both (within most_lots (g (lots a j))) (within (most_book (g (product_kind j))) (g (book a j))) (ok.held a j h k) in
      let b = new_book_in (g (product_kind j)) (g (lots a j)) (figure_at prices j) (within_true most_lots (g (lots a j)) o.0) (figure prices rates8 rates104 lags s g ok fig j k).0.high in
      rw (lots-kept a j h k, o.0, kind-kept j k, f.book_new a j h k) (le-leb (nat_abs (new_book prices g a j)) (most_book (g (product_kind j))) b)

  -- ---- all of it; in phase 0 no account is asked to have had its transfer, and no step is to come

  pub facts_keep : Facts s g'
  facts_keep =
      record {
        house_in = rw (f.kept house (omega arith) refl) ok.house_in;
        phase_in = rw f.phase_new (is_in 0 (s.n + 1) 0 (omega arith) (omega arith));
        product = product-keeps;
        account = account-keeps;
        held = held_keeps;
        balanced = λ j k. ap (is 0) (sum_same s.n (λ a. g' (lots a j)) (λ a. g (lots a j)) (λ a h. lots-kept a j h k)) ∙ ok.balanced j k;
        done = λ a h. absurd (omega (arith, ap nat_abs f.phase_new));
        to_come = λ ne. absurd (ne (ap nat_abs f.phase_new));
      }

-- ---- the theorem

-- the search found none: no account is over
none_over : (n : ℕ) (f : ℕ → Bool) → ltb (least n f) n ≡ false → (a : ℕ) → a < n → f a ≡ false
none_over n f e = least-none n f (let h = ltb-false (least n f) n e in omega (arith, least-most n f))

module _ (L : Layout) (s : Shape) (W : List ℤ) (prices rates8 rates104 lags : List ℤ) (l : Ledger L s W) where
  abbrev g : View
  g = get L s W

  abbrev us : List Put
  us = close_puts prices rates8 rates104 lags s g

  -- a close that is taken
  pub taken-keeps : lengths_test prices rates8 rates104 lags s g ≡ true → figures_test prices rates8 rates104 lags s g ≡ true → ltb (least s.n (over_gross prices lags s g)) s.n ≡ false
      → Ledger L s (puts L s W us)
  taken-keeps t fig e =
      let f = after L prices rates8 rates104 lags s W l.sized.sized in
      let same : (k : ℕ) → get L s (puts L s W us) (head k) ≡ g (head k) → get_or (puts L s W us) k (pos 0) ≡ get_or W k (pos 0) =
      λ k. subst (λ i. get_or (puts L s W us) i (pos 0) ≡ get_or W i (pos 0)) (L.first s k) in
      let n-same = same 0 (f.kept (head 0) (omega arith) refl) in let p-same = same 1 (f.kept (head 1) (omega arith) refl) in
      record {
        some = l.some;
        some' = l.some';
        sized = record { few = l.sized.few; few' = l.sized.few'; sized = length-puts L s us W ∙ l.sized.sized };
        shaped = (λ i. record { n = stated_count most_accounts (n-same i); p = stated_count most_products (p-same i) }) ∙ l.shaped;
        places =
            from_facts s (get L s (puts L s W us))
            (facts_keep prices rates8 rates104 lags s g (get L s (puts L s W us)) f l.sized.few' (ledger_facts L s W l) fig (lengths-of prices rates8 rates104 lags s.p t) (none_over s.n (over_gross prices lags s g) e));
      }

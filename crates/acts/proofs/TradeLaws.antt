-- A trade: what it puts and sees, and that it keeps the ledger sound: both positions stay in range, and the lots of each product still
-- add to zero. Assumes nothing.
use Rattle.std.specs.Prelude.{◌≡◌, refl, ◌≢◌, List, [], ◌∷◌, Bool, true, false, ◌&&◌, ℕ, ◌<◌, length, ℤ, nat_abs, ◌+ℤ◌, ◌-ℤ◌, ◌*ℤ◌}
use Rattle.std.proofs.Common.{sym, ap, subst, ◌∙◌, arith}
use Rattle.std.proofs.Math.Decide.{ℕ_discrete}
use Rattle.whole.specs.Number.{is, is_one_of}
use Rattle.whole.specs.Counting.{sum}
use Rattle.whole.specs.CountingLaws.{sum_same, two_terms}
use Rattle.whole.specs.Tests.{both, in-range, is-one-of}
use Rattle.rules.specs.Account.{account_ok}
use Rattle.places.specs.declared.Shape.{Shape}
use Rattle.places.specs.Place.{Place, head, prod, acct, held, Has, words_of, View, Layout, Put, ◌≔◌, get, puts, kind, product_kind, lots, book}
use Rattle.places.specs.PlaceLaws.{get-puts}
use Rattle.places.specs.Act.{shape_of}
use Rattle.places.specs.ActLaws.{unless-puts, unless-same, sized}
use Rattle.places.specs.Footprint.{Footprint, Inside, Differ, KeepsTo, sees, differ}
use Rattle.soundness.specs.Sound.{held_ok, sound, places_ok}
use Rattle.soundness.specs.SoundLaws.{Facts, facts_kept}
use Rattle.soundness.specs.Perform.{refuse}
use Rattle.soundness.specs.Keep.{account-same, Quiet, quiet_facts}
use Rattle.soundness.specs.Keep.{left_at}
use Rattle.acts.specs.Trade.{one_of_each, terms_ok, position_in, trade_puts, trade_rule}

-- a trade puts positions alone; it sees them, the accounts' kinds, and the products
abbrev pub TradePuts : Place → Type 0
TradePuts (head k) = ⊥
TradePuts (prod j f) = ⊥
TradePuts (acct b f) = ⊥
TradePuts (held b j f) = Unit {0}

abbrev pub TradeSees : Place → Type 0
TradeSees (head k) = ⊥
TradeSees (prod j f) = Unit {0}
TradeSees (acct b f) = f ≡ 0
TradeSees (held b j f) = Unit {0}

pub trade-seen : (q : Place) → TradePuts q → TradeSees q
trade-seen (head k) h = h
trade-seen (prod j f) h = tt
trade-seen (acct b f) h = absurd h
trade-seen (held b j f) h = tt

abbrev pub trading : Footprint
trading = record { Puts = TradePuts; Sees = TradeSees; seen = trade-seen; body = λ k h. absurd h }

-- ---- views that differ only in positions

trade_quiet : Quiet trading
trade_quiet = record { phase_stays = λ h. h; house_stays = λ h. h; products_stay = λ j f h. h; dues_stay = λ b h. h }

trade_facts : (s : Shape) (g g' : View) → Differ s trading g g' → ((a j : ℕ) → a < s.n → j < s.p → held_ok g' j a ≡ true)
    → ((j : ℕ) → j < s.p → is 0 (sum s.n (λ a. g' (lots a j))) ≡ true) → Facts s g → Facts s g'
trade_facts s g g' d positions adds f =
    quiet_facts s trading g g' d trade_quiet (λ b h. ap account_ok (account-same g g' b (λ i k. d (acct b i) (h, k) (λ z. z))) ∙ f.account b h) positions adds f

-- ---- what a trade puts: nothing, or the two positions, where its tests hold

record Trades (s : Shape) (g : View) (b c j : ℕ) (q t : ℤ) : Type 0 where
  buyer : b < s.n
  seller : c < s.n
  product : j < s.p
  two : b ≢ c
  rises : position_in g j (g (lots b j) +ℤ q) (g (book b j) +ℤ q *ℤ t) ≡ true
  falls : position_in g j (g (lots c j) -ℤ q) (g (book c j) -ℤ q *ℤ t) ≡ true

-- no account is both an F and an L
not-both : (z : ℤ) → is 0 z ≡ true → is 1 z ≡ true → ⊥
not-both z e f = let i = in-range 0 0 z e in let k = in-range 1 1 z f in let h = i.high in let l = k.low in omega arith

one-of-each : (k l : ℤ) → one_of_each k l ≡ true → k ≢ l
one-of-each k l e same = go (is 0 k && is 1 l) refl
  where
    go : (t : Bool) → (is 0 k && is 1 l) ≡ t → ⊥
    go true h = let b = both (is 0 k) (is 1 l) h in not-both k b.0 (rw same b.1)
    go false h = let b = both (is 1 k) (is 0 l) (rw h at e) in not-both k (rw same b.1) b.0

trade-puts : (P : List Put → Type 0) (s : Shape) (g : View) (b c j q t : ℤ) → P []
    → (Trades s g (nat_abs b) (nat_abs c) (nat_abs j) q t → P (trade_puts (nat_abs b) (nat_abs c) (nat_abs j) q t g))
    → P (trade_rule b c j q t s g).puts
trade-puts P s g b c j q t z h =
    unless-puts P (is_one_of s.n b && is_one_of s.n c) (refuse 3) _ z (λ e. unless-puts P (is_one_of s.p j) (refuse 4) _ z (λ e'.
    unless-puts P (one_of_each (g (kind B)) (g (kind C))) (refuse 6) _ z (λ k.
    unless-puts P (terms_ok g J q t) (refuse 8) _ z (λ _. unless-puts P up (refuse 9) _ z (λ u. unless-puts P down (refuse 9) _ z (λ v.
    let bc = both (is_one_of s.n b) (is_one_of s.n c) e in
    h (record {
      buyer = (is-one-of s.n b bc.0).high;
      seller = (is-one-of s.n c bc.1).high;
      product = (is-one-of s.p j e').high;
      two = λ w. one-of-each (g (kind B)) (g (kind C)) k (ap (λ y. g (kind y)) w);
      rises = u;
      falls = v;
    })))))))
  where
    B : ℕ
    B = nat_abs b

    C : ℕ
    C = nat_abs c

    J : ℕ
    J = nat_abs j

    up : Bool
    up = position_in g J (g (lots B J) +ℤ q) (g (book B J) +ℤ q *ℤ t)

    down : Bool
    down = position_in g J (g (lots C J) -ℤ q) (g (book C J) -ℤ q *ℤ t)

-- two words of a position are not one
other_word : ◌≡◌ {A = ℕ} 0 1 → ⊥
other_word p = omega arith

-- ---- two positions of one product are put anew: lots l and book v of the account b, lots l' and book v' of the account c

abbrev both_puts : ℕ → ℕ → ℕ → ℤ → ℤ → ℤ → ℤ → List Put
both_puts b c j l v l' v' = (lots b j ≔ l) ∷ (book b j ≔ v) ∷ (lots c j ≔ l') ∷ (book c j ≔ v') ∷ []

record Pair (s : Shape) (b c j : ℕ) : Type 0 where
  first : b < s.n
  second : c < s.n
  product : j < s.p
  two : b ≢ c

module _ (L : Layout) (s : Shape) (W : List ℤ) (z : length W ≡ words_of s) (b c j : ℕ) (h : Pair s b c j) (l v l' v' : ℤ) where
  abbrev after : View
  after = get L s (puts L s W (both_puts b c j l v l' v'))

  at_b : (f : ℕ) → f < 2 → Has s (held b j f)
  at_b f k = (h.first, h.product, k)

  at_c : (f : ℕ) → f < 2 → Has s (held c j f)
  at_c f k = (h.second, h.product, k)

  both-inside : Inside s trading (both_puts b c j l v l' v')
  both-inside = ((at_b 0 (omega arith), tt), ((at_b 1 (omega arith), tt), ((at_c 0 (omega arith), tt), ((at_c 1 (omega arith), tt), tt))))

  -- a word of another position
  other_position : (a k f : ℕ) → a < s.n → k < s.p → f < 2 → ((a ≡ b) × (k ≡ j) → ⊥) → ((a ≡ c) × (k ≡ j) → ⊥) → after (held a k f) ≡ get L s W (held a k f)
  other_position a k f ha hk hf nb nc =
      get-puts L s (held a k f) (ha, hk, hf) (both_puts b c j l v l' v')
      ((at_b 0 (omega arith), λ p. nb (cc, cc)), ((at_b 1 (omega arith), λ p. nb (cc, cc)), ((at_c 0 (omega arith), λ p. nc (cc, cc)), ((at_c 1 (omega arith), λ p. nc (cc, cc)), tt)))) W

  -- the four words
  lots-first : after (lots b j) ≡ l
  lots-first =
      left_at L s (lots b j) (at_b 0 (omega arith)) l [] ((book b j ≔ v) ∷ (lots c j ≔ l') ∷ (book c j ≔ v') ∷ [])
      ((at_b 1 (omega arith), λ p. other_word (cc)), ((at_c 0 (omega arith), λ p. h.two (cc)), ((at_c 1 (omega arith), λ p. h.two (cc)), tt))) W z

  book-first : after (book b j) ≡ v
  book-first =
      left_at L s (book b j) (at_b 1 (omega arith)) v ((lots b j ≔ l) ∷ []) ((lots c j ≔ l') ∷ (book c j ≔ v') ∷ [])
      ((at_c 0 (omega arith), λ p. h.two (cc)), ((at_c 1 (omega arith), λ p. h.two (cc)), tt)) W z

  lots-second : after (lots c j) ≡ l'
  lots-second =
      left_at L s (lots c j) (at_c 0 (omega arith)) l' ((lots b j ≔ l) ∷ (book b j ≔ v) ∷ []) ((book c j ≔ v') ∷ []) ((at_c 1 (omega arith), λ p. other_word (cc)), tt) W z

  book-second : after (book c j) ≡ v'
  book-second = left_at L s (book c j) (at_c 1 (omega arith)) v' ((lots b j ≔ l) ∷ (book b j ≔ v) ∷ (lots c j ≔ l') ∷ []) [] tt W z

-- ---- the ledger after a trade

module _ (L : Layout) (W : List ℤ) (e : sound L W ≡ true) where
  abbrev s : Shape
  s = shape_of W

  abbrev g : View
  g = get L s W

  module _ (b c j : ℕ) (q t : ℤ) (h : Trades s g b c j q t) where
    abbrev us : List Put
    us = trade_puts b c j q t g

    abbrev g' : View
    g' = get L s (puts L s W us)

    pair : Pair s b c j
    pair = record { first = h.buyer; second = h.seller; product = h.product; two = h.two }

    inside : Inside s trading us
    inside = both-inside L s W (sized places_ok L W e) b c j pair (g (lots b j) +ℤ q) (g (book b j) +ℤ q *ℤ t) (g (lots c j) -ℤ q) (g (book c j) -ℤ q *ℤ t)

    kinds_same : (k : ℕ) → k < s.p → g' (product_kind k) ≡ g (product_kind k)
    kinds_same k l = differ L W trading us inside (product_kind k) (l, omega arith) (λ z. z)

    other : (a k f : ℕ) → a < s.n → k < s.p → f < 2 → ((a ≡ b) × (k ≡ j) → ⊥) → ((a ≡ c) × (k ≡ j) → ⊥) → g' (held a k f) ≡ g (held a k f)
    other = other_position L s W (sized places_ok L W e) b c j pair _ _ _ _

    -- the four words that it puts
    new_lots_b : g' (lots b j) ≡ g (lots b j) +ℤ q
    new_lots_b = lots-first L s W (sized places_ok L W e) b c j pair _ _ _ _

    new_book_b : g' (book b j) ≡ g (book b j) +ℤ q *ℤ t
    new_book_b = book-first L s W (sized places_ok L W e) b c j pair _ _ _ _

    new_lots_c : g' (lots c j) ≡ g (lots c j) -ℤ q
    new_lots_c = lots-second L s W (sized places_ok L W e) b c j pair _ _ _ _

    new_book_c : g' (book c j) ≡ g (book c j) -ℤ q *ℤ t
    new_book_c = book-second L s W (sized places_ok L W e) b c j pair _ _ _ _

    -- every position is in range
    in_place : (a k : ℕ) (l v : ℤ) → k < s.p → g' (lots a k) ≡ l → g' (book a k) ≡ v → position_in g k l v ≡ true → held_ok g' k a ≡ true
    in_place a k l v m el ev ok = rw (el, ev, kinds_same k m) ok

    positions : Facts s g → (a k : ℕ) → a < s.n → k < s.p → held_ok g' k a ≡ true
    positions f a k l m = at-product (ℕ_discrete k j)
      where
        same : ((a ≡ b) × (k ≡ j) → ⊥) → ((a ≡ c) × (k ≡ j) → ⊥) → held_ok g' k a ≡ true
        same nb nc = in_place a k (g (lots a k)) (g (book a k)) m (other a k 0 l m (omega arith) nb nc) (other a k 1 l m (omega arith) nb nc) (f.held a k l m)

        at-seller : k ≡ j → a ≢ b → Dec (a ≡ c) → held_ok g' k a ≡ true
        at-seller ek nb (yes ec) = rw (ek, ec) (in_place c j (g (lots c j) -ℤ q) (g (book c j) -ℤ q *ℤ t) h.product new_lots_c new_book_c h.falls)
        at-seller ek nb (no nc) = same (λ z. nb z.0) (λ z. nc z.0)

        at-buyer : k ≡ j → Dec (a ≡ b) → held_ok g' k a ≡ true
        at-buyer ek (yes eb) = rw (ek, eb) (in_place b j (g (lots b j) +ℤ q) (g (book b j) +ℤ q *ℤ t) h.product new_lots_b new_book_b h.rises)
        at-buyer ek (no nb) = at-seller ek nb (ℕ_discrete a c)

        at-product : Dec (k ≡ j) → held_ok g' k a ≡ true
        at-product (yes ek) = at-buyer ek (ℕ_discrete a b)
        at-product (no nk) = same (λ z. nk z.1) (λ z. nk z.1)

    -- the lots of each product add to what they added to
    adds : (k : ℕ) → k < s.p → Dec (k ≡ j) → sum s.n (λ a. g' (lots a k)) ≡ sum s.n (λ a. g (lots a k))
    adds k m (yes ek) =
        subst (λ y. sum s.n (λ a. g' (lots a y)) ≡ sum s.n (λ a. g (lots a y))) (sym ek)
        (two_terms s.n (λ a. g (lots a j)) (λ a. g' (lots a j)) b c q h.buyer h.seller h.two new_lots_b new_lots_c
        (λ i l nb nc. other i j 0 l h.product (omega arith) (λ z. nb z.0) (λ z. nc z.0)))
    adds k m (no nk) = sum_same s.n (λ a. g' (lots a k)) (λ a. g (lots a k)) (λ a l. other a k 0 l m (omega arith) (λ z. nk z.1) (λ z. nk z.1))

    sound_then : sound L (puts L s W us) ≡ true
    sound_then =
        facts_kept L W e trading us inside
        (λ f. trade_facts s g g' (differ L W trading us inside) (positions f) (λ k m. ap (is 0) (adds k m (ℕ_discrete k j)) ∙ f.balanced k m) f)

  -- a trade keeps to its footprint
  pub trade-of : (b c j q t : ℤ) → KeepsTo places_ok L W trading (trade_rule b c j q t)
  trade-of b c j q t =
      record {
        inside = trade-puts (Inside s trading) s g b c j q t tt (inside (nat_abs b) (nat_abs c) (nat_abs j) q t);
        sound_after = trade-puts (λ vs. sound L (puts L s W vs) ≡ true) s g b c j q t e (sound_then (nat_abs b) (nat_abs c) (nat_abs j) q t);
        blind = λ vs o.
            unless-same (is_one_of s.n b && is_one_of s.n c) (refuse 3) _ _ (λ i. unless-same (is_one_of s.p j) (refuse 4) _ _ (λ i'.
            let bc = both (is_one_of s.n b) (is_one_of s.n c) i in
            let hb = (is-one-of s.n b bc.0).high in let hc = (is-one-of s.n c bc.1).high in let hj = (is-one-of s.p j i').high in
            rw (
              sees L W trading vs o (kind (nat_abs b)) (hb, omega arith) refl,
              sees L W trading vs o (kind (nat_abs c)) (hc, omega arith) refl,
              sees L W trading vs o (product_kind (nat_abs j)) (hj, omega arith) tt,
              sees L W trading vs o (lots (nat_abs b) (nat_abs j)) (hb, hj, omega arith) tt,
              sees L W trading vs o (book (nat_abs b) (nat_abs j)) (hb, hj, omega arith) tt,
              sees L W trading vs o (lots (nat_abs c) (nat_abs j)) (hc, hj, omega arith) tt,
              sees L W trading vs o (book (nat_abs c) (nat_abs j)) (hc, hj, omega arith) tt,
            )));
      }

-- Requests that name one account: what all of them have in common, proved once. A request is an act on the account's record. It is `Proper`
-- if it puts only words of its own account that a request may change (cash, guarantee, cap), and leaves a sound record. Then it keeps
-- to the footprint `own a`; one that names no account of the ledger keeps to `nothing`. Assumes nothing.
use Rattle.std.specs.Prelude.{◌≡◌, refl, List, [], ◌∷◌, Bool, true, false, cond, ℕ, ◌≤◌, ◌<◌, eqb, ℤ, nat_abs, length}
use Rattle.std.proofs.Common.{sym, ap, subst, ◌∙◌, eqb-true, arith, length-set}
use Rattle.std.proofs.lemmas.Bool.{eqb-false}
use Rattle.std.proofs.Math.Decide.{ℕ_discrete}
use Rattle.whole.specs.Number.{is_one_of, unless}
use Rattle.whole.specs.Tests.{is-one-of}
use Rattle.rules.specs.Account.{account_ok}
use Rattle.rules.specs.declared.Account.{Account}
use Rattle.places.specs.declared.Shape.{Shape}
use Rattle.places.specs.Place.{words_of, fields, Place, head, prod, acct, held, Has, View, Layout, Put, get, put, puts}
use Rattle.places.specs.PlaceLaws.{Each, each_map, get-put-same, get-put-other}
use Rattle.places.specs.Act.{shape_of, Act}
use Rattle.places.specs.ActLaws.{sized}
use Rattle.places.specs.Footprint.{Footprint, Inside, Differ, KeepsTo, sees, differ}
use Rattle.soundness.specs.Sound.{account_at, sound, places_ok}
use Rattle.soundness.specs.SoundLaws.{Facts, sound_facts, facts_kept}
use Rattle.soundness.specs.Keep.{account-same, SamePositions, held_same, balanced-same, Quiet, products-same, quiet_facts, Safe, safe_of}
use Rattle.acts.specs.Requests.{at_account}

-- ---- footprints

-- a request about the account a sees its record, and may put the words 1 to 3 of it: cash, guarantee, cap
abbrev pub OwnPuts : ℕ → Place → Type 0
OwnPuts a (head k) = ⊥
OwnPuts a (prod j f) = ⊥
OwnPuts a (acct b f) = (b ≡ a) × (1 ≤ f) × (f ≤ 3)
OwnPuts a (held b j f) = ⊥

abbrev pub OwnSees : ℕ → Place → Type 0
OwnSees a (head k) = ⊥
OwnSees a (prod j f) = ⊥
OwnSees a (acct b f) = b ≡ a
OwnSees a (held b j f) = ⊥

pub own-seen : (a : ℕ) (q : Place) → OwnPuts a q → OwnSees a q
own-seen a (head k) h = h
own-seen a (prod j f) h = h
own-seen a (acct b f) h = h.0
own-seen a (held b j f) h = h

abbrev pub own : ℕ → Footprint
own a = record { Puts = OwnPuts a; Sees = OwnSees a; seen = own-seen a; body = λ k h. absurd h }

-- a request about no account of the ledger sees nothing and puts nothing
abbrev pub nothing : Footprint
nothing = record { Puts = λ q. ⊥; Sees = λ q. ⊥; seen = λ q h. h; body = λ k h. absurd h }

-- ---- an account's record, and puts to it

-- the record with its word i changed to v
abbrev pub amend : Account → ℕ → ℤ → Account
amend r i v =
    record {
      kind = cond (eqb i 0) v r.kind;
      cash = cond (eqb i 1) v r.cash;
      guarantee = cond (eqb i 2) v r.guarantee;
      cap = cond (eqb i 3) v r.cap;
      margin = cond (eqb i 4) v r.margin;
      due0 = cond (eqb i 5) v r.due0;
      due1 = cond (eqb i 6) v r.due1;
      due2 = cond (eqb i 7) v r.due2;
    }

abbrev pub amend_at : Account → Place → ℤ → Account
amend_at r (head k) v = r
amend_at r (prod j f) v = r
amend_at r (acct b i) v = amend r i v
amend_at r (held b j f) v = r

abbrev pub amended : Account → List Put → Account
amended r [] = r
amended r (u ∷ us) = amended (amend_at r u.place u.word) us

abbrev pub InOrder : Account → List Put → Type 0
InOrder r us = account_ok (amended r us) ≡ true

pub record Proper {A : Type 0} (f : ℕ → Account → Act A) : Type 0 where
  pub own_puts : (a : ℕ) (r : Account) → Each (OwnPuts a) (f a r).puts
  pub in_order : (a : ℕ) (r : Account) → account_ok r ≡ true → InOrder r (f a r).puts

module _ (L : Layout) (s : Shape) (a : ℕ) (in_n : a < s.n) where
  -- one put
  word-put : (W : List ℤ) → length W ≡ words_of s → (i : ℕ) (v : ℤ) → i < fields → (f : ℕ) → f < fields
      → get L s (put L s W (acct a i) v) (acct a f) ≡ cond (eqb i f) v (get L s W (acct a f))
  word-put W l i v h f k = go (eqb i f) refl
    where
      go : (t : Bool) → eqb i f ≡ t → get L s (put L s W (acct a i) v) (acct a f) ≡ cond t v (get L s W (acct a f))
      go true e = rw (← eqb-true i f e) (get-put-same L s W (acct a i) v l (in_n, h))
      go false e = get-put-other L s W (acct a i) (acct a f) v (in_n, h) (in_n, k) (λ p. eqb-false i f e (cc))

  account-put : (W : List ℤ) → length W ≡ words_of s → (i : ℕ) (v : ℤ) → i < fields → account_at (get L s (put L s W (acct a i) v)) a ≡ amend (account_at (get L s W) a) i v
  account-put W l i v h d =
      record {
        kind = word-put W l i v h 0 (omega arith) d;
        cash = word-put W l i v h 1 (omega arith) d;
        guarantee = word-put W l i v h 2 (omega arith) d;
        cap = word-put W l i v h 3 (omega arith) d;
        margin = word-put W l i v h 4 (omega arith) d;
        due0 = word-put W l i v h 5 (omega arith) d;
        due1 = word-put W l i v h 6 (omega arith) d;
        due2 = word-put W l i v h 7 (omega arith) d;
      }

  account-put-at : (W : List ℤ) → length W ≡ words_of s → (q : Place) (v : ℤ) → OwnPuts a q → account_at (get L s (put L s W q v)) a ≡ amend_at (account_at (get L s W) a) q v
  account-put-at W l (head k) v h = absurd h
  account-put-at W l (prod j f) v h = absurd h
  account-put-at W l (acct b i) v h =
      subst (λ z. account_at (get L s (put L s W (acct z i) v)) a ≡ amend (account_at (get L s W) a) i v) (sym h.0) (account-put W l i v (omega arith))
  account-put-at W l (held b j f) v h = absurd h

  -- any number of puts
  pub account-puts : (us : List Put) → Each (OwnPuts a) us → (W : List ℤ) → length W ≡ words_of s
      → account_at (get L s (puts L s W us)) a ≡ amended (account_at (get L s W) a) us
  account-puts [] h W l = refl
  account-puts (u ∷ us) h W l =
      account-puts us h.1 (put L s W u.place u.word) (length-set W (L.at s u.place) u.word ∙ l)
      ∙ ap (λ r. amended r us) (account-put-at W l u.place u.word h.0)

  own_has : (q : Place) → OwnPuts a q → Has s q × OwnPuts a q
  own_has (head k) h = absurd h
  own_has (prod j f) h = absurd h
  own_has (acct b f) h = ((omega arith, omega arith), h)
  own_has (held b j f) h = absurd h

  pub own-inside : (us : List Put) → Each (OwnPuts a) us → Inside s (own a) us
  own-inside = each_map (OwnPuts a) (λ q. Has s q × OwnPuts a q) own_has

-- ---- views that differ only in the words that a request may change

own_quiet : (a : ℕ) → Quiet (own a)
own_quiet a = record { phase_stays = λ h. h; house_stays = λ h. h; products_stay = λ j f h. h; dues_stay = λ b h. omega arith }

own_facts : (s : Shape) (a : ℕ) (g g' : View) → Differ s (own a) g g' → account_ok (account_at g' a) ≡ true → Facts s g → Facts s g'
own_facts s a g g' d ok f =
    quiet_facts s (own a) g g' d (own_quiet a)
    (λ b h. each b h (ℕ_discrete b a))
    (λ b j h k. held_same s g g' (products-same s (own a) g g' d (own_quiet a)) positions b j h k ∙ f.held b j h k)
    (λ j h. balanced-same s g g' positions j h ∙ f.balanced j h)
    f
  where
    positions : SamePositions s g g'
    positions b j i h k l = d (held b j i) (h, k, l) (λ z. z)

    each : (b : ℕ) → b < s.n → Dec (b ≡ a) → account_ok (account_at g' b) ≡ true
    each b h (yes q) = rw q ok
    each b h (no q) = ap account_ok (account-same g g' b (λ i k. d (acct b i) (h, k) (λ z. q z.0))) ∙ f.account b h

-- ---- a proper request keeps to its account's footprint

module _ {A : Type 0} (L : Layout) (W : List ℤ) (e : sound L W ≡ true) (nay : Act A) (none : nay.puts ≡ []) (a : ℤ) (f : ℕ → Account → Act A) where
  abbrev s : Shape
  s = shape_of W

  abbrev g : View
  g = get L s W

  pub request_of : Proper f → is_one_of s.n a ≡ true → KeepsTo places_ok L W (own (nat_abs a)) (at_account nay a f)
  request_of p t =
      record {
        inside = rw t (own-inside L s k in_n us own-us);
        sound_after = rw t
            (facts_kept L W e (own k) us (own-inside L s k in_n us own-us)
            (own_facts s k g (get L s (puts L s W us)) (differ L W (own k) us (own-inside L s k in_n us own-us))
            (ap account_ok (account-puts L s k in_n us own-us W (sized places_ok L W e)) ∙ p.in_order k (account_at g k) ((sound_facts L W e).account k in_n))));
        blind = λ vs o. ap (λ r. unless (is_one_of s.n a) nay (f k r)) (account-same g (get L s (puts L s W vs)) k (λ i h. sees L W (own k) vs o (acct k i) (in_n, h) refl));
      }
    where
      k : ℕ
      k = nat_abs a

      in_n : k < s.n
      in_n = (is-one-of s.n a t).high

      us : List Put
      us = (f k (account_at g k)).puts

      own-us : Each (OwnPuts k) us
      own-us = p.own_puts k (account_at g k)

  -- a request about no account of the ledger sees nothing
  pub request_none : is_one_of s.n a ≡ false → KeepsTo places_ok L W nothing (at_account nay a f)
  request_none t = record { inside = rw (t, none) tt; sound_after = rw (t, none) e; blind = λ vs o. rw t refl }

  -- either way it leaves a sound ledger
  pub request_safe : Proper f → Safe L W (at_account nay a f)
  request_safe p = go (is_one_of s.n a) refl
    where
      go : (t : Bool) → is_one_of s.n a ≡ t → Safe L W (at_account nay a f)
      go true t = safe_of L W (own (nat_abs a)) (at_account nay a f) (request_of p t)
      go false t = safe_of L W nothing (at_account nay a f) (request_none t)

-- What keeps a ledger sound, in general: the facts that a change of some places leaves as they were. No call is named here. Assumes nothing.
use Rattle.std.specs.Prelude.{◌≡◌, refl, ◌≢◌, List, [], ◌∷◌, ◌++◌, Bool, true, false, cond, not, ◌&&◌, ℕ, zero, suc, ◌+◌, ◌-◌, ◌≤◌, ◌<◌, eqb, ℤ, pos, nat_abs, ◌-ℤ◌}
use Rattle.std.proofs.Common.{sym, ap, ap₂, subst, ◌∙◌, arith}
use Rattle.whole.specs.Number.{within, between, is, is_one_of}
use Rattle.whole.specs.Counting.{sum}
use Rattle.whole.specs.CountingLaws.{sum_same}
use Rattle.whole.specs.Tests.{both, in-range, is-one-of}
use Rattle.rules.specs.Sizes.{is_yen, most_price, most_book, most_lots, most_house}
use Rattle.rules.specs.Account.{account_ok}
use Rattle.places.specs.declared.Shape.{Shape}
use Rattle.places.specs.Place.{Place, prod, acct, held, fields, product_fields, held_fields, Has, View, Layout, Put, ◌≔◌, get, puts, house, phase, product_kind, floor_mark, price, principal, quote, due, lots}
use Rattle.places.specs.Passes.{Leaves, Elsewhere, leaves_put, leaves_later, leaves_after}
use Rattle.places.specs.Act.{shape_of, Act, Rule, perform_by}
use Rattle.places.specs.ActLaws.{ledger-at, sound-of, performed_at}
use Rattle.places.specs.Footprint.{Footprint, Differ, KeepsTo, acts, words_after, shape-kept}
use Rattle.soundness.specs.Sound.{account_at, names_yen, yen_pair, cross_pair, pair_ok, product_ok, held_ok, turn, stays, places_ok, sound}
use Rattle.soundness.specs.SoundLaws.{Ledger, Facts}

-- ---- what a put leaves at its place, after puts elsewhere
pub left_at : (L : Layout) (s : Shape) (q : Place) (h : Has s q) (v : ℤ) (before later : List Put) → Elsewhere L s q h v later
    → Leaves L s q h v (before ++ ((q ≔ v) ∷ later))
left_at L s q h v before later d = leaves_after L s q h v before ((q ≔ v) ∷ later) (leaves_later L s q h v ((q ≔ v) ∷ []) later (leaves_put L s q h v) d)

-- ---- two views that say the same of an account, of the products, of the positions, of what is due now

pub account-same : (g g' : View) (a : ℕ) → ((f : ℕ) → f < fields → g' (acct a f) ≡ g (acct a f)) → account_at g' a ≡ account_at g a
account-same g g' a h i =
    record {
      kind = h 0 (omega arith) i;
      cash = h 1 (omega arith) i;
      guarantee = h 2 (omega arith) i;
      cap = h 3 (omega arith) i;
      margin = h 4 (omega arith) i;
      due0 = h 5 (omega arith) i;
      due1 = h 6 (omega arith) i;
      due2 = h 7 (omega arith) i;
    }

abbrev pub SameProducts : Shape → View → View → Type 0
SameProducts s g g' = (j f : ℕ) → j < s.p → f < product_fields → g' (prod j f) ≡ g (prod j f)

abbrev pub SamePositions : Shape → View → View → Type 0
SamePositions s g g' = (a j f : ℕ) → a < s.n → j < s.p → f < held_fields → g' (held a j f) ≡ g (held a j f)

module _ (s : Shape) (g g' : View) (e : SameProducts s g g') where
  -- a yen product that is named by a product of the ledger is one of the ledger's
  names-kept : (j f : ℕ) → j < s.p → f < product_fields → names_yen g j (prod j f) ≡ true → names_yen g' j (prod j f) ≡ true
  names-kept j f h k t =
      let b = both (is_one_of j (g (prod j f))) (is_yen (g (product_kind (nat_abs (g (prod j f)))))) t in
      let l = (is-one-of j (g (prod j f)) b.0).high in
      rw (e j f h k, e (nat_abs (g (prod j f))) 0 (omega arith) (omega arith)) t

  cross-kept : (j : ℕ) → j < s.p → cross_pair g j ≡ true → cross_pair g' j ≡ true
  cross-kept j h t =
      let b = both (names_yen g j (principal j) && names_yen g j (quote j)) (not (eqb (nat_abs (g (principal j))) (nat_abs (g (quote j))))) t in
      let c = both (names_yen g j (principal j)) (names_yen g j (quote j)) b.0 in
      rw (names-kept j 3 h (omega arith) c.0, names-kept j 4 h (omega arith) c.1, e j 3 h (omega arith), e j 4 h (omega arith)) b.1

  pair-kept : (j : ℕ) → j < s.p → (t : Bool) → cond t (yen_pair g j) (cross_pair g j) ≡ true → cond t (yen_pair g' j) (cross_pair g' j) ≡ true
  pair-kept j h true r = rw (e j 3 h (omega arith), e j 4 h (omega arith)) r
  pair-kept j h false r = cross-kept j h r

  pub product-kept : (j : ℕ) → j < s.p → product_ok g j ≡ true → product_ok g' j ≡ true
  product-kept j h t =
      let ranges : Bool = between (pos 0) (pos 1) (g (product_kind j)) && between (pos 0) (pos 1) (g (floor_mark j)) && between (pos 1) (pos (most_price (g (product_kind j)))) (g (price j)) in
      let b = both ranges (pair_ok g j) t in
      rw (e j 0 h (omega arith), e j 1 h (omega arith), e j 2 h (omega arith), b.0) (pair-kept j h (is_yen (g (product_kind j))) b.1)

  pub held_same : SamePositions s g g' → (a j : ℕ) → a < s.n → j < s.p → held_ok g' j a ≡ held_ok g j a
  held_same d a j h k =
      ap₂ ◌&&◌ (ap (within most_lots) (d a j 0 h k (omega arith)))
      (ap₂ (λ y z. within (most_book y) z) (e j 0 k (omega arith)) (d a j 1 h k (omega arith)))

pub balanced-same : (s : Shape) (g g' : View) → SamePositions s g g' → (j : ℕ) → j < s.p → is 0 (sum s.n (λ a. g' (lots a j))) ≡ is 0 (sum s.n (λ a. g (lots a j)))
balanced-same s g g' d j k = ap (is 0) (sum_same s.n (λ a. g' (lots a j)) (λ a. g (lots a j)) (λ a h. d a j 0 h k (omega arith)))

-- what house will be depends on the dues alone
pub stays_same : (m : ℕ) (h : ℤ) (k : ℕ) (g g' : View) → ((b : ℕ) → k ≤ b → b < k + m → g' (due b 0) ≡ g (due b 0)) → stays m h k g' ≡ stays m h k g
stays_same zero h k g g' e = refl
stays_same (suc m) h k g g' e =
    rw (e k (omega arith) (omega arith))
    (ap (λ t. within most_house (h -ℤ g (due k 0)) && t) (stays_same m (h -ℤ g (due k 0)) (suc k) g g' (λ b i j. e b (omega arith) (omega arith))))

-- ---- a footprint that puts neither phase, nor house, nor a product's word, nor a due 0: every request's

pub record Quiet (F : Footprint) : Type 0 where
  pub phase_stays : F.Puts phase → ⊥
  pub house_stays : F.Puts house → ⊥
  pub products_stay : (j f : ℕ) → F.Puts (prod j f) → ⊥
  pub dues_stay : (b : ℕ) → F.Puts (due b 0) → ⊥

-- such a change leaves a sound ledger, if every account and every position is in order after it
module _ (s : Shape) (F : Footprint) (g g' : View) (d : Differ s F g g') (q : Quiet F) where
  house-same : g' house ≡ g house
  house-same = d house (omega arith) q.house_stays

  phase-same : g' phase ≡ g phase
  phase-same = d phase (omega arith) q.phase_stays

  due-same : (b : ℕ) → b < s.n → g' (due b 0) ≡ g (due b 0)
  due-same b h = d (due b 0) (h, omega arith) (q.dues_stay b)

  pub products-same : SameProducts s g g'
  products-same j f h k = d (prod j f) (h, k) (q.products_stay j f)

  pub quiet_facts : ((a : ℕ) → a < s.n → account_ok (account_at g' a) ≡ true) → ((a j : ℕ) → a < s.n → j < s.p → held_ok g' j a ≡ true)
      → ((j : ℕ) → j < s.p → is 0 (sum s.n (λ a. g' (lots a j))) ≡ true) → Facts s g → Facts s g'
  quiet_facts accounts positions adds f =
      let t = in-range 0 (s.n + 1) (g phase) f.phase_in in let high = t.high in
      record {
        house_in = rw house-same f.house_in;
        phase_in = rw phase-same f.phase_in;
        product = λ j h. product-kept s g g' products-same j h (f.product j h);
        account = accounts;
        held = positions;
        balanced = adds;
        done = λ b l. let l' : b < turn g - 1 = rw phase-same at l in rw (due-same b (omega arith)) (f.done b l');
        to_come = λ ne.
            rw (phase-same, house-same)
            (stays_same (s.n + 1 - turn g) (g house) (turn g - 1) g g' (λ b h k. due-same b (let z : nat_abs (g phase) ≢ 0 = rw phase-same at ne in omega arith)) ∙ f.to_come (rw phase-same at ne));
      }

-- ---- a rule that keeps to some footprint on every sound ledger keeps a ledger: the form that a proof about code uses

-- the rule leaves a sound ledger of the same shape
pub record Safe {A : Type 0} (L : Layout) (W : List ℤ) (r : Rule A) : Type 0 where
  pub sound_after : sound L (words_after L W r) ≡ true
  pub same_shape : shape_of (words_after L W r) ≡ shape_of W

pub safe_of : {A : Type 0} (L : Layout) (W : List ℤ) (F : Footprint) (r : Rule A) → KeepsTo places_ok L W F r → Safe L W r
safe_of L W F r o = record { sound_after = o.sound_after; same_shape = shape-kept L W F (acts L W r).puts o.inside }

-- the ledger of the shape s after the rule r
abbrev pub After : {A : Type 0} → Layout → Shape → List ℤ → Rule A → Type 0
After L s W r = Ledger L s (puts L s W (r s (get L s W)).puts)

module _ {A : Type 0} (L : Layout) (s : Shape) (W : List ℤ) (r : Rule A) where
  pub ledger-kept : (sound L W ≡ true → Safe L W r) → Ledger L s W → After L s W r
  ledger-kept h l =
      let o = h (sound-of places_ok L s W l) in
      subst (λ z. After L z W r) l.shaped (ledger-at places_ok L (words_after L W r) (shape_of W) o.sound_after (sym o.same_shape))

  -- what a call leaves whose contract says that it performs the rule
  pub ledger_called : (refusal : Act A) (answer : A) (exit : List ℤ) → (answer, exit) ≡ perform_by places_ok refusal L W r → (Ledger L s W → After L s W r)
      → Ledger L s W → Ledger L s exit
  ledger_called refusal answer exit e k l = subst (Ledger L s) (sym (ap (λ z. z.1) (e ∙ performed_at places_ok L W refusal r s l))) (k l)

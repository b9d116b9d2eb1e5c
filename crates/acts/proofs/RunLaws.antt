-- The run's footprints, and begin: what it puts and sees, that it keeps the ledger sound, and how it moves the phase. Step is in `StepLaws`.
-- Assumes nothing.
use Rattle.std.specs.Prelude.{◌≡◌, refl, ◌≢◌, List, [], ◌∷◌, Bool, true, false, ℕ, ◌+◌, ◌-◌, ◌≤◌, ◌<◌, ℤ, pos, nat_abs}
use Rattle.std.proofs.Common.{ap, ◌∙◌, arith}
use Rattle.whole.specs.Number.{within, between, is, unless}
use Rattle.whole.specs.Tests.{InRange, in-range, is_in}
use Rattle.rules.specs.Sizes.{most_house}
use Rattle.rules.specs.Account.{account_ok}
use Rattle.rules.specs.declared.Reply.{Reply}
use Rattle.places.specs.declared.Shape.{Shape}
use Rattle.places.specs.Place.{Place, head, prod, acct, held, View, Layout, Put, ◌≔◌, get, puts, house, phase, due}
use Rattle.places.specs.PlaceLaws.{get-put-same}
use Rattle.places.specs.Act.{shape_of, Act}
use Rattle.places.specs.ActLaws.{unless-puts, sized}
use Rattle.places.specs.Footprint.{Footprint, Inside, Differ, KeepsTo, acts, words_after, sees, differ}
use Rattle.soundness.specs.Sound.{account_at, turn, stays, sound, places_ok}
use Rattle.soundness.specs.Perform.{refuse, does}
use Rattle.soundness.specs.SoundLaws.{Facts, facts_kept}
use Rattle.soundness.specs.Keep.{SameProducts, SamePositions, account-same, product-kept, held_same, balanced-same, stays_same}
use Rattle.acts.specs.Run.{begin_rule}

-- ---- footprints

-- begin puts the phase; it sees the phase, the house and every account's due 0
abbrev pub BeginPuts : Place → Type 0
BeginPuts (head k) = k ≡ 2
BeginPuts (prod j f) = ⊥
BeginPuts (acct b f) = ⊥
BeginPuts (held b j f) = ⊥

abbrev pub BeginSees : Place → Type 0
BeginSees (head k) = 2 ≤ k
BeginSees (prod j f) = ⊥
BeginSees (acct b f) = f ≡ 5
BeginSees (held b j f) = ⊥

pub begin-seen : (q : Place) → BeginPuts q → BeginSees q
begin-seen (head k) h = omega arith
begin-seen (prod j f) h = h
begin-seen (acct b f) h = absurd h
begin-seen (held b j f) h = h

abbrev pub beginning : Footprint
beginning = record { Puts = BeginPuts; Sees = BeginSees; seen = begin-seen; body = λ k h. omega arith }

-- the step of phase t puts and sees the phase, the house, and words of the account t - 1, but not its kind
abbrev pub StepPuts : ℕ → Place → Type 0
StepPuts t (head k) = (2 ≤ k) × (k ≤ 3)
StepPuts t (prod j f) = ⊥
StepPuts t (acct b f) = (b + 1 ≡ t) × (1 ≤ f)
StepPuts t (held b j f) = ⊥

abbrev pub stepping : ℕ → Footprint
stepping t = record { Puts = StepPuts t; Sees = StepPuts t; seen = λ q h. h; body = λ k h. h.0 }

-- ---- a footprint that puts neither a product's word nor a position: the run's

pub record OffTrades (F : Footprint) : Type 0 where
  pub products_stay : (j f : ℕ) → F.Puts (prod j f) → ⊥
  pub positions_stay : (a j f : ℕ) → F.Puts (held a j f) → ⊥

module _ (s : Shape) (F : Footprint) (g g' : View) (d : Differ s F g g') (q : OffTrades F) where
  products-same : SameProducts s g g'
  products-same j f h k = d (prod j f) (h, k) (q.products_stay j f)

  positions_same : SamePositions s g g'
  positions_same a j f h k l = d (held a j f) (h, k, l) (q.positions_stay a j f)

  -- the facts of a changed head and changed accounts
  pub off_trades : within most_house (g' house) ≡ true → between (pos 0) (pos (s.n + 1)) (g' phase) ≡ true → ((a : ℕ) → a < s.n → account_ok (account_at g' a) ≡ true)
      → ((a : ℕ) → a < turn g' - 1 → is 0 (g' (due a 0)) ≡ true) → (turn g' ≢ 0 → stays (s.n + 1 - turn g') (g' house) (turn g' - 1) g' ≡ true) → Facts s g → Facts s g'
  off_trades house_in phase_in accounts done to_come f =
      record {
        house_in = house_in;
        phase_in = phase_in;
        product = λ j h. product-kept s g g' products-same j h (f.product j h);
        account = accounts;
        held = λ a j h k. held_same s g g' products-same positions_same a j h k ∙ f.held a j h k;
        balanced = λ j h. balanced-same s g g' positions_same j h ∙ f.balanced j h;
        done = done;
        to_come = to_come;
      }

-- ---- begin

record Begins (s : Shape) (g : View) : Type 0 where
  idle : InRange 0 0 (g phase)
  room : stays s.n (g house) 0 g ≡ true

begin-puts : (P : List Put → Type 0) (s : Shape) (g : View) → P [] → (Begins s g → P ((phase ≔ pos 1) ∷ [])) → P (begin_rule s g).puts
begin-puts P s g z h =
    unless-puts P (is 0 (g phase)) (refuse 7) _ z (λ e. unless-puts P (stays s.n (g house) 0 g) (refuse 13) _ z (λ r.
    h (record { idle = in-range 0 0 (g phase) e; room = r })))

begin_off_trades : OffTrades beginning
begin_off_trades = record { products_stay = λ j f h. h; positions_stay = λ a j f h. h }

begin_facts : (s : Shape) (g g' : View) → Differ s beginning g g' → g' phase ≡ pos 1 → Begins s g → Facts s g → Facts s g'
begin_facts s g g' d new b f =
    off_trades s beginning g g' d begin_off_trades
    (rw house-same f.house_in)
    (rw new (is_in 0 (s.n + 1) 1 (omega arith) (omega arith)))
    (λ a h. ap account_ok (account-same g g' a (λ i k. d (acct a i) (h, k) (λ z. z))) ∙ f.account a h)
    (λ a l. let z : a < 1 - 1 = rw new at l in absurd (omega arith))
    (λ ne. rw (new, house-same) (ap (λ m. stays m (g house) 0 g') all ∙ stays_same s.n (g house) 0 g g' (λ a i k. d (due a 0) (k' a k, omega arith) (λ z. z)) ∙ b.room))
    f
  where
    house-same : g' house ≡ g house
    house-same = d house (omega arith) (λ h. let z : ◌≡◌ {A = ℕ} 3 2 = h in omega arith)

    all : s.n + 1 - 1 ≡ s.n
    all = omega arith

    k' : (a : ℕ) → a < 0 + s.n → a < s.n
    k' a k = omega arith

module _ (L : Layout) (W : List ℤ) (e : sound L W ≡ true) where
  abbrev s : Shape
  s = shape_of W

  abbrev g : View
  g = get L s W

  begin-inside : Inside s beginning ((phase ≔ pos 1) ∷ [])
  begin-inside = ((omega arith, refl), tt)

  pub begin-of : KeepsTo places_ok L W beginning begin_rule
  begin-of =
      record {
        inside = begin-puts (Inside s beginning) s g tt (λ b. begin-inside);
        sound_after = begin-puts (λ vs. sound L (puts L s W vs) ≡ true) s g e (λ b.
            facts_kept L W e beginning ((phase ≔ pos 1) ∷ []) begin-inside
            (begin_facts s g (get L s (puts L s W ((phase ≔ pos 1) ∷ []))) (differ L W beginning ((phase ≔ pos 1) ∷ []) begin-inside)
            (get-put-same L s W phase (pos 1) (sized places_ok L W e) (omega arith)) b));
        blind = λ us o.
            rw (sees L W beginning us o phase (omega arith) (omega arith), sees L W beginning us o house (omega arith) (omega arith))
            (ap (λ t. unless (is 0 (g phase)) (refuse 7) (unless t (refuse 13) (does (pos 0) ((phase ≔ pos 1) ∷ []))))
            (stays_same s.n (g house) 0 g (get L s (puts L s W us)) (λ b h k. sees L W beginning us o (due b 0) (omega arith, omega arith) refl)));
      }

  -- a begin never lowers the phase
  pub begin-turn : turn g ≤ turn (get L s (words_after L W begin_rule))
  begin-turn = begin-puts (λ vs. turn g ≤ turn (get L s (puts L s W vs))) s g (omega arith) (λ b. let i = b.idle.high in omega arith)

  -- and leaves it once the run has begun
  pub begin-same : 1 ≤ turn g → turn (get L s (words_after L W begin_rule)) ≡ turn g
  begin-same = begin-puts (λ vs. 1 ≤ turn g → turn (get L s (puts L s W vs)) ≡ turn g) s g (λ h. refl) (λ b h. let i = b.idle.high in absurd (omega arith))

  -- a begin that is accepted was made in phase 0, and leaves phase 1
  pub begin_accepted : (acts L W begin_rule).answer.number ≡ 0 → (turn g ≡ 0) × (turn (get L s (words_after L W begin_rule)) ≡ 1)
  begin_accepted n = go (is 0 (g phase)) refl (stays s.n (g house) 0 g) n
    where
      tested : Bool → Bool → Act Reply
      tested t u = unless t (refuse 7) (unless u (refuse 13) (does (pos 0) ((phase ≔ pos 1) ∷ [])))

      go : (t : Bool) → is 0 (g phase) ≡ t → (u : Bool) → (tested t u).answer.number ≡ 0 → (turn g ≡ 0) × (turn (get L s (puts L s W (tested t u).puts)) ≡ 1)
      go true b true n = (let i = (in-range 0 0 (g phase) b).high in omega arith, ap nat_abs (get-put-same L s W phase (pos 1) (sized places_ok L W e) (omega arith)))
      go true b false n = absurd (omega arith)
      go false b true n = absurd (omega arith)
      go false b false n = absurd (omega arith)

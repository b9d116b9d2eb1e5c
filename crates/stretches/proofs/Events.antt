-- The ledger's events are lawful in the sense of `Sort`: each keeps to a footprint, and any two that stand the wrong way round are apart. A new kind of
-- request about one account costs a line in `ask-of` and in `ask-none`; a new late kind costs one record `Late`. Assumes nothing.
use Rattle.std.specs.Prelude.{◌≡◌, refl, ◌≢◌, ◌⊎◌, List, Bool, true, false, cond, ◌&&◌, ℕ, ◌+◌, ◌≤◌, ◌<◌, ltb, eqb, ℤ, nat_abs}
use Rattle.std.proofs.Common.{sym, ap, ap₂, subst, ◌∙◌, inl, inr, ⊎_elim, ltb-true, ltb-false, lt-ltb, le-ltb, arith}
use Rattle.whole.specs.Number.{is_one_of}
use Rattle.whole.specs.Tests.{both, is-one-of}
use Rattle.places.specs.Place.{Layout, get, phase}
use Rattle.places.specs.Act.{shape_of}
use Rattle.places.specs.Footprint.{Footprint, Apart, KeepsTo, words_after, apart_sym, commute, after-sound, after-shape, after-word, after_same}
use Rattle.soundness.specs.Sound.{sound, places_ok}
use Rattle.soundness.specs.Perform.{refuse, refuse_question}
use Rattle.acts.specs.Requests.{deposit_act, withdraw_act, guarantee_act, question_act, deposit_rule, withdraw_rule, guarantee_rule, question_rule}
use Rattle.acts.specs.Trade.{trade_rule}
use Rattle.acts.specs.Run.{begin_rule, step_rule}
use Rattle.acts.proofs.OneAccount.{own, nothing, request_of, request_none}
use Rattle.acts.proofs.RequestsLaws.{deposit_proper, withdraw_proper, guarantee_proper, question_proper}
use Rattle.acts.proofs.TradeLaws.{trading, trade-of}
use Rattle.acts.proofs.RunLaws.{beginning, stepping, begin-of, begin-turn, begin-same}
use Rattle.acts.proofs.StepLaws.{step_of, step-turn, step-next, step_past}
use Rattle.stretches.specs.Apart.{nothing_any, own-own, own-step, own-begin, trade-own, trade-step, trade-begin}
use Rattle.stretches.specs.Stretch.{early, run, late, idle, rank}
use Rattle.stretches.specs.Sort.{Swap, Lawful}
use Rattle.stretches.specs.History.{said, told, Ask, deposit, withdrawal, guarantee, question, Event, asks, trade, transfer, begin, close, happens, waits, judge, phase_of, made, stretch}
use Rattle.stretches.proofs.EventRules.{map_of, ask_rule, rule, unsound, acts, happens-acts}

-- ---- judging

-- a request that is judged early, and one that is not
early-of : (n f : ℕ) (a : ℤ) (q : Ask) → rank (judge n f (asks a q)) < 2 → (is_one_of n a ≡ true) × (f < nat_abs a + 2)
early-of n f a q h = go (waits n f a) refl h
  where
    go : (t : Bool) → waits n f a ≡ t → rank (cond t early late) < 2 → (is_one_of n a ≡ true) × (f < nat_abs a + 2)
    go true e h = let b = both (is_one_of n a) (ltb f (nat_abs a + 2)) e in (b.0, ltb-true f (nat_abs a + 2) b.1)
    go false e h = absurd (omega arith)

judged-early : (n f : ℕ) (a : ℤ) (q : Ask) → is_one_of n a ≡ true → f < nat_abs a + 2 → judge n f (asks a q) ≡ early
judged-early n f a q b h = rw (b, lt-ltb f (nat_abs a + 2) h)

late_of : (n f : ℕ) (a : ℤ) (q : Ask) → 0 < rank (judge n f (asks a q)) → (is_one_of n a ≡ false) ⊎ ((is_one_of n a ≡ true) × (nat_abs a + 2 ≤ f))
late_of n f a q h = go (is_one_of n a) refl (ltb f (nat_abs a + 2)) refl h
  where
    go : (t : Bool) → is_one_of n a ≡ t → (u : Bool) → ltb f (nat_abs a + 2) ≡ u → 0 < rank (cond (t && u) early late)
        → (is_one_of n a ≡ false) ⊎ ((is_one_of n a ≡ true) × (nat_abs a + 2 ≤ f))
    go true e true e' h = absurd (omega arith)
    go true e false e' h = inr (e, ltb-false f (nat_abs a + 2) e')
    go false e true e' h = inl e
    go false e false e' h = inl e

-- begin is the run's, or idle
begin-rank : (n f : ℕ) → 1 ≤ rank (judge n f begin)
begin-rank n f = go (eqb f 0)
  where
    go : (t : Bool) → 1 ≤ rank (cond t run idle)
    go true = omega arith
    go false = omega arith

begin-first : (n f : ℕ) → rank (judge n f begin) < 3 → rank (judge n f begin) ≡ 1
begin-first n f h = go (eqb f 0) h
  where
    go : (t : Bool) → rank (cond t run idle) < 3 → rank (cond t run idle) ≡ 1
    go true h = refl
    go false h = absurd (omega arith)

-- two lists of words of one shape and phase judge alike
same-stretch : (L : Layout) (W W' : List ℤ) (e : Event) → shape_of W' ≡ shape_of W → phase_of L W' ≡ phase_of L W → stretch L W' e ≡ stretch L W e
same-stretch L W W' e h k = ap₂ (λ s f. judge s.n f e) h k

-- what an event e on W keeps: W' are the words after it
pub record Kept (L : Layout) (W : List ℤ) (e : Event) (W' : List ℤ) : Type 0 where
  pub sound_after : sound L W' ≡ true
  pub same_shape : shape_of W' ≡ shape_of W
  pub phase_up : phase_of L W ≤ phase_of L W'
  pub phase_next : 1 ≤ phase_of L W → phase_of L W ≤ (shape_of W).n → phase_of L W' ≡ phase_of L W + made e

plus_none : (k : ℕ) → k ≡ k + 0
plus_none k = omega arith

-- ---- on a sound ledger

module _ (L : Layout) (W : List ℤ) (ok : sound L W ≡ true) where
  -- a request that names one account keeps to its record; one that names no account of the ledger sees nothing
  ask-of : (a : ℤ) (q : Ask) → is_one_of (shape_of W).n a ≡ true → KeepsTo places_ok L W (own (nat_abs a)) (ask_rule a q)
  ask-of a (deposit x) b = map_of said L W (own (nat_abs a)) (deposit_rule a x) (request_of L W ok (refuse 3) refl a (deposit_act x) (deposit_proper x) b)
  ask-of a (withdrawal x) b = map_of said L W (own (nat_abs a)) (withdraw_rule a x) (request_of L W ok (refuse 3) refl a (withdraw_act x) (withdraw_proper x) b)
  ask-of a (guarantee x y) b = map_of said L W (own (nat_abs a)) (guarantee_rule a x y) (request_of L W ok (refuse 3) refl a (guarantee_act x y) (guarantee_proper x y) b)
  ask-of a question b = map_of told L W (own (nat_abs a)) (question_rule a) (request_of L W ok (refuse_question 3) refl a question_act question_proper b)

  ask-none : (a : ℤ) (q : Ask) → is_one_of (shape_of W).n a ≡ false → KeepsTo places_ok L W nothing (ask_rule a q)
  ask-none a (deposit x) b = map_of said L W nothing (deposit_rule a x) (request_none L W ok (refuse 3) refl a (deposit_act x) b)
  ask-none a (withdrawal x) b = map_of said L W nothing (withdraw_rule a x) (request_none L W ok (refuse 3) refl a (withdraw_act x) b)
  ask-none a (guarantee x y) b = map_of said L W nothing (guarantee_rule a x y) (request_none L W ok (refuse 3) refl a (guarantee_act x y) b)
  ask-none a question b = map_of told L W nothing (question_rule a) (request_none L W ok (refuse_question 3) refl a question_act b)

  transfer-of : KeepsTo places_ok L W (stepping (phase_of L W)) (rule transfer)
  transfer-of = map_of said L W (stepping (phase_of L W)) step_rule (step_of L W ok)

  start_of : KeepsTo places_ok L W beginning (rule begin)
  start_of = map_of said L W beginning begin_rule (begin-of L W ok)

  -- ---- what follows from a footprint

  module _ (F : Footprint) (e : Event) (o : KeepsTo places_ok L W F (rule e)) where
    sound_then : sound L (acts L W e).1 ≡ true
    sound_then = after-sound places_ok L W ok (unsound e) F (rule e) o

    shape_then : shape_of (acts L W e).1 ≡ shape_of W
    shape_then = after-shape places_ok L W ok (unsound e) F (rule e) o

    phase_then : phase_of L (acts L W e).1 ≡ nat_abs (get L (shape_of W) (words_after L W (rule e)) phase)
    phase_then = ap nat_abs (after-word places_ok L W ok (unsound e) F (rule e) o phase)

    phase-same : (F.Puts phase → ⊥) → phase_of L (acts L W e).1 ≡ phase_of L W
    phase-same k = ap nat_abs (after_same places_ok L W ok (unsound e) F (rule e) o phase (omega arith) k)

    -- an event that leaves the phase changes nobody's stretch
    others-stretch : (F.Puts phase → ⊥) → (x : Event) → stretch L (acts L W e).1 x ≡ stretch L W x
    others-stretch k x = same-stretch L W (acts L W e).1 x shape_then (phase-same k)

    swap : (G : Footprint) (x : Event) → KeepsTo places_ok L W G (rule x) → Apart F G → stretch L W x ≡ stretch L (acts L W e).1 x
        → stretch L (acts L W x).1 e ≡ stretch L W e
        → Swap (acts L) (stretch L) W e x
    swap G x o' d next this =
        let c = commute places_ok L W ok (unsound e) (unsound x) F G (rule e) (rule x) o o' d in
        record { next = sym c.second; this = c.first; ends = sym c.words; next_stretch = next; this_stretch = this }

    -- a request leaves the phase
    request_keeps : (F.Puts phase → ⊥) → made e ≡ 0 → Kept L W e (acts L W e).1
    request_keeps k m =
        record {
          sound_after = sound_then;
          same_shape = shape_then;
          phase_up = let z = phase-same k in omega arith;
          phase_next = λ l u. let z = phase-same k in omega arith;
        }

  -- the run's calls never lower the phase
  transfer-phase : phase_of L W ≤ phase_of L (acts L W transfer).1
  transfer-phase = rw (phase_then (stepping (phase_of L W)) transfer transfer-of) (step-turn L W ok)

  start_phase : phase_of L W ≤ phase_of L (acts L W begin).1
  start_phase = rw (phase_then beginning begin start_of) (begin-turn L W ok)

  -- ---- early requests, and late ones of whatever kind

  -- an event e that does not lower the phase, and next an early request of b: the request may come first, if e is apart from b
  before : (F : Footprint) (e : Event) → KeepsTo places_ok L W F (rule e) → (b : ℤ) (q : Ask) → phase_of L W ≤ phase_of L (acts L W e).1
      → rank (stretch L (acts L W e).1 (asks b q)) < 2
      → ((nat_abs b < (shape_of W).n) → phase_of L (acts L W e).1 < nat_abs b + 2 → Apart F (own (nat_abs b))) → Swap (acts L) (stretch L) W e (asks b q)
  before F e o b q up r d =
      let h = early-of (shape_of (acts L W e).1).n (phase_of L (acts L W e).1) b q r in
      let same = shape_then F e o in
      let i : is_one_of (shape_of W).n b ≡ true = ap (λ s. is_one_of s.n b) (sym same) ∙ h.0 in
      let w = h.1 in
      swap F e o (own (nat_abs b)) (asks b q) (ask-of b q i) (d (is-one-of (shape_of W).n b i).high w)
      (judged-early (shape_of W).n (phase_of L W) b q i (omega arith) ∙ sym (judged-early (shape_of (acts L W e).1).n (phase_of L (acts L W e).1) b q h.0 w))
      (others-stretch (own (nat_abs b)) (asks b q) (ask-of b q i) (λ z. z) e)

  -- what is known of an event that is judged late
  record Late (e : Event) : Type 1 where
    foot : Footprint
    of : KeepsTo places_ok L W foot (rule e)
    off_phase : foot.Puts phase → ⊥
    from_early : (b : ℕ) → phase_of L W < b + 2 → Apart foot (own b)
    from_transfer : Apart foot (stepping (phase_of L W))
    from_begin : Apart foot beginning
    still_late : (f : ℕ) → phase_of L W ≤ f → judge (shape_of W).n f e ≡ judge (shape_of W).n (phase_of L W) e

  late-ask : (a : ℤ) (q : Ask) → 0 < rank (stretch L W (asks a q)) → Late (asks a q)
  late-ask a q r = ⊎_elim none had (late_of (shape_of W).n (phase_of L W) a q r)
    where
      none : is_one_of (shape_of W).n a ≡ false → Late (asks a q)
      none b =
          record {
            foot = nothing;
            of = ask-none a q b;
            off_phase = λ z. z;
            from_early = λ c h. nothing_any (own c);
            from_transfer = nothing_any (stepping (phase_of L W));
            from_begin = nothing_any beginning;
            still_late = λ f h. rw b;
          }

      had : (is_one_of (shape_of W).n a ≡ true) × (nat_abs a + 2 ≤ phase_of L W) → Late (asks a q)
      had b =
          let h = b.1 in
          record {
            foot = own (nat_abs a);
            of = ask-of a q b.0;
            off_phase = λ z. z;
            from_early = λ c k. own-own (nat_abs a) c (λ z. omega arith);
            from_transfer = own-step (nat_abs a) (phase_of L W) (λ z. omega arith);
            from_begin = own-begin (nat_abs a);
            still_late = λ f k. rw (le-ltb f (nat_abs a + 2) (omega arith), le-ltb (phase_of L W) (nat_abs a + 2) h);
          }

  late-trade : (b c j q t : ℤ) → Late (trade b c j q t)
  late-trade b c j q t =
      record {
        foot = trading;
        of = map_of said L W trading (trade_rule b c j q t) (trade-of L W ok b c j q t);
        off_phase = λ z. z;
        from_early = λ c h. trade-own c;
        from_transfer = trade-step (phase_of L W);
        from_begin = trade-begin;
        still_late = λ f h. refl;
      }

  -- ---- the pairs that stand the wrong way round

  -- a late event, and then an early request or a call of the run
  late-swaps : (e : Event) → Late e → rank (stretch L W e) ≤ 2 → (x : Event) → rank (stretch L (acts L W e).1 x) < rank (stretch L W e) → Swap (acts L) (stretch L) W e x
  late-swaps e l k (asks b q) r =
      before l.foot e l.of b q (let z = phase-same l.foot e l.of l.off_phase in omega arith) (omega arith)
      (λ i h. l.from_early (nat_abs b) (let z = phase-same l.foot e l.of l.off_phase in omega arith))
  late-swaps e l k (trade b c j q t) r = absurd (omega arith)
  late-swaps e l k transfer r =
      swap l.foot e l.of (stepping (phase_of L W)) transfer transfer-of l.from_transfer refl
      (ap (λ s. judge s.n (phase_of L (acts L W transfer).1) e) (shape_then (stepping (phase_of L W)) transfer transfer-of) ∙ l.still_late (phase_of L (acts L W transfer).1) transfer-phase)
  late-swaps e l k begin r =
      swap l.foot e l.of beginning begin start_of l.from_begin (sym (others-stretch l.foot e l.of l.off_phase begin))
      (ap (λ s. judge s.n (phase_of L (acts L W begin).1) e) (shape_then beginning begin start_of) ∙ l.still_late (phase_of L (acts L W begin).1) start_phase)
  late-swaps e l k (close prices rates8 rates104 lags) r = absurd (omega arith)

  -- a call of the run, and then an early request
  transfer-swaps : (x : Event) → rank (stretch L (acts L W transfer).1 x) < 1 → Swap (acts L) (stretch L) W transfer x
  transfer-swaps (asks b q) r =
      before (stepping (phase_of L W)) transfer transfer-of b q transfer-phase (omega arith)
      (λ i h. apart_sym (own (nat_abs b)) (stepping (phase_of L W)) (own-step (nat_abs b) (phase_of L W)
      (step_past L W ok (nat_abs b) i (rw (phase_then (stepping (phase_of L W)) transfer transfer-of) at h))))
  transfer-swaps (trade b c j q t) r = absurd (omega arith)
  transfer-swaps transfer r = absurd (omega arith)
  transfer-swaps begin r = absurd (omega (arith, begin-rank (shape_of (acts L W transfer).1).n (phase_of L (acts L W transfer).1)))
  transfer-swaps (close prices rates8 rates104 lags) r = absurd (omega arith)

  start_swaps : (x : Event) → rank (stretch L (acts L W begin).1 x) < 1 → Swap (acts L) (stretch L) W begin x
  start_swaps (asks b q) r =
      before beginning begin start_of b q start_phase (omega arith) (λ i h. apart_sym (own (nat_abs b)) beginning (own-begin (nat_abs b)))
  start_swaps (trade b c j q t) r = absurd (omega arith)
  start_swaps transfer r = absurd (omega arith)
  start_swaps begin r = absurd (omega (arith, begin-rank (shape_of (acts L W begin).1).n (phase_of L (acts L W begin).1)))
  start_swaps (close prices rates8 rates104 lags) r = absurd (omega arith)

  swaps : (e x : Event) → rank (stretch L (acts L W e).1 x) < rank (stretch L W e) → rank (stretch L W e) < 3 → Swap (acts L) (stretch L) W e x
  swaps (asks a q) x r k = late-swaps (asks a q) (late-ask a q (omega arith)) (omega arith) x r
  swaps (trade b c j q t) x r k = late-swaps (trade b c j q t) (late-trade b c j q t) (omega arith) x r
  swaps transfer x r k = transfer-swaps x r
  swaps begin x r k = start_swaps x (omega (arith, begin-first (shape_of W).n (phase_of L W) k))
  swaps (close prices rates8 rates104 lags) x r k = absurd (omega arith)

  -- every event that is not idle leaves a sound ledger of the same shape, never lowers the phase, and in a run raises it by the
  -- transfers that it makes
  pub keeps : (e : Event) → stretch L W e ≢ idle → Kept L W e (acts L W e).1
  keeps (asks a q) h = go (is_one_of (shape_of W).n a) refl
    where
      go : (t : Bool) → is_one_of (shape_of W).n a ≡ t → Kept L W (asks a q) (acts L W (asks a q)).1
      go true b = request_keeps (own (nat_abs a)) (asks a q) (ask-of a q b) (λ z. z) refl
      go false b = request_keeps nothing (asks a q) (ask-none a q b) (λ z. z) refl
  keeps (trade b c j q t) h = let l = late-trade b c j q t in request_keeps l.foot (trade b c j q t) l.of l.off_phase refl
  keeps transfer h =
      let F = stepping (phase_of L W) in
      record {
        sound_after = sound_then F transfer transfer-of;
        same_shape = shape_then F transfer transfer-of;
        phase_up = transfer-phase;
        phase_next = λ l k. phase_then F transfer transfer-of ∙ step-next L W ok l (omega arith);
      }
  keeps begin h =
      record {
        sound_after = sound_then beginning begin start_of;
        same_shape = shape_then beginning begin start_of;
        phase_up = start_phase;
        phase_next = λ l k. phase_then beginning begin start_of ∙ begin-same L W ok l ∙ plus_none (phase_of L W);
      }
  keeps (close prices rates8 rates104 lags) h = absurd (h refl)

-- ---- the ledger's events are lawful

abbrev pub Good : Layout → List ℤ → Type 0
Good L W = sound L W ≡ true

acts_lawful : (L : Layout) → Lawful (acts L) (stretch L) (Good L)
acts_lawful L = record { keeps = λ W e ok h. (keeps L W ok e h).sound_after; swaps = λ W e x ok r k. swaps L W ok e x r k }

pub lawful : (L : Layout) → Lawful (happens L) (stretch L) (Good L)
lawful L = subst (λ act. Lawful act (stretch L) (Good L)) (λ i W e. sym (happens-acts L W e) i) (acts_lawful L)

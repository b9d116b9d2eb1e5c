-- Demand 3, proved: `demand_3`, from the ledger after an accepted begin, and `demand_3_from-begin`, with begin as the run's first call. Over every layout
-- that has the laws of `Layout`, every sound ledger and every history. Beside them `under_way`, of a run that is watched from a later phase or not to its
-- end; `by_the_list`: each event's stretch can be told from the list alone; `left-done`: the ledger at the end is sound and in phase n + 1. Assumes nothing.
use Rattle.std.specs.Prelude.{◌≡◌, refl, List, [], ◌∷◌, Bool, true, false, cond, ℕ, suc, ◌+◌, ◌-◌, ◌≤◌, ◌<◌, eqb, ℤ, pos, nat_abs}
use Rattle.std.proofs.Common.{sym, ap, ap₂, subst, ◌∙◌, eq-eqb, ne_eqb, arith}
use Rattle.whole.specs.Tests.{in-range}
use Rattle.places.specs.declared.Shape.{Shape}
use Rattle.places.specs.Place.{Layout, get, phase, due}
use Rattle.places.specs.Act.{shape_of}
use Rattle.places.specs.ActLaws.{performed}
use Rattle.places.specs.Footprint.{after-word}
use Rattle.soundness.specs.Sound.{sound, places_ok}
use Rattle.soundness.specs.SoundLaws.{sound_facts}
use Rattle.soundness.specs.Perform.{replies, refuse}
use Rattle.acts.specs.Run.{begin_rule}
use Rattle.acts.proofs.RunLaws.{beginning, begin-of, begin_accepted}
use Rattle.stretches.specs.Stretch.{Stretch, early, run, late, rank, only}
use Rattle.stretches.specs.Sort.{sort}
use Rattle.stretches.specs.History.{Answer, said, told, Event, asks, trade, transfer, begin, close, happens, waits, phase_of, stretch, Until, Refused, transfers, made, transfers_in, events_of, words_after_all, last_stretch, after_run, ThreeStretches}
use Rattle.stretches.specs.Leaves.{chosen, LeftIn}
use Rattle.stretches.proofs.Events.{Good, lawful}
use Rattle.stretches.proofs.Attempts.{advance, Open, until_open, attempts-refused}

-- ---- the run: once it has begun, its events are the transfers

run_events : (L : Layout) (W : List ℤ) (es : List Event) → sound L W ≡ true → Open L W es → 1 ≤ phase_of L W → events_of L run W es ≡ transfers (transfers_in es)
run_events L W [] ok u h = refl
run_events L W (e ∷ es) ok u h =
    let k = advance L W ok u.0 e in let up = k.phase_up in
    one e (run_events L (happens L W e).1 es k.sound_after u.1 (omega arith))
  where
    no_more : transfers (transfers_in es) ≡ transfers (0 + transfers_in es)
    no_more = let z : transfers_in es ≡ 0 + transfers_in es = omega arith in ap transfers z

    one_more : transfers (suc (transfers_in es)) ≡ transfers (1 + transfers_in es)
    one_more = let z : suc (transfers_in es) ≡ 1 + transfers_in es = omega arith in ap transfers z

    one : (x : Event) → events_of L run (happens L W e).1 es ≡ transfers (transfers_in es)
        → only (eqb 1 (rank (stretch L W x))) x (events_of L run (happens L W e).1 es) ≡ transfers (made x + transfers_in es)
    one (asks a q) r = go (waits (shape_of W).n (phase_of L W) a)
      where
        go : (t : Bool) → only (eqb 1 (rank (cond t early late))) (asks a q) (events_of L run (happens L W e).1 es) ≡ transfers (0 + transfers_in es)
        go true = r ∙ no_more
        go false = r ∙ no_more
    one (trade b c j q t) r = r ∙ no_more
    one transfer r = ap (λ z. transfer ∷ z) r ∙ one_more
    one begin r = rw (ne_eqb (phase_of L W) 0 (λ z. omega arith)) (r ∙ no_more)
    one (close prices rates8 rates104 lags) r = r ∙ no_more

-- any history, whatever its run's events are
in_stretches : (L : Layout) (W : List ℤ) (es Rs : List Event) → sound L W ≡ true → Open L W es → events_of L run W es ≡ Rs → ThreeStretches L W es Rs
in_stretches L W es Rs ok u e =
    let a = attempts-refused L W es ok u in
    let t = sort (happens L) (stretch L) (Good L) (lawful L) (λ W e r. Refused (shape_of W).p e r) W es ok a in
    subst (λ z. ThreeStretches L W es z) e
    (record { early_answers = t.early_answers; run_answers = t.run_answers; late_answers = t.late_answers; words = t.ends; attempts = a })

-- ---- from any phase of a run that has begun: as many transfers as the history has

module _ (L : Layout) (W : List ℤ) (history : List Event) (ok : sound L W ≡ true) (on : 1 ≤ phase_of L W) (u : Until ((shape_of W).n + 1 - phase_of L W) history) where
  pub open_history : Open L W history
  open_history = until_open L W history ok on u

  pub under_way : ThreeStretches L W history (transfers (transfers_in history))
  under_way = in_stretches L W history (transfers (transfers_in history)) ok open_history (run_events L W history ok open_history on)

-- in phase 1 all n are to come
pub all-to_come : (L : Layout) (W : List ℤ) (history : List Event) → phase_of L W ≡ 1 → Until (shape_of W).n history → Until ((shape_of W).n + 1 - phase_of L W) history
all-to_come L W history one = let z : (shape_of W).n ≡ (shape_of W).n + 1 - phase_of L W = omega arith in subst (λ m. Until m history) z

-- ---- from the ledger after an accepted begin: phase 1

-- DEMAND 3. All n transfers are in the history, and none of its events comes after the last of them. A history in which a transfer is left out is no
-- whole run, and this does not cover it (`under_way` says what holds of the transfers that it has).
pub demand_3 : (L : Layout) (W : List ℤ) (history : List Event)
    → sound L W ≡ true
    → phase_of L W ≡ 1
    → Until (shape_of W).n history
    → transfers_in history ≡ (shape_of W).n
    → ThreeStretches L W history (transfers (shape_of W).n)
demand_3 L W history ok one u all = subst (λ m. ThreeStretches L W history (transfers m)) all (under_way L W history ok (omega arith) (all-to_come L W history one u))

-- each event's stretch can be told from the list alone
count_events : (L : Layout) (W : List ℤ) (c : Stretch) (es : List Event) → sound L W ≡ true → 1 ≤ phase_of L W → Open L W es
    → events_of L c W es ≡ chosen (shape_of W).n (phase_of L W) c es
count_events L W c [] ok h o = refl
count_events L W c (e ∷ es) ok h o =
    let k = advance L W ok o.0 e in let up = k.phase_up in
    ap (only (eqb (rank c) (rank (stretch L W e))) e)
    (count_events L (happens L W e).1 c es k.sound_after (omega arith) o.1 ∙ ap₂ (λ n f. chosen n f c es) (ap (λ s. s.n) k.same_shape) (k.phase_next h o.0))

pub by_the_list : (L : Layout) (W : List ℤ) (c : Stretch) (history : List Event) → sound L W ≡ true → phase_of L W ≡ 1 → Until (shape_of W).n history
    → events_of L c W history ≡ chosen (shape_of W).n 1 c history
by_the_list L W c history ok one u =
    count_events L W c history ok (omega arith) (open_history L W history ok (omega arith) (all-to_come L W history one u)) ∙ ap (λ f. chosen (shape_of W).n f c history) one

-- ---- the ledger at the end

left_in : (L : Layout) (W : List ℤ) (es : List Event) → sound L W ≡ true → 1 ≤ phase_of L W → Open L W es
    → LeftIn L (words_after_all L W es) (shape_of W) (phase_of L W + transfers_in es)
left_in L W [] ok h o = record { sound_words = ok; same_shape = refl; phase_is = omega arith }
left_in L W (e ∷ es) ok h o =
    let k = advance L W ok o.0 e in let up = k.phase_up in let next = k.phase_next h o.0 in
    let r = left_in L (happens L W e).1 es k.sound_after (omega arith) o.1 in
    let f = r.phase_is in
    record { sound_words = r.sound_words; same_shape = r.same_shape ∙ k.same_shape; phase_is = omega arith }

-- the run is done: the ledger is sound, of the same shape, in phase n + 1
pub left-done : (L : Layout) (W : List ℤ) (history : List Event) → sound L W ≡ true → phase_of L W ≡ 1 → Until (shape_of W).n history → transfers_in history ≡ (shape_of W).n
    → LeftIn L (words_after_all L W history) (shape_of W) ((shape_of W).n + 1)
left-done L W history ok one u all =
    let z : phase_of L W + transfers_in history ≡ (shape_of W).n + 1 = omega arith in
    subst (LeftIn L (words_after_all L W history) (shape_of W)) z (left_in L W history ok (omega arith) (open_history L W history ok (omega arith) (all-to_come L W history one u)))

-- and so do the three stretches, one after another
pub stretches_left : (L : Layout) (W : List ℤ) (history theRun : List Event) (s : Shape) (f : ℕ) → ThreeStretches L W history theRun
    → LeftIn L (words_after_all L W history) s f
    → LeftIn L (words_after_all L (after_run L W history theRun) (last_stretch L W history theRun)) s f
stretches_left L W history theRun s f t = subst (λ z. LeftIn L z s f) t.words

-- in a sound ledger of phase n + 1 no account has anything due now
pub none_due : (L : Layout) (W : List ℤ) (s : Shape) → LeftIn L W s (s.n + 1) → (a : ℕ) → a < s.n → get L s W (due a 0) ≡ pos 0
none_due L W s r a h =
    let f = r.phase_is in
    let z = in-range 0 0 (get L (shape_of W) W (due a 0)) ((sound_facts L W r.sound_words).done a (omega arith)) in let low : nat_abs (get L (shape_of W) W (due a 0)) ≤ 0 = z.high in
    let n : nat_abs (get L (shape_of W) W (due a 0)) ≡ 0 = omega arith in
    ap (λ t. get L t W (due a 0)) (sym r.same_shape) ∙ z.nat ∙ ap pos n

-- ---- from the ledger before the run, begin its first call

-- the number that an answer states
abbrev number : Answer → ℕ
number (said r) = r.number
number (told r) = r.number

module _ (L : Layout) (W : List ℤ) (ok : sound L W ≡ true) (e : (happens L W begin).0 ≡ said (replies 0 (pos 0))) where
  -- a begin that was accepted was made in phase 0, and leaves phase 1
  pub accepted : (phase_of L W ≡ 0) × (phase_of L (happens L W begin).1 ≡ 1)
  accepted =
      let b = begin_accepted L W ok (ap (λ z. z.0.number) (sym (performed places_ok L W (refuse 1) begin_rule ok)) ∙ ap number e) in
      (b.0, ap nat_abs (after-word places_ok L W ok (refuse 1) beginning begin_rule (begin-of L W ok) phase) ∙ b.1)

  -- and a sound ledger of the same shape
  pub begun : LeftIn L (happens L W begin).1 (shape_of W) 1
  begun =
      let b = accepted in let none = b.0 in let k = advance L W ok (omega arith) begin in
      record { sound_words = k.sound_after; same_shape = k.same_shape; phase_is = b.1 }

-- DEMAND 3, with begin, which was accepted, as the run's first call.
pub demand_3_from-begin : (L : Layout) (W : List ℤ) (history : List Event)
    → sound L W ≡ true
    → (happens L W begin).0 ≡ said (replies 0 (pos 0))
    → Until (shape_of W).n history
    → transfers_in history ≡ (shape_of W).n
    → ThreeStretches L W (begin ∷ history) (begin ∷ transfers (shape_of W).n)
demand_3_from-begin L W history ok e u all =
    let none = (accepted L W ok e).0 in let b = begun L W ok e in let one = b.phase_is in
    let W' = (happens L W begin).1 in
    let o = open_history L W' history b.sound_words (omega arith) (all-to_come L W' history one (subst (λ s. Until s.n history) (sym b.same_shape) u)) in
    in_stretches L W (begin ∷ history) (begin ∷ transfers (shape_of W).n) ok (omega arith, o)
    (rw (eq-eqb (phase_of L W) 0 none) (ap (λ z. begin ∷ z) (run_events L W' history b.sound_words o (omega arith) ∙ ap transfers all)))

-- and what it leaves
pub left-done-from-begin : (L : Layout) (W : List ℤ) (history : List Event) → sound L W ≡ true → (happens L W begin).0 ≡ said (replies 0 (pos 0))
    → Until (shape_of W).n history
    → transfers_in history ≡ (shape_of W).n → LeftIn L (words_after_all L W (begin ∷ history)) (shape_of W) ((shape_of W).n + 1)
left-done-from-begin L W history ok e u all =
    let b = begun L W ok e in
    let W' = (happens L W begin).1 in
    subst (λ s. LeftIn L (words_after_all L W' history) s (s.n + 1)) b.same_shape
    (left-done L W' history b.sound_words b.phase_is (subst (λ s. Until s.n history) (sym b.same_shape) u) (subst (λ s. transfers_in history ≡ s.n) (sym b.same_shape) all))

-- Attempts: before the run's last account is done every idle event is refused with the paper's number and changes nothing. So every event, an
-- attempt too, keeps the ledger sound, and the phase counts the transfers. Assumes nothing.
use Rattle.std.specs.Prelude.{◌≡◌, refl, ◌≢◌, List, [], ◌∷◌, Bool, true, false, cond, ℕ, ◌+◌, ◌-◌, ◌≤◌, eqb, ℤ, pos, nat_abs}
use Rattle.std.proofs.Common.{sym, ap, subst, ◌∙◌, arith}
use Rattle.std.proofs.lemmas.Bool.{eqb-false}
use Rattle.whole.specs.Number.{is, unless}
use Rattle.whole.specs.Tests.{in-range, is_false}
use Rattle.places.specs.Place.{Layout, get, phase}
use Rattle.places.specs.Act.{shape_of, finish}
use Rattle.places.specs.ActLaws.{performed}
use Rattle.soundness.specs.Sound.{sound, places_ok}
use Rattle.soundness.specs.Perform.{replies, refuse, perform}
use Rattle.acts.specs.Run.{begin_rule}
use Rattle.daily.specs.DailyFigures.{lengths_ok}
use Rattle.closing.specs.Close.{close_rule}
use Rattle.stretches.specs.Stretch.{Stretch, early, run, late, idle, rank}
use Rattle.stretches.specs.History.{said, Event, asks, trade, transfer, begin, close, happens, waits, phase_of, stretch, Until, Refused, AttemptsRefused, made}
use Rattle.stretches.proofs.EventRules.{happens-acts}
use Rattle.stretches.proofs.Events.{Kept, keeps}

not_is : (k : ℕ) (z : ℤ) → nat_abs z ≢ k → is k z ≡ false
not_is k z ne = is_false (is k z) (λ e. let i = in-range k k z e in let l = i.low in let h = i.high in ne (omega arith))

module _ (L : Layout) (W : List ℤ) (ok : sound L W ≡ true) where
  -- begin in any other phase than 0
  pub attempt_begin : phase_of L W ≢ 0 → perform L W begin_rule ≡ (replies 7 (pos 0), W)
  attempt_begin ne = performed places_ok L W (refuse 1) begin_rule ok ∙ rw (not_is 0 (get L (shape_of W) W phase) ne)

  -- a close before the last account is done, with any lists
  pub attempt_close : (prices rates8 rates104 lags : List ℤ) → phase_of L W ≤ (shape_of W).n
      → perform L W (close_rule prices rates8 rates104 lags) ≡ (replies (cond (lengths_ok prices rates8 rates104 lags (shape_of W).p) 7 2) (pos 0), W)
  attempt_close prices rates8 rates104 lags h =
      performed places_ok L W (refuse 1) (close_rule prices rates8 rates104 lags) ok
      ∙ rw (not_is ((shape_of W).n + 1) (get L (shape_of W) W phase) (λ z. omega arith)) (go (lengths_ok prices rates8 rates104 lags (shape_of W).p))
    where
      go : (t : Bool) → finish L (shape_of W) W (unless t (refuse 2) (refuse 7)) ≡ (replies (cond t 7 2) (pos 0), W)
      go true = refl
      go false = refl

  -- every idle event
  pub still : phase_of L W ≤ (shape_of W).n → (e : Event) → stretch L W e ≡ idle → Refused (shape_of W).p e (happens L W e).0 × ((happens L W e).1 ≡ W)
  still h (asks a q) is = absurd (go (waits (shape_of W).n (phase_of L W) a) (ap rank is))
    where
      go : (t : Bool) → rank (cond t early late) ≡ 3 → ⊥
      go true r = omega arith
      go false r = omega arith
  still h (trade b c j q t) is = let z : ◌≡◌ {A = ℕ} 2 3 = ap rank is in absurd (omega arith)
  still h transfer is = let z : ◌≡◌ {A = ℕ} 1 3 = ap rank is in absurd (omega arith)
  still h begin is = go (eqb (phase_of L W) 0) refl (ap rank is)
    where
      go : (t : Bool) → eqb (phase_of L W) 0 ≡ t → rank (cond t run idle) ≡ 3
          → (said (perform L W begin_rule).0 ≡ said (replies 7 (pos 0))) × ((perform L W begin_rule).1 ≡ W)
      go true e r = absurd (omega arith)
      go false e r = let a = attempt_begin (eqb-false (phase_of L W) 0 e) in (ap (λ z. said z.0) a, ap (λ z. z.1) a)
  still h (close prices rates8 rates104 lags) is = let a = attempt_close prices rates8 rates104 lags h in (ap (λ z. said z.0) a, ap (λ z. z.1) a)

  -- an idle event makes no transfer
  idle-made : (e : Event) → stretch L W e ≡ idle → made e ≡ 0
  idle-made (asks a q) is = refl
  idle-made (trade b c j q t) is = refl
  idle-made transfer is = let z : ◌≡◌ {A = ℕ} 1 3 = ap rank is in absurd (omega arith)
  idle-made begin is = refl
  idle-made (close prices rates8 rates104 lags) is = refl

  -- before the last account is done every event, an attempt too, keeps what an event is to keep
  pub advance : phase_of L W ≤ (shape_of W).n → (e : Event) → Kept L W e (happens L W e).1
  advance h e = go (stretch L W e) refl
    where
      counted : stretch L W e ≢ idle → Kept L W e (happens L W e).1
      counted ne = subst (λ z. Kept L W e z.1) (sym (happens-acts L W e)) (keeps L W ok e ne)

      go : (c : Stretch) → stretch L W e ≡ c → Kept L W e (happens L W e).1
      go early is = counted (λ p. let z : ◌≡◌ {A = ℕ} 0 3 = ap rank (sym is ∙ p) in omega arith)
      go run is = counted (λ p. let z : ◌≡◌ {A = ℕ} 1 3 = ap rank (sym is ∙ p) in omega arith)
      go late is = counted (λ p. let z : ◌≡◌ {A = ℕ} 2 3 = ap rank (sym is ∙ p) in omega arith)
      go idle is =
          subst (Kept L W e) (sym (still h e is).1)
          (record { sound_after = ok; same_shape = refl; phase_up = omega arith; phase_next = λ l k. let z = idle-made e is in omega arith })

-- every event of the history is made in a phase of n at the most
abbrev pub Open : Layout → List ℤ → List Event → Type 0
Open L W [] = Unit {0}
Open L W (e ∷ es) = (phase_of L W ≤ (shape_of W).n) × Open L (happens L W e).1 es

-- the phase counts the transfers, so a history that ends with the last of them is such a history
pub until_open : (L : Layout) (W : List ℤ) (es : List Event) → sound L W ≡ true → 1 ≤ phase_of L W → Until ((shape_of W).n + 1 - phase_of L W) es → Open L W es
until_open L W [] ok h u = tt
until_open L W (e ∷ es) ok h u =
    let l = u.0 in
    let in_run : phase_of L W ≤ (shape_of W).n = omega arith in
    let k = advance L W ok in_run e in
    let W' = (happens L W e).1 in
    let next = k.phase_next h in_run in
    let size : (shape_of W').n ≡ (shape_of W).n = ap (λ s. s.n) k.same_shape in
    let left : (shape_of W).n + 1 - phase_of L W - made e ≡ (shape_of W').n + 1 - phase_of L W' = omega arith in
    (in_run, until_open L W' es k.sound_after (omega arith) (subst (λ m. Until m es) left u.1))

pub attempts-refused : (L : Layout) (W : List ℤ) (es : List Event) → sound L W ≡ true → Open L W es → AttemptsRefused L W es
attempts-refused L W [] ok u = tt
attempts-refused L W (e ∷ es) ok u = (still L W ok u.0 e, attempts-refused L (happens L W e).1 es (advance L W ok u.0 e).sound_after u.1)

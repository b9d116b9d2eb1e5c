-- A step of the run: what it puts and sees, every word after it, that it keeps the ledger sound, and that it raises the phase by one. What makes it
-- sound: a transfer cannot raise gross, and the walk over the dues still to come has one account less. Assumes nothing.
use Rattle.std.specs.Prelude.{◌≡◌, ◌≢◌, List, [], ◌∷◌, true, ℕ, suc, ◌+◌, ◌-◌, ◌≤◌, ◌<◌, ℤ, pos, nat_abs, ◌+ℤ◌, ◌-ℤ◌}
use Rattle.std.proofs.Common.{sym, ap, subst, ◌∙◌, arith}
use Rattle.std.proofs.Math.Decide.{ℕ_discrete}
use Rattle.whole.specs.Number.{within, between, is}
use Rattle.whole.specs.Tests.{both, InRange, in-range, is_in}
use Rattle.rules.specs.Sizes.{most_house}
use Rattle.rules.specs.Account.{account_ok}
use Rattle.rules.specs.AccountCalls.{transferred}
use Rattle.rules.specs.AccountCallsLaws.{transferred-keeps}
use Rattle.places.specs.declared.Shape.{Shape}
use Rattle.places.specs.Place.{fields, Place, head, acct, Has, View, Layout, Put, ◌≔◌, get, puts, house, phase, cash, due}
use Rattle.places.specs.PlaceLaws.{get-puts}
use Rattle.places.specs.Act.{shape_of}
use Rattle.places.specs.ActLaws.{unless-puts, unless-same, sized}
use Rattle.places.specs.Footprint.{Inside, Differ, KeepsTo, acts, words_after, sees, differ}
use Rattle.soundness.specs.Sound.{account_at, turn, stays, sound, places_ok}
use Rattle.soundness.specs.Perform.{replies, refuse}
use Rattle.soundness.specs.SoundLaws.{Facts, sound_facts, facts_kept}
use Rattle.soundness.specs.Keep.{left_at, account-same, stays_same}
use Rattle.acts.specs.Run.{step_puts, step_rule}
use Rattle.acts.proofs.RunLaws.{stepping, OffTrades, off_trades}

-- house after this step, and after each step still to come
next-stays : (n t : ℕ) (h : ℤ) (g : View) → 1 ≤ t → t ≤ n → stays (n + 1 - t) h (t - 1) g ≡ true
    → (within most_house (h -ℤ g (due (t - 1) 0)) ≡ true) × (stays (n + 1 - (t + 1)) (h -ℤ g (due (t - 1) 0)) (t + 1 - 1) g ≡ true)
next-stays n t h g l u e =
    let m : n + 1 - t ≡ suc (n + 1 - (t + 1)) = omega arith in
    let k : suc (t - 1) ≡ t + 1 - 1 = omega arith in
    let d = both (within most_house (h -ℤ g (due (t - 1) 0))) (stays (n + 1 - (t + 1)) (h -ℤ g (due (t - 1) 0)) (suc (t - 1)) g) (subst (λ z. stays z h (t - 1) g ≡ true) m e) in
    (d.0, subst (λ z. stays (n + 1 - (t + 1)) (h -ℤ g (due (t - 1) 0)) z g ≡ true) k d.1)

step-puts : (P : List Put → Type 0) (s : Shape) (g : View) → P [] → (InRange 1 s.n (g phase) → P (step_puts (turn g - 1) g)) → P (step_rule s g).puts
step-puts P s g z h = unless-puts P (between (pos 1) (pos s.n) (g phase)) (refuse 7) _ z (λ e. h (in-range 1 s.n (g phase) e))

-- the views before and after a step of the account k
pub record Stepped (s : Shape) (g g' : View) (k : ℕ) : Type 0 where
  pub new_cash : g' (cash k) ≡ g (cash k) +ℤ g (due k 0)
  pub new_due : g' (due k 0) ≡ pos 0
  pub new_house : g' house ≡ g house -ℤ g (due k 0)
  pub new_phase : g' phase ≡ pos (turn g + 1)
  pub same : (q : Place) → Has s q → q ≢ cash k → q ≢ due k 0 → q ≢ house → q ≢ phase → g' q ≡ g q

-- places that differ
acct-head : {i a f : ℕ} → acct a f ≢ head i
acct-head p = let z : ◌≡◌ {A = ℕ} 0 1 = cc in omega arith

acct-field : {a b f i : ℕ} → f ≢ i → acct a f ≢ acct b i
acct-field ne p = ne (cc)

head-head : {i j : ℕ} → i ≢ j → head i ≢ head j
head-head ne p = ne (cc)

-- a word of an account other than those that a step puts
pub stepped_word : {s : Shape} {g g' : View} {k : ℕ} → Stepped s g g' k → (b f : ℕ) → b < s.n → f < fields → ((b ≡ k) × (f ≡ 1) → ⊥) → ((b ≡ k) × (f ≡ 5) → ⊥)
    → g' (acct b f) ≡ g (acct b f)
stepped_word v b f h l n₁ n₅ = v.same (acct b f) (h, l) (λ p. n₁ (cc, cc)) (λ p. n₅ (cc, cc)) acct-head acct-head

step_off_trades : (t : ℕ) → OffTrades (stepping t)
step_off_trades t = record { products_stay = λ j f h. h; positions_stay = λ a j f h. h }

module _ (s : Shape) (g g' : View) (d : Differ s (stepping (turn g)) g g') (v : Stepped s g g' (turn g - 1)) (t : InRange 1 s.n (g phase)) (f : Facts s g) where
  -- the account whose turn it is
  abbrev whose : ℕ
  whose = turn g - 1

  low : 1 ≤ turn g
  low = t.low

  high : turn g ≤ s.n
  high = t.high

  ahead : (within most_house (g house -ℤ g (due whose 0)) ≡ true) × (stays (s.n + 1 - (turn g + 1)) (g house -ℤ g (due whose 0)) (turn g + 1 - 1) g ≡ true)
  ahead = let l = low in let h = high in next-stays s.n (turn g) (g house) g l h (f.to_come (λ z. omega arith))

  -- another account is as it was; this one has its transfer
  other : (b : ℕ) → b < s.n → b ≢ whose → (i : ℕ) → i < fields → g' (acct b i) ≡ g (acct b i)
  other b h ne i l = stepped_word v b i h l (λ p. ne p.0) (λ p. ne p.0)

  own-word : (i : ℕ) → i < fields → i ≢ 1 → i ≢ 5 → g' (acct whose i) ≡ g (acct whose i)
  own-word i l n₁ n₅ = let a = low in let b = high in stepped_word v whose i (omega arith) l (λ p. n₁ p.1) (λ p. n₅ p.1)

  pub moved : account_at g' whose ≡ transferred (account_at g whose)
  moved i =
      record {
        kind = own-word 0 (omega arith) (λ p. omega arith) (λ p. omega arith) i;
        cash = v.new_cash i;
        guarantee = own-word 2 (omega arith) (λ p. omega arith) (λ p. omega arith) i;
        cap = own-word 3 (omega arith) (λ p. omega arith) (λ p. omega arith) i;
        margin = own-word 4 (omega arith) (λ p. omega arith) (λ p. omega arith) i;
        due0 = v.new_due i;
        due1 = own-word 6 (omega arith) (λ p. omega arith) (λ p. omega arith) i;
        due2 = own-word 7 (omega arith) (λ p. omega arith) (λ p. omega arith) i;
      }

  account : (b : ℕ) → b < s.n → Dec (b ≡ whose) → account_ok (account_at g' b) ≡ true
  account b h (yes q) = let a = low in let c = high in rw q (ap account_ok moved ∙ transferred-keeps (account_at g whose) (f.account whose (omega arith)))
  account b h (no q) = ap account_ok (account-same g g' b (other b h q)) ∙ f.account b h

  done : (b : ℕ) → b < turn g → Dec (b ≡ whose) → is 0 (g' (due b 0)) ≡ true
  done b l (yes q) = rw (q, v.new_due) (is_in 0 0 0 (omega arith) (omega arith))
  done b l (no q) = let a = low in let c = high in rw (other b (omega arith) q 5 (omega arith)) (f.done b (omega arith))

  due_later : (b : ℕ) → turn g ≤ b → b < s.n → g' (due b 0) ≡ g (due b 0)
  due_later b h l = let a = low in other b l (λ p. omega arith) 5 (omega arith)

  step_facts : Facts s g'
  step_facts =
      let a = low in let c = high in
      off_trades s (stepping (turn g)) g g' d (step_off_trades (turn g))
      (rw v.new_house ahead.0)
      (rw v.new_phase (is_in 0 (s.n + 1) (turn g + 1) (omega arith) (omega arith)))
      (λ b h. account b h (ℕ_discrete b whose))
      (λ b l. let l' : b < turn g + 1 - 1 = rw v.new_phase at l in done b (omega arith) (ℕ_discrete b whose))
      (λ ne. rw (v.new_phase, v.new_house) (stays_same (s.n + 1 - (turn g + 1)) (g house -ℤ g (due whose 0)) (turn g + 1 - 1) g g' (λ b i j. due_later b (omega arith) (omega arith)) ∙ ahead.1))
      f

module _ (L : Layout) (W : List ℤ) (e : sound L W ≡ true) where
  abbrev u : Shape
  u = shape_of W

  abbrev v : View
  v = get L u W

  module _ (t : InRange 1 u.n (v phase)) where
    abbrev k : ℕ
    k = turn v - 1

    abbrev us : List Put
    us = step_puts k v

    in_n : k < u.n
    in_n = let h = t.high in let l = t.low in omega arith

    step-inside : Inside u (stepping (turn v)) us
    step-inside =
        let l = t.low in
        (((in_n, omega arith), (omega arith, omega arith)), (((in_n, omega arith), (omega arith, omega arith)), ((omega arith, (omega arith, omega arith)), ((omega arith, (omega arith, omega arith)), tt))))

    abbrev to_cash : Put
    to_cash = cash k ≔ v (cash k) +ℤ v (due k 0)

    abbrev to_due : Put
    to_due = due k 0 ≔ pos 0

    abbrev to_house : Put
    to_house = house ≔ v house -ℤ v (due k 0)

    abbrev to_phase : Put
    to_phase = phase ≔ pos (turn v + 1)

    stepped_at : Stepped u v (get L u (puts L u W us)) k
    stepped_at =
        let l = sized places_ok L W e in
        record {
          new_cash = left_at L u (cash k) (in_n, omega arith) (v (cash k) +ℤ v (due k 0)) [] (to_due ∷ to_house ∷ to_phase ∷ [])
              (((in_n, omega arith), acct-field (omega arith)), ((omega arith, acct-head), ((omega arith, acct-head), tt))) W l;
          new_due = left_at L u (due k 0) (in_n, omega arith) (pos 0) (to_cash ∷ []) (to_house ∷ to_phase ∷ []) ((omega arith, acct-head), ((omega arith, acct-head), tt)) W l;
          new_house = left_at L u house (omega arith) (v house -ℤ v (due k 0)) (to_cash ∷ to_due ∷ []) (to_phase ∷ []) ((omega arith, head-head (omega arith)), tt) W l;
          new_phase = left_at L u phase (omega arith) (pos (turn v + 1)) (to_cash ∷ to_due ∷ to_house ∷ []) [] tt W l;
          same = λ q h n₁ n₂ n₃ n₄. get-puts L u q h us (((in_n, omega arith), n₁), (((in_n, omega arith), n₂), ((omega arith, n₃), ((omega arith, n₄), tt)))) W;
        }

    step-sound : sound L (puts L u W us) ≡ true
    step-sound =
        facts_kept L W e (stepping (turn v)) us step-inside
        (step_facts u v (get L u (puts L u W us)) (differ L W (stepping (turn v)) us step-inside) stepped_at t)

  pub step_of : KeepsTo places_ok L W (stepping (turn v)) step_rule
  step_of =
      record {
        inside = step-puts (Inside u (stepping (turn v))) u v tt step-inside;
        sound_after = step-puts (λ vs. sound L (puts L u W vs) ≡ true) u v e step-sound;
        blind = λ vs o. rw (sees L W (stepping (turn v)) vs o phase (omega arith) (omega arith, omega arith))
            (unless-same (between (pos 1) (pos u.n) (v phase)) (refuse 7) _ _ (λ b. let t = in-range 1 u.n (v phase) b in let l = t.low in
            rw (
              sees L W (stepping (turn v)) vs o house (omega arith) (omega arith, omega arith),
              sees L W (stepping (turn v)) vs o (cash (turn v - 1)) (in_n t, omega arith) (omega arith, omega arith),
              sees L W (stepping (turn v)) vs o (due (turn v - 1) 0) (in_n t, omega arith) (omega arith, omega arith),
            )));
      }

  -- a step never lowers the phase
  pub step-turn : turn v ≤ turn (get L u (words_after L W step_rule))
  step-turn = step-puts (λ vs. turn v ≤ turn (get L u (puts L u W vs))) u v (omega arith) (λ t. rw (stepped_at t).new_phase (omega arith))

  -- in phases 1 to n it is taken
  in_run : 1 ≤ turn v → turn v ≤ u.n → between (pos 1) (pos u.n) (v phase) ≡ true
  in_run l h = let r = in-range 0 (u.n + 1) (v phase) (sound_facts L W e).phase_in in subst (λ z. between (pos 1) (pos u.n) z ≡ true) (sym r.nat) (is_in 1 u.n (turn v) l h)

  -- the words after it, one by one
  pub stepped : 1 ≤ turn v → turn v ≤ u.n → Stepped u v (get L u (words_after L W step_rule)) (turn v - 1)
  stepped l h = let b = in_run l h in rw b (stepped_at (in-range 1 u.n (v phase) b))

  -- it answers the account's number
  pub step-answer : 1 ≤ turn v → turn v ≤ u.n → (acts L W step_rule).answer ≡ replies 0 (pos (turn v - 1))
  step-answer l h = rw (in_run l h)

  -- it raises the phase by one
  pub step-next : 1 ≤ turn v → turn v ≤ u.n → turn (get L u (words_after L W step_rule)) ≡ turn v + 1
  step-next l h = ap nat_abs (stepped l h).new_phase

  -- an account that still waits after a step is not the one that had it
  pub step_past : (a : ℕ) → a < u.n → turn (get L u (words_after L W step_rule)) < a + 2 → a + 1 ≢ turn v
  step_past a h l p = let z = step-next (omega arith) (omega arith) in omega arith

-- The run alone: with no request between them, n transfers from phase 1 settle every due 0, once. Each account's cash rises by its due 0, which becomes 0,
-- house falls by their sum, phase is n + 1, and every other word is as it was. By induction on the number of transfers made. And in any mixture
-- every transfer is taken, one account after another. Assumes nothing.
use Rattle.std.specs.Prelude.{◌≡◌, refl, ◌≢◌, List, [], ◌∷◌, Bool, true, false, cond, eqb, ℕ, zero, suc, ◌+◌, ◌-◌, ◌≤◌, ◌<◌, ℤ, pos, ◌+ℤ◌, ◌-ℤ◌}
use Rattle.std.proofs.Common.{sym, ap, ap₂, subst, ◌∙◌, ⊎_elim, ne_eqb, arith}
use Rattle.whole.specs.Reps.{leaf}
use Rattle.whole.specs.Whole.{whole, facts, by}
use Rattle.whole.specs.Counting.{sum}
use Rattle.whole.specs.CountingLaws.{sum_same}
use Rattle.whole.specs.Tests.{in-range, below-or-last}
use Rattle.places.specs.declared.Shape.{Shape}
use Rattle.places.specs.Place.{Place, head, prod, acct, held, Has, View, Layout, get, phase, house, cash, due}
use Rattle.places.specs.Act.{shape_of}
use Rattle.places.specs.ActLaws.{performed}
use Rattle.places.specs.Footprint.{words_after, after_same}
use Rattle.soundness.specs.Sound.{sound, places_ok}
use Rattle.soundness.specs.SoundLaws.{sound_facts}
use Rattle.soundness.specs.Perform.{replies, refuse}
use Rattle.acts.specs.Run.{begin_rule, step_rule}
use Rattle.acts.proofs.RunLaws.{BeginPuts, beginning, begin-of}
use Rattle.acts.proofs.StepLaws.{Stepped, stepped, stepped_word, step-answer}
use Rattle.stretches.specs.Stretch.{early, run, late, rank, only}
use Rattle.stretches.specs.History.{said, Event, asks, trade, transfer, begin, close, happens, waits, phase_of, stretch, answers_to, heard_in, words_after_all, Until, transfers, made, transfers_in}
use Rattle.stretches.specs.Leaves.{stepped_from, Stands, Settled, LeftIn}
use Rattle.stretches.proofs.Attempts.{advance, Open}
use Rattle.stretches.proofs.Demand3.{begun, open_history, all-to_come}

-- the last of several transfers
last-transfer : (L : Layout) (W : List ℤ) (m : ℕ) → words_after_all L W (transfers (suc m)) ≡ (happens L (words_after_all L W (transfers m)) transfer).1
last-transfer L W zero = refl
last-transfer L W (suc m) = last-transfer L (happens L W transfer).1 m

-- ---- the transfer of the account k, in phase k + 1

module _ (L : Layout) (W : List ℤ) (s : Shape) (k : ℕ) (l : LeftIn L W s (k + 1)) (h : k < s.n) where
  abbrev W' : List ℤ
  W' = (happens L W transfer).1

  same-n : (shape_of W).n ≡ s.n
  same-n = ap (λ t. t.n) l.same_shape

  low : 1 ≤ phase_of L W
  low = let f = l.phase_is in omega arith

  high : phase_of L W ≤ (shape_of W).n
  high = let f = l.phase_is in let n = same-n in omega arith

  whose : phase_of L W - 1 ≡ k
  whose = let f = l.phase_is in omega arith

  then_left : LeftIn L W' s (suc k + 1)
  then_left =
      let a = advance L W l.sound_words high transfer in let n = a.phase_next low high in let f = l.phase_is in
      record { sound_words = a.sound_after; same_shape = a.same_shape ∙ l.same_shape; phase_is = omega arith }

  then_words : Stepped s (get L s W) (get L s W') k
  then_words =
      subst (λ X. Stepped s (get L s W) (get L s X) k) (ap (λ z. z.1) (sym (performed places_ok L W (refuse 1) step_rule l.sound_words)))
      (subst (λ i. Stepped s (get L s W) (get L s (words_after L W step_rule)) i) whose
      (subst (λ t. Stepped t (get L t W) (get L t (words_after L W step_rule)) (phase_of L W - 1)) l.same_shape
      (stepped L W l.sound_words low high)))

  then_answer : (happens L W transfer).0 ≡ said (replies 0 (pos k))
  then_answer =
      ap (λ z. said z.0) (performed places_ok L W (refuse 1) step_rule l.sound_words)
      ∙ ap said (step-answer L W l.sound_words low high) ∙ ap (λ i. said (replies 0 (pos i))) whose

-- ---- the answers

run-replies : (L : Layout) (W : List ℤ) (s : Shape) (k m : ℕ) → LeftIn L W s (k + 1) → k + m ≤ s.n → answers_to L W (transfers m) ≡ stepped_from k m
run-replies L W s k zero l h = refl
run-replies L W s k (suc m) l h =
    ap₂ ◌∷◌ (then_answer L W s k l (omega arith)) (run-replies L (happens L W transfer).1 s (suc k) m (then_left L W s k l (omega arith)) (omega arith))

-- in a mixture too every transfer is taken, and answers the accounts one after another: no request can hold the run up
mixed-replies : (L : Layout) (W : List ℤ) (s : Shape) (k : ℕ) (es : List Event) → LeftIn L W s (k + 1) → Open L W es → heard_in L run W es ≡ stepped_from k (transfers_in es)
mixed-replies L W s k [] l o = refl
mixed-replies L W s k (e ∷ es) l o =
    let f = l.phase_is in
    let a = advance L W l.sound_words o.0 e in let n = a.phase_next (omega arith) o.0 in
    one e (mixed-replies L (happens L W e).1 s (k + made e) es
    (record { sound_words = a.sound_after; same_shape = a.same_shape ∙ l.same_shape; phase_is = omega arith }) o.1)
  where
    m : ℕ
    m = transfers_in es

    in_n : k < s.n
    in_n = let f = l.phase_is in let n : (shape_of W).n ≡ s.n = ap (λ t. t.n) l.same_shape in let h = o.0 in omega arith

    no_more : stepped_from (k + 0) m ≡ stepped_from k (0 + m)
    no_more = let y : k + 0 ≡ k = omega arith in let z : m ≡ 0 + m = omega arith in ap₂ stepped_from y z

    one_more : said (replies 0 (pos k)) ∷ stepped_from (k + 1) m ≡ stepped_from k (1 + m)
    one_more =
        let y : k + 1 ≡ suc k = omega arith in let z : suc m ≡ 1 + m = omega arith in
        ap (λ i. said (replies 0 (pos k)) ∷ stepped_from i m) y ∙ ap (stepped_from k) z

    one : (x : Event) → heard_in L run (happens L W e).1 es ≡ stepped_from (k + made x) m
        → only (eqb 1 (rank (stretch L W x))) (happens L W x).0 (heard_in L run (happens L W e).1 es) ≡ stepped_from k (made x + m)
    one (asks a q) r = go (waits (shape_of W).n (phase_of L W) a)
      where
        go : (t : Bool) → only (eqb 1 (rank (cond t early late))) (happens L W (asks a q)).0 (heard_in L run (happens L W e).1 es) ≡ stepped_from k (0 + m)
        go true = r ∙ no_more
        go false = r ∙ no_more
    one (trade b c j q t) r = r ∙ no_more
    one transfer r = ap₂ ◌∷◌ (then_answer L W s k l in_n) r ∙ one_more
    one begin r = rw (ne_eqb (phase_of L W) 0 (λ z. let f = l.phase_is in omega arith)) (r ∙ no_more)
    one (close prices rates8 rates104 lags) r = r ∙ no_more

pub run-taken : (L : Layout) (W : List ℤ) (history : List Event) → sound L W ≡ true → phase_of L W ≡ 1 → Until (shape_of W).n history
    → heard_in L run W history ≡ stepped_from 0 (transfers_in history)
run-taken L W history ok one u =
    let z : ◌≡◌ {A = ℕ} 1 (0 + 1) = omega arith in
    mixed-replies L W (shape_of W) 0 history (subst (LeftIn L W (shape_of W)) z (record { sound_words = ok; same_shape = refl; phase_is = one })) (open_history L W history ok (omega arith) (all-to_come L W history one u))

-- ---- the words

-- to take away one sum and then another is to take away both
less_both : (h x y : ℤ) → h -ℤ x -ℤ y ≡ h -ℤ (x +ℤ y)
less_both h x y = let l = leaf h in let m = leaf x in let n = leaf y in by (search whole depth 20) (omega facts)

-- after m transfers: the accounts below m are settled, the others as they were
record Ran (s : Shape) (g g' : View) (m : ℕ) : Type 0 where
  none_due : (a : ℕ) → a < m → g' (due a 0) ≡ pos 0
  received : (a : ℕ) → a < m → g' (cash a) ≡ g (cash a) +ℤ g (due a 0)
  still_due : (a : ℕ) → m ≤ a → a < s.n → g' (due a 0) ≡ g (due a 0)
  still_cash : (a : ℕ) → m ≤ a → a < s.n → g' (cash a) ≡ g (cash a)
  from_house : g' house ≡ g house -ℤ sum m (λ a. g (due a 0))
  rest : (q : Place) → Has s q → Stands q → g' q ≡ g q

-- nothing is taken from the house by no transfer
less_none : (h : ℤ) → h ≡ h -ℤ pos 0
less_none h = let l = leaf h in by (search whole depth 20) (omega facts)

ran_none : (s : Shape) (g : View) → Ran s g g 0
ran_none s g =
    record {
      none_due = λ a h. absurd (omega arith);
      received = λ a h. absurd (omega arith);
      still_due = λ a h k. refl;
      still_cash = λ a h k. refl;
      from_house = less_none (g house);
      rest = λ q h k. refl;
    }

ran_more : (s : Shape) (g g' g'' : View) (m : ℕ) → m < s.n → Ran s g g' m → Stepped s g' g'' m → Ran s g g'' (suc m)
ran_more s g g' g'' m h r v =
    record {
      none_due = λ a k. ⊎_elim (λ l. word a 5 (omega arith) (omega arith) (λ z. omega arith) ∙ r.none_due a l) (λ e. ap (λ i. g'' (due i 0)) e ∙ v.new_due) (below-or-last a m k);
      received = λ a k. ⊎_elim (λ l. word a 1 (omega arith) (omega arith) (λ z. omega arith) ∙ r.received a l) (λ e. subst (λ i. g'' (cash i) ≡ g (cash i) +ℤ g (due i 0)) (sym e) now) (below-or-last a m k);
      still_due = λ a k l. word a 5 l (omega arith) (λ z. omega arith) ∙ r.still_due a (omega arith) l;
      still_cash = λ a k l. word a 1 l (omega arith) (λ z. omega arith) ∙ r.still_cash a (omega arith) l;
      from_house = v.new_house ∙ ap₂ ◌-ℤ◌ r.from_house (r.still_due m (omega arith) h) ∙ less_both (g house) (sum m (λ a. g (due a 0))) (g (due m 0));
      rest = λ q k t. v.same q k (t.0 m).0 (t.0 m).1 t.1 t.2 ∙ r.rest q k t;
    }
  where
    -- a word of another account
    word : (a f : ℕ) → a < s.n → f < 8 → a ≢ m → g'' (acct a f) ≡ g' (acct a f)
    word a f k l ne = stepped_word v a f k l (λ p. ne p.0) (λ p. ne p.0)

    now : g'' (cash m) ≡ g (cash m) +ℤ g (due m 0)
    now = v.new_cash ∙ ap₂ ◌+ℤ◌ (r.still_cash m (omega arith) h) (r.still_due m (omega arith) h)

-- the word of the phase
phase-of : (L : Layout) (W : List ℤ) (s : Shape) (f : ℕ) → LeftIn L W s f → get L s W phase ≡ pos f
phase-of L W s f r =
    ap (λ t. get L t W phase) (sym r.same_shape) ∙ (in-range 0 ((shape_of W).n + 1) (get L (shape_of W) W phase) (sound_facts L W r.sound_words).phase_in).nat ∙ ap pos r.phase_is

module _ (L : Layout) (W : List ℤ) (s : Shape) (l : LeftIn L W s 1) where
  -- after m of the transfers
  ran : (m : ℕ) → m ≤ s.n → LeftIn L (words_after_all L W (transfers m)) s (m + 1) × Ran s (get L s W) (get L s (words_after_all L W (transfers m))) m
  ran zero h = (let z : ◌≡◌ {A = ℕ} 1 (0 + 1) = omega arith in subst (LeftIn L W s) z l, ran_none s (get L s W))
  ran (suc m) h =
      let r = ran m (omega arith) in let X = words_after_all L W (transfers m) in
      subst (λ Y. LeftIn L Y s (suc m + 1) × Ran s (get L s W) (get L s Y) (suc m)) (sym (last-transfer L W m))
      (then_left L X s m r.0 (omega arith), ran_more s (get L s W) (get L s X) (get L s (happens L X transfer).1) m (omega arith) r.1 (then_words L X s m r.0 (omega arith)))

  settled : Settled s (get L s W) (get L s (words_after_all L W (transfers s.n)))
  settled =
      let r = ran s.n (omega arith) in let v = r.1 in let Y = words_after_all L W (transfers s.n) in
      record {
        none_due = v.none_due;
        received = v.received;
        from_house = v.from_house;
        phase_done = phase-of L Y s (s.n + 1) r.0;
        rest = v.rest;
      }

-- THE RUN ALONE, from phase 1, and what its transfers answer: 0 and the account stepped, one account after another
pub run_alone : (L : Layout) (W : List ℤ) → sound L W ≡ true → phase_of L W ≡ 1
    → Settled (shape_of W) (get L (shape_of W) W) (get L (shape_of W) (words_after_all L W (transfers (shape_of W).n)))
run_alone L W ok one = settled L W (shape_of W) (record { sound_words = ok; same_shape = refl; phase_is = one })

pub run_alone_answers : (L : Layout) (W : List ℤ) → sound L W ≡ true → phase_of L W ≡ 1 → answers_to L W (transfers (shape_of W).n) ≡ stepped_from 0 (shape_of W).n
run_alone_answers L W ok one =
    let z : ◌≡◌ {A = ℕ} 1 (0 + 1) = omega arith in
    run-replies L W (shape_of W) 0 (shape_of W).n (subst (LeftIn L W (shape_of W)) z (record { sound_words = ok; same_shape = refl; phase_is = one })) (omega arith)

-- the same with begin as the run's first call: begin puts the phase alone
pub run_alone_from-begin : (L : Layout) (W : List ℤ) → sound L W ≡ true → (happens L W begin).0 ≡ said (replies 0 (pos 0))
    → Settled (shape_of W) (get L (shape_of W) W) (get L (shape_of W) (words_after_all L W (begin ∷ transfers (shape_of W).n)))
run_alone_from-begin L W ok e =
    let v = settled L W' (shape_of W) b in
    record {
      none_due = v.none_due;
      received = λ a h. v.received a h ∙ ap₂ ◌+ℤ◌ (same (cash a) (h, omega arith) (λ z. z)) (same (due a 0) (h, omega arith) (λ z. z));
      from_house = v.from_house
          ∙ ap₂ ◌-ℤ◌ (same house (omega arith) (λ z. let y : ◌≡◌ {A = ℕ} 3 2 = z in omega arith))
          (sum_same (shape_of W).n (λ a. get L (shape_of W) W' (due a 0)) (λ a. get L (shape_of W) W (due a 0)) (λ a h. same (due a 0) (h, omega arith) (λ z. z)));
      phase_done = v.phase_done;
      rest = λ q h t. v.rest q h t ∙ same q h (off q t);
    }
  where
    W' : List ℤ
    W' = (happens L W begin).1

    b : LeftIn L W' (shape_of W) 1
    b = begun L W ok e

    same : (q : Place) → Has (shape_of W) q → (BeginPuts q → ⊥) → get L (shape_of W) W' q ≡ get L (shape_of W) W q
    same q h k = ap (λ t. get L t W' q) (sym b.same_shape) ∙ after_same places_ok L W ok (refuse 1) beginning begin_rule (begin-of L W ok) q h k

    off : (q : Place) → Stands q → BeginPuts q → ⊥
    off (head k) t h = t.2 (ap head h)
    off (prod j f) t h = h
    off (acct a f) t h = h
    off (held a j f) t h = h

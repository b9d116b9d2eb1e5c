-- THE LAW: a history of acts may be sorted by stretch. Nothing here knows of a ledger. If any two neighbours that stand the wrong way round commute,
-- then the history gives the answers and the end of three stretches: its early acts, then its run, then its late ones, each in their order.
-- Proof: by induction on the history; its first act passes the early and the run lists, sorted already, one act at a time. Assumes nothing.
use Rattle.std.specs.Prelude.{◌≡◌, refl, ◌≢◌, List, [], ◌∷◌, ◌<◌}
use Rattle.std.proofs.Common.{sym, ap, ap₂, subst, ◌∙◌, arith}
use Rattle.stretches.specs.Stretch.{Stretch, early, run, late, idle, rank, answers, end, pick, heard, Idle}

module _ {S A E : Type 0} (act : S → E → A × S) (stretch : S → E → Stretch) where
  abbrev answer : S → E → A
  answer s e = (act s e).0

  abbrev after : S → E → S
  after s e = (act s e).1

  -- each of these acts, done one after another with nothing between, is judged to belong to c
  abbrev pub Judged : Stretch → S → List E → Type 0
  Judged c s [] = Unit {0}
  Judged c s (e ∷ es) = (stretch s e ≡ c) × Judged c (after s e) es

  -- f, which came next after e, may as well come before it
  pub record Swap (s : S) (e f : E) : Type 0 where
    pub next : answer s f ≡ answer (after s e) f
    pub this : answer (after s f) e ≡ answer s e
    pub ends : after (after s f) e ≡ after (after s e) f
    pub next_stretch : stretch s f ≡ stretch (after s e) f
    pub this_stretch : stretch (after s f) e ≡ stretch s e

  -- what the law asks of the acts, on the states that are Good
  pub record Lawful (Good : S → Type 0) : Type 0 where
    pub keeps : (s : S) (e : E) → Good s → stretch s e ≢ idle → Good (after s e)
    pub swaps : (s : S) (e f : E) → Good s → rank (stretch (after s e) f) < rank (stretch s e) → rank (stretch s e) < 3 → Swap s e f

  -- what the law gives: the history from s that ended at z, where the acts of the stretches were Es, Rs, Ls and got the
  -- answers a, b, c, is the three stretches one after another
  pub record Three (s : S) (Es Rs Ls : List E) (a b c : List A) (z : S) : Type 0 where
    pub early_answers : a ≡ answers act s Es
    pub run_answers : b ≡ answers act (end act s Es) Rs
    pub late_answers : c ≡ answers act (end act (end act s Es) Rs) Ls
    pub ends : z ≡ end act (end act (end act s Es) Rs) Ls
    pub early_judged : Judged early s Es
    pub run_judged : Judged run (end act s Es) Rs
    pub late_judged : Judged late (end act (end act s Es) Rs) Ls

  abbrev pub Sorted : S → List E → Type 0
  Sorted s es =
      Three s (pick act stretch early s es) (pick act stretch run s es) (pick act stretch late s es)
      (heard act stretch early s es) (heard act stretch run s es) (heard act stretch late s es) (end act s es)

  -- ---- the proof

  module _ (Good : S → Type 0) (law : Lawful Good) where
    -- an act passes a list of acts of a lower stretch
    record Passed (c : Stretch) (s : S) (e : E) (xs : List E) : Type 0 where
      judged : Judged c s xs
      good : Good (end act s xs)
      theirs : answers act (after s e) xs ≡ answers act s xs
      own : answer s e ≡ answer (end act s xs) e
      own_stretch : stretch (end act s xs) e ≡ stretch s e
      ends : end act (after s e) xs ≡ after (end act s xs) e

    not_idle : (c d : Stretch) → c ≡ d → rank d < 3 → c ≢ idle
    not_idle c d e h i = let z : rank d ≡ 3 = ap rank (sym e ∙ i) in omega arith

    pass : (c : Stretch) (s : S) (e : E) (xs : List E) → Good s → rank c < rank (stretch s e) → rank (stretch s e) < 3 → Judged c (after s e) xs → Passed c s e xs
    pass c s e [] g h k j = record { judged = tt; good = g; theirs = refl; own = refl; own_stretch = refl; ends = refl }
    pass c s e (x ∷ xs) g h k j =
        let w = law.swaps s e x g (rw j.0 h) k in
        let is : stretch s x ≡ c = w.next_stretch ∙ j.0 in
        let k' : rank (stretch (after s x) e) < 3 = rw w.this_stretch k in
        let h' : rank c < rank (stretch (after s x) e) = rw w.this_stretch h in
        let p = pass c (after s x) e xs (law.keeps s x g (not_idle (stretch s x) c is (omega arith))) h' k' (subst (λ z. Judged c z xs) (sym w.ends) j.1) in
        record {
          judged = (is, p.judged);
          good = p.good;
          theirs = ap₂ (λ y ys. y ∷ ys) (sym w.next) (ap (λ z. answers act z xs) (sym w.ends) ∙ p.theirs);
          own = sym w.this ∙ p.own;
          own_stretch = p.own_stretch ∙ w.this_stretch;
          ends = ap (λ z. end act z xs) (sym w.ends) ∙ p.ends;
        }

    module _ (s : S) (e : E) (Es Rs Ls : List E) (a b c : List A) (z : S) (t : Three (after s e) Es Rs Ls a b c z) where
      add-early : stretch s e ≡ early → Three s (e ∷ Es) Rs Ls (answer s e ∷ a) b c z
      add-early is =
          record {
            early_answers = ap (λ y. answer s e ∷ y) t.early_answers;
            run_answers = t.run_answers;
            late_answers = t.late_answers;
            ends = t.ends;
            early_judged = (is, t.early_judged);
            run_judged = t.run_judged;
            late_judged = t.late_judged;
          }

      add-run : Good s → stretch s e ≡ run → Three s Es (e ∷ Rs) Ls a (answer s e ∷ b) c z
      add-run g is =
          let r : rank (stretch s e) ≡ 1 = ap rank is in
          let p = pass early s e Es g (omega arith) (omega arith) t.early_judged in
          record {
            early_answers = t.early_answers ∙ p.theirs;
            run_answers = ap₂ (λ y ys. y ∷ ys) p.own (t.run_answers ∙ ap (λ y. answers act y Rs) p.ends);
            late_answers = t.late_answers ∙ ap (λ y. answers act (end act y Rs) Ls) p.ends;
            ends = t.ends ∙ ap (λ y. end act (end act y Rs) Ls) p.ends;
            early_judged = p.judged;
            run_judged = (p.own_stretch ∙ is, subst (λ y. Judged run y Rs) p.ends t.run_judged);
            late_judged = subst (λ y. Judged late (end act y Rs) Ls) p.ends t.late_judged;
          }

      add-late : Good s → stretch s e ≡ late → Three s Es Rs (e ∷ Ls) a b (answer s e ∷ c) z
      add-late g is =
          let r : rank (stretch s e) ≡ 2 = ap rank is in
          let p = pass early s e Es g (omega arith) (omega arith) t.early_judged in
          let r' : rank (stretch (end act s Es) e) ≡ 2 = ap rank (p.own_stretch ∙ is) in
          let q = pass run (end act s Es) e Rs p.good (omega arith) (omega arith) (subst (λ y. Judged run y Rs) p.ends t.run_judged) in
          let m : end act (end act (after s e) Es) Rs ≡ after (end act (end act s Es) Rs) e = ap (λ y. end act y Rs) p.ends ∙ q.ends in
          record {
            early_answers = t.early_answers ∙ p.theirs;
            run_answers = t.run_answers ∙ ap (λ y. answers act y Rs) p.ends ∙ q.theirs;
            late_answers = ap₂ (λ y ys. y ∷ ys) (p.own ∙ q.own) (t.late_answers ∙ ap (λ y. answers act y Ls) m);
            ends = t.ends ∙ ap (λ y. end act y Ls) m;
            early_judged = p.judged;
            run_judged = q.judged;
            late_judged = (q.own_stretch ∙ p.own_stretch ∙ is, subst (λ y. Judged late y Ls) m t.late_judged);
          }

      add-idle : after s e ≡ s → Three s Es Rs Ls a b c z
      add-idle still = subst (λ y. Three y Es Rs Ls a b c z) still t

    -- THE LAW.
    pub sort : (No : S → E → A → Type 0) (s : S) (es : List E) → Good s → Idle act stretch No s es → Sorted s es
    sort No s [] g h =
        record { early_answers = refl; run_answers = refl; late_answers = refl; ends = refl; early_judged = tt; run_judged = tt; late_judged = tt }
    sort No s (e ∷ es) g h = go (λ g'. sort No (after s e) es g' h.1) (stretch s e) refl
      where
        go : (Good (after s e) → Sorted (after s e) es) → (c : Stretch) → stretch s e ≡ c → Sorted s (e ∷ es)
        go rest early is = rw is (add-early s e _ _ _ _ _ _ _ (rest (law.keeps s e g (not_idle (stretch s e) early is (omega arith)))) is)
        go rest run is = rw is (add-run s e _ _ _ _ _ _ _ (rest (law.keeps s e g (not_idle (stretch s e) run is (omega arith)))) g is)
        go rest late is = rw is (add-late s e _ _ _ _ _ _ _ (rest (law.keeps s e g (not_idle (stretch s e) late is (omega arith)))) g is)
        go rest idle is =
            let still = (h.0 is).1 in
            rw is (add-idle s e _ _ _ _ _ _ _ (rest (subst Good (sym still) g)) still)

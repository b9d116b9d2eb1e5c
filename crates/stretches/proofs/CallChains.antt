-- Demand 3, said of calls. A contract says of a call that its reply and the words at its exit are what its rule gives on the words at its entry:
-- `(r, now exit) ≡ perform L (now entry) (deposit_rule a x)`. So whatever functions meet such contracts, a chain of their calls is a history:
-- its answers and its last words are the history's, and four such chains stand to each other as demand 3 says. Over every layout; that the ledger's own
-- functions are such, and what follows of them, is `LedgerCalls`. Assumes nothing.
use Rattle.std.specs.Prelude.{◌≡◌, refl, List, [], ◌∷◌, ◌++◌, true, eqb, ℤ, pos}
use Rattle.std.proofs.Common.{sym, ap, ap₂, ◌∙◌}
use Rattle.rules.specs.declared.Reply.{Reply}
use Rattle.rules.specs.declared.Standing.{Standing}
use Rattle.places.specs.Place.{Layout}
use Rattle.places.specs.Act.{shape_of, Rule}
use Rattle.soundness.specs.Sound.{sound}
use Rattle.soundness.specs.Perform.{replies, perform, ask}
use Rattle.stretches.specs.Stretch.{Stretch, early, run, late, idle, rank, only}
use Rattle.stretches.specs.History.{Answer, said, told, Event, begin, happens, hears, phase_of, stretch, answers_to, words_after_all, events_of, heard_in, AttemptsRefused, Until, transfers, transfers_in, ThreeStretches}
use Rattle.stretches.proofs.Demand3.{demand_3, demand_3_from-begin}

-- calls one after another, each by its contract: the words before, the events, the answers, the words after
pub data Called (L : Layout) : List ℤ → List Event → List Answer → List ℤ → Type 0 where
  none : {W : List ℤ} → Called L W [] [] W
  call : {W W' z : List ℤ} {e : Event} {es : List Event} {a : Answer} {rs : List Answer} → (a, W') ≡ happens L W e → Called L W' es rs z → Called L W (e ∷ es) (a ∷ rs) z

-- a contract is what `call` asks for: of a call that answers a reply, and of a question
pub by_contract : (L : Layout) (entry exit : List ℤ) (rule : Rule Reply) (r : Reply) → (r, exit) ≡ perform L entry rule
    → (said r, exit) ≡ hears said (perform L entry rule)
by_contract L entry exit rule r e = ap (hears said) e

pub by_question : (L : Layout) (entry exit : List ℤ) (rule : Rule Standing) (r : Standing) → (r, exit) ≡ ask L entry rule → (told r, exit) ≡ hears told (ask L entry rule)
by_question L entry exit rule r e = ap (hears told) e

-- what was answered and what was left are the history's
pub answered : (L : Layout) {W z : List ℤ} {es : List Event} {rs : List Answer} → Called L W es rs z → rs ≡ answers_to L W es
answered L none = refl
answered L (call {es = es} {rs = rs} e c) = ap₂ (λ y ys. y ∷ ys) (ap (λ p. p.0) e) (answered L c ∙ ap (λ p. answers_to L p.1 es) e)

pub left : (L : Layout) {W z : List ℤ} {es : List Event} {rs : List Answer} → Called L W es rs z → z ≡ words_after_all L W es
left L none = refl
left L (call {es = es} e c) = left L c ∙ ap (λ p. words_after_all L p.1 es) e

-- calls that count as several, one chain after another (a list of deposits in one advice)
pub then : (L : Layout) {W z z' : List ℤ} {es es' : List Event} {rs rs' : List Answer} → Called L W es rs z → Called L z es' rs' z'
    → Called L W (es ++ es') (rs ++ rs') z'
then L none d = d
then L (call e c) d = call e (then L c d)

-- of the answers to a history, those to the events of one stretch
abbrev pub sift : Layout → Stretch → List ℤ → List Event → List Answer → List Answer
sift L c W [] rs = []
sift L c W (e ∷ es) [] = []
sift L c W (e ∷ es) (r ∷ rs) = only (eqb (rank c) (rank (stretch L W e))) r (sift L c (happens L W e).1 es rs)

sifted : (L : Layout) (c : Stretch) (W : List ℤ) (es : List Event) → sift L c W es (answers_to L W es) ≡ heard_in L c W es
sifted L c W [] = refl
sifted L c W (e ∷ es) = ap (only (eqb (rank c) (rank (stretch L W e))) (happens L W e).0) (sifted L c (happens L W e).1 es)

-- The calls of a mixed history, and the calls of its three stretches one after another: the answers are the same, and so are the
-- words that they leave; and the attempts of the mixture got the answers that they get, each refused as the demand says.
pub record Same (L : Layout) (W : List ℤ) (history : List Event) (mixed first runs last : List Answer) (z z' : List ℤ) : Type 0 where
  pub early_answers : sift L early W history mixed ≡ first
  pub run_answers : sift L run W history mixed ≡ runs
  pub late_answers : sift L late W history mixed ≡ last
  pub words : z ≡ z'
  pub attempt_answers : sift L idle W history mixed ≡ heard_in L idle W history
  pub attempts : AttemptsRefused L W history

pub said-of-calls : (L : Layout) (W : List ℤ) (history theRun : List Event) → ThreeStretches L W history theRun
    → {mixed first runs last : List Answer} {z W₁ W₂ z' : List ℤ}
    → Called L W history mixed z
    → Called L W (events_of L early W history) first W₁
    → Called L W₁ theRun runs W₂
    → Called L W₂ (events_of L late W history) last z'
    → Same L W history mixed first runs last z z'
said-of-calls L W history theRun t m a b c =
    let es = events_of L late W history in
    let e₁ = left L a in
    let e₂ = left L b ∙ ap (λ y. words_after_all L y theRun) e₁ in
    record {
      early_answers = ap (sift L early W history) (answered L m) ∙ sifted L early W history ∙ t.early_answers ∙ sym (answered L a);
      run_answers = ap (sift L run W history) (answered L m) ∙ sifted L run W history ∙ t.run_answers ∙ sym (answered L b ∙ ap (λ y. answers_to L y theRun) e₁);
      late_answers = ap (sift L late W history) (answered L m) ∙ sifted L late W history ∙ t.late_answers ∙ sym (answered L c ∙ ap (λ y. answers_to L y es) e₂);
      words = left L m ∙ t.words ∙ sym (left L c ∙ ap (λ y. words_after_all L y es) e₂);
      attempt_answers = ap (sift L idle W history) (answered L m) ∙ sifted L idle W history;
      attempts = t.attempts;
    }

-- both forms of the demand, of calls
pub demand_3_called : (L : Layout) (W : List ℤ) (history : List Event)
    → sound L W ≡ true
    → phase_of L W ≡ 1
    → Until (shape_of W).n history
    → transfers_in history ≡ (shape_of W).n
    → {mixed first runs last : List Answer} {z W₁ W₂ z' : List ℤ}
    → Called L W history mixed z
    → Called L W (events_of L early W history) first W₁
    → Called L W₁ (transfers (shape_of W).n) runs W₂
    → Called L W₂ (events_of L late W history) last z'
    → Same L W history mixed first runs last z z'
demand_3_called L W history ok one u all = said-of-calls L W history (transfers (shape_of W).n) (demand_3 L W history ok one u all)

pub demand_3_called_from-begin : (L : Layout) (W : List ℤ) (history : List Event)
    → sound L W ≡ true
    → (happens L W begin).0 ≡ said (replies 0 (pos 0))
    → Until (shape_of W).n history
    → transfers_in history ≡ (shape_of W).n
    → {mixed first runs last : List Answer} {z W₁ W₂ z' : List ℤ}
    → Called L W (begin ∷ history) mixed z
    → Called L W (events_of L early W (begin ∷ history)) first W₁
    → Called L W₁ (begin ∷ transfers (shape_of W).n) runs W₂
    → Called L W₂ (events_of L late W (begin ∷ history)) last z'
    → Same L W (begin ∷ history) mixed first runs last z z'
demand_3_called_from-begin L W history ok e u all = said-of-calls L W (begin ∷ history) (begin ∷ transfers (shape_of W).n) (demand_3_from-begin L W history ok e u all)

-- Soundness as facts, both ways: from the test to the facts, and from the facts to the test; and what keeps it. Assumes nothing.
use Rattle.std.specs.Prelude.{◌≡◌, ◌≢◌, List, Bool, true, ◌&&◌, ℕ, suc, ◌+◌, ◌-◌, ◌*◌, ◌<◌, ◌≤◌, eqb, ℤ, pos, nat_abs, ◌-ℤ◌}
use Rattle.std.proofs.Common.{sym, ap, ◌∙◌, ne_eqb, arith, add-one}
use Rattle.std.proofs.lemmas.Bool.{eqb-false}
use Rattle.whole.specs.Number.{within, between, is}
use Rattle.whole.specs.Counting.{all, sum}
use Rattle.whole.specs.Tests.{both, within_true}
use Rattle.whole.specs.Whole.{or_yes, or_holds}
use Rattle.whole.specs.CountingLaws.{all-at, all-is, sum_abs}
use Rattle.rules.specs.Sizes.{most_house, most_gross, most_lots, most_book}
use Rattle.rules.specs.Account.{account_ok}
use Rattle.rules.specs.AccountLaws.{account_facts}
use Rattle.places.specs.declared.Shape.{Shape}
use Rattle.places.specs.Place.{View, Layout, Put, get, puts, house, phase, due, product_kind, lots, book}
use Rattle.places.specs.Act.{shape_of}
use Rattle.places.specs.ActLaws.{LedgerBy, places-ok}
use Rattle.places.specs.Footprint.{Footprint, Inside, sound-kept}
use Rattle.soundness.specs.Sound.{account_at, head_ok, figures_ok, product_ok, held_ok, positions_ok, turn, done_ok, stays, to_come_ok, places_ok, sound}

-- a list that is a sound ledger of the shape s
abbrev pub Ledger : Layout → Shape → List ℤ → Type 0
Ledger = LedgerBy places_ok

-- what is known of every due 0 where every account's gross is in range
pub record DuesIn (s : Shape) (g : View) : Type 0 where
  pub at : (a : ℕ) → a < s.n → nat_abs (g (due a 0)) ≤ most_gross

-- one step of the walk over the dues of the run
pub stays-more : (n a : ℕ) (h : ℤ) (g : View) → a < n → stays (n - a) h a g ≡ (within most_house (h -ℤ g (due a 0)) && stays (n - (a + 1)) (h -ℤ g (due a 0)) (a + 1) g)
stays-more n a h g l =
    let e : n - a ≡ suc (n - (a + 1)) = omega arith in
    ap (λ m. stays m h a g) e ∙ ap (λ k. within most_house (h -ℤ g (due a 0)) && stays (n - (a + 1)) (h -ℤ g (due a 0)) k g) (sym (add-one a))

-- the last two clauses: in phase 0 they ask nothing; from phase 1 on the walk starts at the account before the turn
pub not_begun : (s : Shape) (g : View) → turn g ≡ 0 → (done_ok g && to_come_ok s g) ≡ true
not_begun s g e = rw e

pub begun : (s : Shape) (g : View) → 1 ≤ turn g → turn g ≤ s.n + 1 → stays (s.n - (turn g - 1)) (g house) (turn g - 1) g ≡ to_come_ok s g
begun s g h i =
    let e : s.n - (turn g - 1) ≡ s.n + 1 - turn g = omega arith in
    rw (e, ne_eqb (turn g) 0 (λ z. omega arith))

-- the lots of the accounts before a, each in range, add to a number in range
pub lots_in : (g : View) (j a : ℕ) → all a (held_ok g j) ≡ true → nat_abs (sum a (λ i. g (lots i j))) ≤ a * most_lots
lots_in g j a e =
    sum_abs most_lots a (λ i. g (lots i j))
    (λ i k. within_true most_lots (g (lots i j)) (both (within most_lots (g (lots i j))) (within (most_book (g (product_kind j))) (g (book i j))) (all-at a (held_ok g j) e i k)).0)

pub record Facts (s : Shape) (g : View) : Type 0 where
  pub house_in : within most_house (g house) ≡ true
  pub phase_in : between (pos 0) (pos (s.n + 1)) (g phase) ≡ true
  pub product : (j : ℕ) → j < s.p → product_ok g j ≡ true
  pub account : (a : ℕ) → a < s.n → account_ok (account_at g a) ≡ true
  pub held : (a j : ℕ) → a < s.n → j < s.p → held_ok g j a ≡ true
  pub balanced : (j : ℕ) → j < s.p → is 0 (sum s.n (λ a. g (lots a j))) ≡ true
  pub done : (a : ℕ) → a < turn g - 1 → is 0 (g (due a 0)) ≡ true
  pub to_come : turn g ≢ 0 → stays (s.n + 1 - turn g) (g house) (turn g - 1) g ≡ true

pub facts : (s : Shape) (g : View) → places_ok s g ≡ true → Facts s g
facts s g e =
    let h = head_ok s g in let p = all s.p (product_ok g) in let a = all s.n (λ a. account_ok (account_at g a)) in
    let o = all s.p (positions_ok s.n g) in let d = done_ok g in
    let e₁ = both (h && p && a && o) (d && to_come_ok s g) e in
    let e₂ = both d (to_come_ok s g) e₁.1 in
    let e₃ = both (h && p && a) o e₁.0 in
    let e₄ = both (h && p) a e₃.0 in
    let e₅ = both h p e₄.0 in
    let e₆ = both (within most_house (g house)) (between (pos 0) (pos (s.n + 1)) (g phase)) e₅.0 in
    let position : (j : ℕ) → j < s.p → (all s.n (held_ok g j) ≡ true) × (is 0 (sum s.n (λ a. g (lots a j))) ≡ true) =
    λ j k. both (all s.n (held_ok g j)) (is 0 (sum s.n (λ a. g (lots a j)))) (all-at s.p (positions_ok s.n g) e₃.1 j k) in
    record {
      house_in = e₆.0;
      phase_in = e₆.1;
      product = all-at s.p (product_ok g) e₅.1;
      account = all-at s.n (λ a. account_ok (account_at g a)) e₄.1;
      held = λ b j k l. all-at s.n (held_ok g j) (position j l).0 b k;
      balanced = λ j l. (position j l).1;
      done = all-at (turn g - 1) (λ a. is 0 (g (due a 0))) e₂.0;
      to_come = λ ne. or_yes (eqb (turn g) 0) (stays (s.n + 1 - turn g) (g house) (turn g - 1) g) e₂.1 (ne_eqb (turn g) 0 ne);
    }

-- `figures_ok` without the positions: what is known before the clauses of the run are tested, and what it gives them
abbrev pub records_ok : Shape → View → Bool
records_ok s g = head_ok s g && all s.p (product_ok g) && all s.n (λ a. account_ok (account_at g a))

pub records_in : (s : Shape) (g : View) → figures_ok s g ≡ true → records_ok s g ≡ true
records_in s g e = (both (records_ok s g) (all s.p (positions_ok s.n g)) e).0

module _ (s : Shape) (g : View) (e : records_ok s g ≡ true) where
  records : (head_ok s g && all s.p (product_ok g) ≡ true) × (all s.n (λ a. account_ok (account_at g a)) ≡ true)
  records = both (head_ok s g && all s.p (product_ok g)) (all s.n (λ a. account_ok (account_at g a))) e

  head : (within most_house (g house) ≡ true) × (between (pos 0) (pos (s.n + 1)) (g phase) ≡ true)
  head = both (within most_house (g house)) (between (pos 0) (pos (s.n + 1)) (g phase)) (both (head_ok s g) (all s.p (product_ok g)) records.0).0

  pub phase_in : between (pos 0) (pos (s.n + 1)) (g phase) ≡ true
  phase_in = head.1

  pub house_in : nat_abs (g house) ≤ most_house
  house_in = within_true most_house (g house) head.0

  pub dues_in : DuesIn s g
  dues_in = record { at = λ a k. (account_facts (account_at g a) (all-at s.n (λ a. account_ok (account_at g a)) records.1 a k)).due0_in }

pub from_facts : (s : Shape) (g : View) → Facts s g → places_ok s g ≡ true
from_facts s g f =
    rw (
      f.house_in,
      f.phase_in,
      all-is s.p (product_ok g) f.product,
      all-is s.n (λ a. account_ok (account_at g a)) f.account,
      all-is s.p (positions_ok s.n g) (λ j l. rw (all-is s.n (held_ok g j) (λ a k. f.held a j k l)) (f.balanced j l)),
      all-is (turn g - 1) (λ a. is 0 (g (due a 0))) f.done,
    )
    (or_holds (eqb (turn g) 0) (stays (s.n + 1 - turn g) (g house) (turn g - 1) g) (λ ne. f.to_come (eqb-false (turn g) 0 ne)))

pub sound_facts : (L : Layout) (W : List ℤ) → sound L W ≡ true → Facts (shape_of W) (get L (shape_of W) W)
sound_facts L W e = facts (shape_of W) (get L (shape_of W) W) (places-ok places_ok L W e)

pub ledger_facts : (L : Layout) (s : Shape) (W : List ℤ) → Ledger L s W → Facts s (get L s W)
ledger_facts L s W l = facts s (get L s W) l.places

pub facts_dues : (s : Shape) (g : View) → Facts s g → DuesIn s g
facts_dues s g f = record { at = λ a h. (account_facts (account_at g a) (f.account a h)).due0_in }

-- puts inside a footprint that keep the facts leave a sound ledger
pub facts_kept : (L : Layout) (W : List ℤ) → sound L W ≡ true → (F : Footprint) (us : List Put) → Inside (shape_of W) F us
    → (Facts (shape_of W) (get L (shape_of W) W) → Facts (shape_of W) (get L (shape_of W) (puts L (shape_of W) W us))) → sound L (puts L (shape_of W) W us) ≡ true
facts_kept L W e F us i k = sound-kept places_ok L W e F us i (from_facts (shape_of W) (get L (shape_of W) (puts L (shape_of W) W us)) (k (sound_facts L W e)))

-- The counts of a table of contents are small, and so is its bad line; and what makes a table. Assumes nothing.
use mathlib.Core.Path.{◌≡◌, refl, ap, ◌∙◌}
use mathlib.Core.Bool.{Bool, true, false, cond, not}
use Rattle.std.specs.List.{take_while}
use Rattle.std.proofs.lemmas.List.Sums.{take_while-cons}
use mathlib.Core.List.{List, [], ◌∷◌}
use Prim.Native.Nat.{ℕ, zero, suc, ◌+◌, ◌≤◌}
use native.Mathlib.Nat.{not-suc-le-zero}
use native.Mathlib.Omega.{arith}
use lib.Dec.{eqb}
use lib.IntN.{ℤ, pos}
use lib.ListN.{length, take, replicate, length-replicate}
use Rattle.places.specs.Act.{most_accounts, most_products, most_words}
use Rattle.places.specs.Place.{words_of}
use Rattle.places.specs.ByAccountLaws.{words-most}
use Rattle.lines.specs.Bytes.{bytes}
use Rattle.lines.specs.Lines.{lost, line_feed, past, field_at, first_lost}
use Rattle.dayfile.specs.InsideDayfile.{Modest}
use Rattle.dayfile.specs.Table.{most_positions, most_calls, count_line, past_header, products_count, accounts_count, positions_count, calls_count, past_end, table_of, contents_of, ledger_shape}
use Rattle.dayfile.specs.declared.Counted.{Counted}
use Rattle.dayfile.specs.declared.Contents.{Contents}
use Rattle.dayfile.proofs.DayLaws.{count_most}

first_step : (k : ℕ) (l : List ℕ) (t : Bool) → first_lost (k + 1) l ≤ k + 1 + length l → cond t k (first_lost (k + 1) l) ≤ k + suc (length l)
first_step k l true h = omega arith
first_step k l false h = omega arith

first-low : (k : ℕ) (l : List ℕ) → first_lost k l ≤ k + length l
first-low k [] = omega arith
first-low k (a ∷ l) = first_step k l (eqb a lost) (first-low (k + 1) l)

lost_step : (a : ℕ) (l : List ℕ) (k : ℕ) (t : Bool) → k + 1 + length (take_while (λ b. not (eqb b lost)) l) ≡ first_lost (k + 1) l
    → k + length (cond (not t) (a ∷ take_while (λ b. not (eqb b lost)) l) []) ≡ cond t k (first_lost (k + 1) l)
lost_step a l k true h = omega arith
lost_step a l k false h = omega (arith, h)

-- the places before the first that is lost
pub lost_after : (l : List ℕ) (k : ℕ) → k + length (take_while (λ a. not (eqb a lost)) l) ≡ first_lost k l
lost_after [] k = omega arith
lost_after (a ∷ l) k = rw (take_while-cons (λ b. not (eqb b lost)) a l) (lost_step a l k (eqb a lost) (lost_after l (k + 1)))

count_few : (text : List ℕ) (at : ℕ) (w : List ℕ) (low high : ℕ) → (count_line text at w low high).count ≤ high
unfolding count_line
count_few text at w low high = count_most low high (field_at text (past text at w) line_feed).next (field_at text (past text at w) line_feed).value

pub contents_modest : (text : List ℕ) → Modest (contents_of text)
unfolding contents_of
contents_modest text =
    let first = past_header text 0 in
    let p = products_count text first in
    let n = accounts_count text p.next in
    let m = positions_count text n.next in
    let c = calls_count text m.next in
    record {
      products_few = count_few text _ (bytes "PRODUCTS ") 1 most_products;
      accounts_few = count_few text _ (bytes "ACCOUNTS ") 1 most_accounts;
      positions_few = count_few text _ (bytes "POSITIONS ") 0 most_positions;
      calls_few = count_few text _ (bytes "CALLS ") 0 most_calls;
      line_low = first-low 1 (first ∷ p.next ∷ n.next ∷ m.next ∷ c.next ∷ past_end text c.next ∷ []);
    }

-- six lines, each read where the one before it ended, are the table
pub contents_are : (text : List ℕ) (first : ℕ) (p n m c : Counted) (end : ℕ) (t : Contents) → first ≡ past_header text 0 → p ≡ products_count text first → n ≡ accounts_count text p.next → m ≡ positions_count text n.next → c ≡ calls_count text m.next → end ≡ past_end text c.next → t ≡ table_of first p n m c end → t ≡ contents_of text
unfolding contents_of
contents_are text first p n m c end t e1 e2 e3 e4 e5 e6 e7 = rw (e7, e6, e5, e4, e3, e2, e1)

-- ---- the words of the ledger are a first part of words for the largest, all 0

take_replicate : {X : Type 0} (k n : ℕ) (a : X) → k ≤ n → take k (replicate n a) ≡ replicate k a
take_replicate zero n a h = refl
take_replicate (suc k) zero a h = absurd (not-suc-le-zero h)
take_replicate (suc k) (suc n) a h = ap (λ (l : List _). a ∷ l) (take_replicate k n a (omega arith))

pub first-words : (c : Contents) → Modest c → (W : List ℤ) → W ≡ replicate most_words (pos 0) → (len : ℕ) → len ≡ words_of (ledger_shape c)
    → (len ≤ length W) × (take len W ≡ replicate (words_of (ledger_shape c)) (pos 0))
first-words c m W z len e =
    let few : len ≤ most_words = omega (arith, e, words-most (ledger_shape c) m.accounts_few m.products_few) in
    let long = ap length z ∙ length-replicate most_words (pos 0) in
    (omega (arith, few, long), ap (take len) z ∙ take_replicate len most_words (pos 0) few ∙ ap (λ (k : ℕ). replicate k (pos 0)) e)

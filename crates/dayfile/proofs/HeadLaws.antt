-- The bodies' words state the numbers of accounts and products: every line writes behind the head of the words. Assumes nothing.
use mathlib.Core.Path.{◌≡◌, refl, ◌∙◌}
use mathlib.Core.Logic.{◌≢◌}
use mathlib.Core.Bool.{Bool, true, false, cond}
use mathlib.Core.List.{List, [], ◌∷◌}
use Prim.Native.Nat.{ℕ, zero, suc, ◌+◌, ◌*◌, ◌≤◌, ◌<◌}
use native.Mathlib.Omega.{arith}
use lib.Dec.{eqb}
use lib.IntN.{ℤ, pos, nat_abs}
use lib.ListN.{get_or, set, replicate, length-set, length-replicate}
use lib.Seq.{sets, get_or-set_other}
use Rattle.whole.specs.Number.{is_one_of}
use Rattle.whole.specs.Tests.{is-one-of}
use Rattle.places.specs.declared.Shape.{Shape}
use Rattle.places.specs.Place.{Place, head, heads, accounts, products, product_kind, kind, lots, book, Has, words_of, get, put}
use Rattle.places.specs.PlaceLaws.{Behind, get-put-same, get-put-other, past_head}
use Rattle.places.specs.ByAccount.{by_account}
use Rattle.lines.specs.Lines.{lost, space, line_feed, field_at, Line, Stand, onward, lines}
use Rattle.dayfile.specs.Day.{bodies_of}
use Rattle.dayfile.specs.Sections.{fresh_words, product_figures, product_line, products_from, account_figures, account_line, accounts_from}
use Rattle.dayfile.specs.Sections.{Stated, stated, position_at, position_line, positions_from}
use Rattle.dayfile.specs.Table.{ledger_shape}
use Rattle.dayfile.specs.declared.Contents.{Contents}

-- what every line of a section of `most` lines keeps, the section keeps
module _ {M : Type 0} (read : ℕ → ℕ → M → Line M) (P : M → Type 0) (most : ℕ) (kept : (i at : ℕ) (h : M) → i < most → P h → P (read i at h).held) where
  held-step : (t : Bool) (s rest : Stand M) → P s.held → P rest.held → P (cond t s rest).held
  held-step true s rest p q = p
  held-step false s rest p q = q

  pub lines-held : (k i : ℕ) (s : Stand M) → i + k ≤ most → P s.held → P (lines read k i s).held
  unfolding lines
  lines-held zero i s b h = h
  lines-held (suc k) i s b h =
      let next = onward s.line (read i s.at s.held) in
      let p = kept i s.at s.held (omega arith) h in
      held-step (eqb next.at lost) next (lines read k (i + 1) next) p (lines-held k (i + 1) next (omega arith) p)

-- the words state this shape
pub record Head (s : Shape) (words : List ℤ) : Type 0 where
  pub accounts_are : get by_account s words accounts ≡ pos s.n
  pub products_are : get by_account s words products ≡ pos s.p

module _ (s : Shape) where
  -- a word behind the head leaves it as it is
  head-word-kept : (words : List ℤ) (i k : ℕ) (v : ℤ) → heads ≤ i → k < heads → get by_account s (set words i v) (head k) ≡ get by_account s words (head k)
  head-word-kept words i k v h b = get_or-set_other words i (by_account.at s (head k)) v (pos 0) (λ e. omega (arith, e, by_account.first s k))

  head-set : (words : List ℤ) (i : ℕ) (v : ℤ) → heads ≤ i → Head s words → Head s (set words i v)
  head-set words i v h d =
      record {
        accounts_are = head-word-kept words i 0 v h (omega arith) ∙ d.accounts_are;
        products_are = head-word-kept words i 1 v h (omega arith) ∙ d.products_are;
      }

  head_sets : (vs words : List ℤ) (i : ℕ) → heads ≤ i → Head s words → Head s (sets words i vs)
  head_sets [] words i h d = d
  head_sets (v ∷ vs) words i h d = head_sets vs (set words i v) (suc i) (omega arith) (head-set words i v h d)

  head-put : (words : List ℤ) (q : Place) (v : ℤ) → Has s q → Behind q → Head s words → Head s (put by_account s words q v)
  head-put words q v h b = head-set words (by_account.at s q) v (past_head by_account s q h b)

  head_either : (t : Bool) (l m : Line Stated) → (t ≡ true → Head s l.held.words) → Head s m.held.words → Head s (cond t l m).held.words
  head_either true l m d e = d refl
  head_either false l m d e = e

  head-stated : (a j : ℕ) (q b : ℤ) (next : ℕ) (sofar : Stated) → a < s.n → j < s.p → Head s sofar.words
      → Head s (stated s a j q b next sofar).held.words
  head-stated a j q b next sofar ha hj d =
      let one = put by_account s sofar.words (lots a j) q in
      let two = head-put one (book a j) b (ha, hj, omega arith) tt (head-put sofar.words (lots a j) q (ha, hj, omega arith) tt d) in
      head_either (eqb (get_or sofar.marks (a * s.p + j) 0) 0) _ _ (λ _. two) d

  head_position : (text : List ℕ) (at : ℕ) (sofar : Stated) → Head s sofar.words → Head s (position_at text s at sofar).held.words
  unfolding position_at
  head_position text at sofar d =
      let a = field_at text at space in
      let j = field_at text a.next space in
      let q = field_at text j.next space in
      let b = field_at text q.next line_feed in
      let none : Line Stated = record { next = lost; held = sofar } in
      let one = stated s (nat_abs a.value) (nat_abs j.value) q.value b.value b.next sofar in
      head_either (is_one_of s.n a.value) (cond (is_one_of s.p j.value) one none) none
      (λ e. head_either (is_one_of s.p j.value) one none
      (λ f.
      let ha = (is-one-of s.n a.value e).high in
      let hj = (is-one-of s.p j.value f).high in
      head-stated (nat_abs a.value) (nat_abs j.value) q.value b.value b.next sofar ha hj d)
      d)
      d

  head_fresh : Head s (fresh_words s)
  head_fresh =
      let zeros = replicate (words_of s) (pos 0) in
      let one = put by_account s zeros accounts (pos s.n) in
      let long = length-replicate (words_of s) (pos 0) in
      let long-one = length-set zeros (by_account.at s accounts) (pos s.n) ∙ long in
      let apart : accounts ≢ products = λ e. let z : ◌≡◌ {A = ℕ} 0 1 = cc in omega arith in
      record {
        accounts_are =
            get-put-other by_account s one products accounts (pos s.p) (omega arith) (omega arith) apart
            ∙ get-put-same by_account s zeros accounts (pos s.n) long (omega arith);
        products_are = get-put-same by_account s one products (pos s.p) long-one (omega arith);
      }

  head-products : (text : List ℕ) (at line : ℕ) → Head s (products_from text at line s (fresh_words s)).held
  unfolding products_from
  head-products text at line =
      lines-held (product_line text s) (Head s) s.p
      (λ j at h b d. head_sets (product_figures text at).values h (by_account.at s (product_kind j)) (past_head by_account s (product_kind j) (b, omega arith) tt) d)
      s.p 0 _ (omega arith) head_fresh

  head-accounts : (text : List ℕ) (at line : ℕ) (words : List ℤ) → Head s words → Head s (accounts_from text at line s words).held
  unfolding accounts_from
  head-accounts text at line words d =
      lines-held (account_line text s) (Head s) s.n
      (λ a at h b e. head_sets (account_figures text at).values h (by_account.at s (kind a)) (past_head by_account s (kind a) (b, omega arith) tt) e)
      s.n 0 _ (omega arith) d

  head_positions : (text : List ℕ) (at line m : ℕ) (sofar : Stated) → Head s sofar.words → Head s (positions_from text at line s m sofar).held.words
  unfolding positions_from
  head_positions text at line m sofar d =
      lines-held (position_line text s) (λ t. Head s t.words) m (λ i at h b e. head_position text at h e) m 0 _ (omega arith) d

pub bodies_head : (text : List ℕ) (c : Contents) → Head (ledger_shape c) (bodies_of text c).words
unfolding bodies_of
bodies_head text c =
    let s = ledger_shape c in
    head_positions s text _ _ c.positions _ (head-accounts s text _ _ _ (head-products s text c.at c.line))

-- No clause fails exactly where the words are sound: `none_on_sound`. Assumes nothing.
use Rattle.std.specs.Prelude.{◌≡◌, refl, Option, Some, None, List, Bool, true, false, ◌&&◌, ℕ, zero, suc, ◌+◌, ◌-◌, ◌<◌, eqb, leb, ltb, ℤ, pos, length}
use Rattle.std.proofs.Common.{sym, ap, subst, ap₂, ◌∙◌, ⊎_elim, leb-false, arith}
use Rattle.whole.specs.Number.{within, between, is, unless}
use Rattle.whole.specs.Counting.{all, sum}
use Rattle.whole.specs.Tests.{below-or-last}
use Rattle.rules.specs.Sizes.{most_price, most_book, most_lots, most_house, most_margin, most_gross}
use Rattle.rules.specs.Account.{account_ok, gross_of, guarantee_limit}
use Rattle.rules.specs.declared.Account.{Account}
use Rattle.places.specs.declared.Shape.{Shape}
use Rattle.places.specs.Place.{View, Layout, get, heads, words_of, phase, house, product_kind, floor_mark, price, due, lots, book}
use Rattle.places.specs.Act.{shape_of, shape_ok}
use Rattle.places.specs.ActLaws.{sound-at, not-sized}
use Rattle.soundness.specs.Sound.{account_at, pair_ok, product_ok, held_ok, positions_ok, head_ok, figures_ok, places_ok, turn, done_ok, to_come_ok, sound}
use Rattle.clauses.specs.declared.Clause.TheVariants.{Heads, ToCome}
use Rattle.clauses.specs.declared.Failing.{Failing}
use Rattle.clauses.specs.Clauses.{fails, is_none, none, or_else, first_of, of_shape, of_head, of_product, of_account, of_position, of_balance, of_positions, of_done, of_run, of_figures, of_places, first_failing}

-- ---- tests in a row

-- one test more: what fails at it is a clause
after : (s t : Bool) (f h : Option Failing) → is_none f ≡ false → (s && is_none (unless t f h)) ≡ (s && t && is_none h)
after false t f h e = refl
after true true f h e = refl
after true false f h e = e

and_true : (s : Bool) → (s && true) ≡ s
and_true true = refl
and_true false = refl

last : (s t : Bool) (f : Option Failing) → is_none f ≡ false → (s && is_none (unless t f none)) ≡ (s && t)
last s t f e = after s t f none e ∙ and_true (s && t)

pub or-else : (f h : Option Failing) → is_none (or_else f h) ≡ (is_none f && is_none h)
or-else None h = refl
or-else (Some f) h = refl

first-of : (n : ℕ) (f : ℕ → Option Failing) (t : ℕ → Bool) → ((i : ℕ) → is_none (f i) ≡ t i) → is_none (first_of n f) ≡ all n t
first-of zero f t e = refl
first-of (suc n) f t e = or-else (first_of n f) (f n) ∙ ap₂ ◌&&◌ (first-of n f t e) (e n)

-- ---- a test of a row: the first that is not passed gives the answer

pub stops : {t : Bool} {r f : Option Failing} (h : Option Failing) → t ≡ false → r ≡ f → r ≡ unless t f h
stops h e p = rw e p

pub passes : {t : Bool} {r h : Option Failing} (f : Option Failing) → t ≡ true → r ≡ h → r ≡ unless t f h
passes f e p = rw e p

-- the first of n that fails
pub first-fails : (n i : ℕ) (f : ℕ → Option Failing) (x : Failing) → i < n → first_of i f ≡ none → Some x ≡ f i → Some x ≡ first_of n f
first-fails zero i f x h e p = elim h [ ]
first-fails (suc m) i f x h e p =
    ⊎_elim (λ l. rw (sym (first-fails m i f x l e p)) refl) (λ l. subst (λ k. Some x ≡ or_else (first_of k f) (f k)) l (rw e p)) (below-or-last i m h)

-- ---- the clauses of a part, and its test

head-none : (s : Shape) (g : View) → is_none (of_head s g) ≡ head_ok s g
head-none s g = after true (within most_house (g house)) _ _ refl ∙ last (within most_house (g house)) (between (pos 0) (pos (s.n + 1)) (g phase)) _ refl

product-none : (g : View) (j : ℕ) → is_none (of_product g j) ≡ product_ok g j
product-none g j =
    let k = between (pos 0) (pos 1) (g (product_kind j)) in let m = between (pos 0) (pos 1) (g (floor_mark j)) in
    let p = between (pos 1) (pos (most_price (g (product_kind j)))) (g (price j)) in
    after true k _ _ refl ∙ after k m _ _ refl ∙ after (k && m) p _ _ refl ∙ last (k && m && p) (pair_ok g j) _ refl

account-none : (account : Account) (a : ℕ) → is_none (of_account account a) ≡ account_ok account
unfolding account_ok
account-none account a =
    let k = between (pos 0) (pos 1) account.kind in let u = between (pos 0) (guarantee_limit account) account.guarantee in
    let c = between (pos 0) (guarantee_limit account) account.cap in let m = between (pos 0) (pos most_margin) account.margin in
    after true k _ _ refl ∙ after k u _ _ refl ∙ after (k && u) c _ _ refl ∙ after (k && u && c) m _ _ refl ∙ last (k && u && c && m) (leb (gross_of account) most_gross) _ refl

pub position_none : (g : View) (j a : ℕ) → is_none (of_position g j a) ≡ held_ok g j a
position_none g j a = after true (within most_lots (g (lots a j))) _ _ refl ∙ last (within most_lots (g (lots a j))) (within (most_book (g (product_kind j))) (g (book a j))) _ refl

pub positions_held : (n : ℕ) (g : View) (j : ℕ) → is_none (first_of n (of_position g j)) ≡ all n (held_ok g j)
positions_held n g j = first-of n (of_position g j) (held_ok g j) (position_none g j)

-- where no position fails, each of them is in range
pub held_where_none : (n : ℕ) (g : View) (j : ℕ) → first_of n (of_position g j) ≡ None → all n (held_ok g j) ≡ true
held_where_none n g j e = sym (positions_held n g j) ∙ ap is_none e

positions_none : (n : ℕ) (g : View) (j : ℕ) → is_none (of_positions n g j) ≡ positions_ok n g j
positions_none n g j =
    or-else (first_of n (of_position g j)) (of_balance n g j)
    ∙ ap₂ ◌&&◌ (positions_held n g j) (last true (is 0 (sum n (λ a. g (lots a j)))) _ refl)

run_none : (s : Shape) (g : View) → is_none (of_run s g) ≡ (done_ok g && to_come_ok s g)
run_none s g =
    or-else (first_of (turn g - 1) (of_done g)) (unless (to_come_ok s g) (fails ToCome 0 0 (pos 0)) none)
    ∙ ap₂ ◌&&◌
    (first-of (turn g - 1) (of_done g) (λ a. is 0 (g (due a 0))) (λ a. last true (is 0 (g (due a 0))) _ refl))
    (last true (to_come_ok s g) _ refl)

pub figures_none : (s : Shape) (g : View) → is_none (of_figures s g) ≡ figures_ok s g
figures_none s g =
    let p = first_of s.p (of_product g) in let a = first_of s.n (λ a. of_account (account_at g a) a) in
    or-else (or_else (or_else (of_head s g) p) a) (first_of s.p (of_positions s.n g))
    ∙ ap₂ ◌&&◌
    (or-else (or_else (of_head s g) p) a
    ∙ ap₂ ◌&&◌
    (or-else (of_head s g) p ∙ ap₂ ◌&&◌ (head-none s g) (first-of s.p (of_product g) (product_ok g) (product-none g)))
    (first-of s.n (λ a. of_account (account_at g a) a) (λ a. account_ok (account_at g a)) (λ a. account-none (account_at g a) a)))
    (first-of s.p (of_positions s.n g) (positions_ok s.n g) (positions_none s.n g))

-- where no figure fails, the run may be tested
pub figures_where_none : (s : Shape) (g : View) → of_figures s g ≡ None → figures_ok s g ≡ true
figures_where_none s g e = sym (figures_none s g) ∙ ap is_none e

places-none : (s : Shape) (g : View) → is_none (of_places s g) ≡ places_ok s g
places-none s g = or-else (of_figures s g) (of_run s g) ∙ ap₂ ◌&&◌ (figures_none s g) (run_none s g)

pub shape-none : (W : List ℤ) (s : Shape) → is_none (of_shape W s) ≡ shape_ok W s
shape-none W s =
    after true (ltb 0 s.n) _ _ refl ∙ after (ltb 0 s.n) (ltb 0 s.p) _ _ refl ∙ last (ltb 0 s.n && ltb 0 s.p) (eqb (length W) (words_of s)) _ refl

-- the last two clauses, by the turn
pub run-idle : (s : Shape) (g : View) → turn g ≡ 0 → of_run s g ≡ none
run-idle s g e = rw e

-- ---- all of it, where the list is long enough for a head and where it is not
pub too_few : (L : Layout) (W : List ℤ) → leb heads (length W) ≡ false → first_failing L W ≡ fails Heads 0 0 (pos 0)
unfolding first_failing
too_few L W e = rw e

pub enough : (L : Layout) (W : List ℤ) (s : Shape) → s ≡ shape_of W → leb heads (length W) ≡ true → first_failing L W ≡ or_else (of_shape W s) (of_places s (get L s W))
unfolding first_failing
enough L W s h e = rw e (ap (λ t. or_else (of_shape W t) (of_places t (get L t W))) (sym h))

pub none_on_sound : (L : Layout) (W : List ℤ) → is_none (first_failing L W) ≡ sound L W
none_on_sound L W = go (leb heads (length W)) refl
  where
    go : (t : Bool) → leb heads (length W) ≡ t → is_none (first_failing L W) ≡ sound L W
    go true e =
        let s = shape_of W in let g = get L s W in
        ap is_none (enough L W s refl e)
        ∙ or-else (of_shape W s) (of_places s g)
        ∙ ap₂ ◌&&◌ (shape-none W s) (places-none s g)
        ∙ sym (sound-at places_ok L W s refl)
    go false e = ap is_none (too_few L W e) ∙ sym (not-sized places_ok L W (λ n. omega (arith, leb-false heads (length W) e)))

-- what the answer says of the words
pub answered : (L : Layout) (W : List ℤ) {r : Option Failing} → r ≡ first_failing L W → (r ≡ first_failing L W) × (is_none r ≡ sound L W)
answered L W e = (e, ap is_none e ∙ none_on_sound L W)

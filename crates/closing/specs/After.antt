-- What the places say after a close, over any layout: `After`, and that the puts of the close bring it about (`after`). Assumes nothing.
use Rattle.std.proofs.Math.Path.{◌≡◌}
use Rattle.std.specs.Prelude.{refl, ◌≢◌, Bool, true, false, not, List, [], ◌∷◌, ◌++◌, ℕ, ◌+◌, ◌-◌, ◌<◌, ltb, eqb, ℤ, pos, length}
use Rattle.std.proofs.Common.{sym, ap, subst, ◌∙◌, lt_of_not-le}
use native.Mathlib.Omega.{arith}
use Rattle.std.proofs.Math.Decide.{ℕ_discrete}
use borrow.Author.Tests.{ltb-false, le-ltb, eqb-true, eqb-false, eq-eqb}
use Rattle.whole.specs.Counting.{figure_at}
use Rattle.whole.specs.Tests.{clash}
use Rattle.places.specs.declared.Shape.{Shape}
use Rattle.places.specs.Place.{Place, head, prod, acct, held, Has, View, Layout, Put, ◌≔◌, get, puts, each, dues, first_due, phase, price, margin, due, book, words_of}
use Rattle.places.specs.PlaceLaws.{each_map, each_append, each-each}
use Rattle.places.specs.Passes.{Agree, Off, unseen, Leaves, Elsewhere, leaves_put, leaves_later, leaves_after, leaves_each}
use Rattle.daily.specs.DailyFigures.{new_due, new_margin, new_book}
use Rattle.closing.specs.Close.{due_puts, book_puts, price_puts, account_puts, close_puts}
use Rattle.closing.specs.Written.{account_sees, account-at, account_off}

-- the places that a close leaves alone: all but the phase, the prices, the margins, the dues and the books
abbrev pub close_keeps : Place → Bool
close_keeps (head k) = not (eqb k 2)
close_keeps (prod j f) = not (eqb f 2)
close_keeps (acct a f) = ltb f 4
close_keeps (held a j f) = eqb f 0

-- an account's own places
abbrev own : Place → Bool
own (head k) = false
own (prod j f) = false
own (acct a f) = true
own (held a j f) = true

module _ (prices rates8 rates104 lags : List ℤ) (s : Shape) where
  pub record After (g g' : View) : Type 0 where
    pub kept : Agree s close_keeps g' g
    pub phase_new : g' phase ≡ pos 0
    pub price_new : (j : ℕ) → j < s.p → g' (price j) ≡ figure_at prices j
    pub margin_new : (a : ℕ) → a < s.n → g' (margin a) ≡ new_margin prices rates8 rates104 s g a
    pub due_new : (a d : ℕ) → a < s.n → d < dues → g' (due a d) ≡ new_due prices lags s g a d
    pub book_new : (a j : ℕ) → a < s.n → j < s.p → g' (book a j) ≡ new_book prices g a j

  module _ (L : Layout) (g : View) where
    -- the three parts of the puts
    abbrev accounts : List Put
    accounts = each s.n (account_puts prices rates8 rates104 lags s g)

    abbrev news : List Put
    news = each s.p (price_puts prices)

    abbrev last : List Put
    last = (phase ≔ pos 0) ∷ []

    close_off : Off s close_keeps (close_puts prices rates8 rates104 lags s g)
    unfolding close_puts
    close_off =
        let P : Place → Type 0 = λ q. Has s q × (close_keeps q ≡ false) in
        each_append P (accounts ++ news) last
        (each_append P accounts news
        (each-each P s.n (account_puts prices rates8 rates104 lags s g) (λ a h. account-at prices rates8 rates104 lags s g P a
        ((h, omega arith), refl) (λ d k. ((h, omega arith), le-ltb (first_due + d) 4 (omega arith))) (λ j k. ((h, k, omega arith), refl))))
        (each-each P s.p (price_puts prices) (λ j h. (((h, omega arith), refl), tt))))
        ((omega arith, refl), tt)

    -- puts that a place's set does not hold stand elsewhere
    elsewhere : (P : Place → Bool) (q : Place) (hq : Has s q) (v : ℤ) → P q ≡ true → (us : List Put) → Off s P us → Elsewhere L s q hq v us
    elsewhere P q hq v t us h = each_map (λ r. Has s r × (P r ≡ false)) (λ r. Has s r × (q ≢ r)) (λ r k. (k.0, λ e. clash t (ap P e ∙ k.1))) us h

    module _ (a : ℕ) (ha : a < s.n) where
      abbrev F : ℕ → List Put
      F = account_puts prices rates8 rates104 lags s g

      abbrev D : ℕ → List Put
      D = due_puts prices lags s a g

      abbrev B : ℕ → List Put
      B = book_puts prices a g

      abbrev one : List Put
      one = (margin a ≔ new_margin prices rates8 rates104 s g a) ∷ []

      -- what an account's puts leave at a place of the account, the close leaves there
      through : (q : Place) (hq : Has s q) (v : ℤ) → account_sees a q ≡ true → own q ≡ true → Leaves L s q hq v (F a) → Leaves L s q hq v (close_puts prices rates8 rates104 lags s g)
      unfolding close_puts
      through q hq v t u l =
          leaves_later L s q hq v (accounts ++ news) last
          (leaves_later L s q hq v accounts news
          (leaves_each L s q hq v s.n F a ha l (λ b h k. elsewhere (account_sees a) q hq v t (F b) (account_off prices rates8 rates104 lags s g a b (λ e. omega arith) h)))
          (elsewhere own q hq v u news (each-each (λ q. Has s q × (own q ≡ false)) s.p (price_puts prices) (λ j k. (((k, omega arith), refl), tt)))))
          (elsewhere own q hq v u last ((omega arith, refl), tt))

      -- the dues, and the books, stand elsewhere
      dues_else : (q : Place) (hq : Has s q) (v : ℤ) → ((d : ℕ) → q ≢ due a d) → Elsewhere L s q hq v (each dues D)
      dues_else q hq v ne = each-each (λ r. Has s r × (q ≢ r)) dues D (λ d h. (((ha, omega arith), ne d), tt))

      books_else : (q : Place) (hq : Has s q) (v : ℤ) → ((j : ℕ) → q ≢ book a j) → Elsewhere L s q hq v (each s.p B)
      books_else q hq v ne = each-each (λ r. Has s r × (q ≢ r)) s.p B (λ j h. (((ha, h, omega arith), ne j), tt))

      leaves_margin : Leaves L s (margin a) (ha, omega arith) (new_margin prices rates8 rates104 s g a) (F a)
      unfolding account_puts
      leaves_margin =
          let q = margin a in let hq : Has s (margin a) = (ha, omega arith) in let v = new_margin prices rates8 rates104 s g a in
          leaves_later L s q hq v (one ++ each dues D) (each s.p B)
          (leaves_later L s q hq v one (each dues D) (leaves_put L s q hq v) (dues_else q hq v (λ d e. let z : 4 ≡ first_due + d = cc in omega arith)))
          (books_else q hq v (λ j e. let z : ◌≡◌ {A = ℕ} 0 1 = cc in omega arith))

      leaves_due : (d : ℕ) (hd : d < dues) → Leaves L s (due a d) (ha, omega arith) (new_due prices lags s g a d) (F a)
      unfolding account_puts
      leaves_due d hd =
          let q = due a d in let hq : Has s (due a d) = (ha, omega arith) in let v = new_due prices lags s g a d in
          leaves_later L s q hq v (one ++ each dues D) (each s.p B)
          (leaves_after L s q hq v one (each dues D)
          (leaves_each L s q hq v dues D d hd (leaves_put L s q hq v) (λ m h k. (((ha, omega arith), λ e. let z : first_due + d ≡ first_due + m = cc in omega arith), tt))))
          (books_else q hq v (λ j e. let z : ◌≡◌ {A = ℕ} 0 1 = cc in omega arith))

      leaves_book : (j : ℕ) (hj : j < s.p) → Leaves L s (book a j) (ha, hj, omega arith) (new_book prices g a j) (F a)
      unfolding account_puts
      leaves_book j hj =
          let q = book a j in let hq : Has s (book a j) = (ha, hj, omega arith) in let v = new_book prices g a j in
          leaves_after L s q hq v (one ++ each dues D) (each s.p B)
          (leaves_each L s q hq v s.p B j hj (leaves_put L s q hq v) (λ m h k. (((ha, h, omega arith), λ e. let z : j ≡ m = cc in omega arith), tt)))

    leaves_price : (j : ℕ) (hj : j < s.p) → Leaves L s (price j) (hj, omega arith) (figure_at prices j) (close_puts prices rates8 rates104 lags s g)
    unfolding close_puts
    leaves_price j hj =
        let q = price j in let hq : Has s (price j) = (hj, omega arith) in let v = figure_at prices j in
        leaves_later L s q hq v (accounts ++ news) last
        (leaves_after L s q hq v accounts news (leaves_each L s q hq v s.p (price_puts prices) j hj (leaves_put L s q hq v) (λ m h k. (((h, omega arith), λ e. let z : j ≡ m = cc in omega arith), tt))))
        ((omega arith, λ e. let z : ◌≡◌ {A = ℕ} 0 1 = cc in omega arith), tt)

    leaves_phase : Leaves L s phase (omega arith) (pos 0) (close_puts prices rates8 rates104 lags s g)
    unfolding close_puts
    leaves_phase = leaves_after L s phase (omega arith) (pos 0) (accounts ++ news) last (leaves_put L s phase (omega arith) (pos 0))

-- what the places say after the close
pub after : (L : Layout) (prices rates8 rates104 lags : List ℤ) (s : Shape) (W : List ℤ) → length W ≡ words_of s
    → After prices rates8 rates104 lags s (get L s W) (get L s (puts L s W (close_puts prices rates8 rates104 lags s (get L s W))))
after L prices rates8 rates104 lags s W z =
    let g = get L s W in
    record {
      kept = unseen L s close_keeps (close_puts prices rates8 rates104 lags s g) (close_off prices rates8 rates104 lags s L g) W;
      phase_new = leaves_phase prices rates8 rates104 lags s L g W z;
      price_new = λ j h. leaves_price prices rates8 rates104 lags s L g j h W z;
      margin_new = λ a h. through prices rates8 rates104 lags s L g a h (margin a) (h, omega arith) (new_margin prices rates8 rates104 s g a) (eq-eqb a a refl) refl (leaves_margin prices rates8 rates104 lags s L g a h) W z;
      due_new = λ a d h k. through prices rates8 rates104 lags s L g a h (due a d) (h, omega arith) (new_due prices lags s g a d) (eq-eqb a a refl) refl (leaves_due prices rates8 rates104 lags s L g a h d k) W z;
      book_new = λ a j h k. through prices rates8 rates104 lags s L g a h (book a j) (h, k, omega arith) (new_book prices g a j) (eq-eqb a a refl) refl (leaves_book prices rates8 rates104 lags s L g a h j k) W z;
    }

-- a close says what stands at every place
module _ (prices rates8 rates104 lags : List ℤ) (s : Shape) (g x y : View) (a : After prices rates8 rates104 lags s g x) (b : After prices rates8 rates104 lags s g y) where
  pub after_same : (q : Place) → Has s q → x q ≡ y q
  after_same (head k) h = go (eqb k 2) refl
    where
      go : (r : Bool) → eqb k 2 ≡ r → x (head k) ≡ y (head k)
      go true e = let z = eqb-true k 2 e in rw z (a.phase_new ∙ sym b.phase_new)
      go false e = a.kept (head k) h (rw e refl) ∙ sym (b.kept (head k) h (rw e refl))
  after_same (prod j f) h = go (eqb f 2) refl
    where
      go : (r : Bool) → eqb f 2 ≡ r → x (prod j f) ≡ y (prod j f)
      go true e = let z = eqb-true f 2 e in rw z (a.price_new j h.0 ∙ sym (b.price_new j h.0))
      go false e = a.kept (prod j f) h (rw e refl) ∙ sym (b.kept (prod j f) h (rw e refl))
  after_same (acct c f) h = go (ltb f 4) refl (ℕ_discrete f 4)
    where
      go : (r : Bool) → ltb f 4 ≡ r → Dec (f ≡ 4) → x (acct c f) ≡ y (acct c f)
      go true e n = a.kept (acct c f) h e ∙ sym (b.kept (acct c f) h e)
      go false e (yes z) = rw z (a.margin_new c h.0 ∙ sym (b.margin_new c h.0))
      go false e (no n) =
          let l = ltb-false f 4 e in let m : 4 < f = lt_of_not-le (λ k. n (omega arith)) in
          let z : f ≡ first_due + (f - first_due) = omega arith in
          subst (λ k. x (acct c k) ≡ y (acct c k)) (sym z) (a.due_new c (f - first_due) h.0 (omega arith) ∙ sym (b.due_new c (f - first_due) h.0 (omega arith)))
  after_same (held c j f) h = go (eqb f 0) refl
    where
      go : (r : Bool) → eqb f 0 ≡ r → x (held c j f) ≡ y (held c j f)
      go true e = a.kept (held c j f) h e ∙ sym (b.kept (held c j f) h e)
      go false e =
          let n = eqb-false f 0 e in let m : 0 < f = lt_of_not-le (λ k. n (omega arith)) in let z : f ≡ 1 = omega arith in
          rw z (a.book_new c j h.0 h.1 ∙ sym (b.book_new c j h.0 h.1))

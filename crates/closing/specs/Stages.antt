-- What the places say while a close is made (`Stage`), step by step: a position, a product, one product after another (`stage_walked`). Assumes nothing.
use Rattle.std.specs.Prelude.{◌≡◌, refl, ◌≢◌, Bool, true, false, cond, List, [], ◌∷◌, ℕ, zero, suc, ◌+◌, ◌≤◌, ◌<◌, ltb, ℤ, pos, nat_abs, ◌+ℤ◌, ◌*ℤ◌, length}
use Rattle.std.proofs.Common.{sym, ap, ap₂, subst, ◌∙◌, arith, length-set, ltb-true, ltb-false, lt-ltb, le-ltb, eq-eqb, ne_eqb}
use Rattle.std.proofs.Math.Decide.{ℕ_discrete}
use Rattle.std.proofs.Math.IntN.{+ℤ_idr, +ℤ_assoc}
use Rattle.whole.specs.Counting.{sum, total, figure_at}
use Rattle.rules.specs.Sizes.{is_yen}
use Rattle.rules.specs.Product.{difference_of, rate_of}
use Rattle.rules.specs.ProductLaws.{margin_at, lot_margin}
use Rattle.places.specs.declared.Shape.{Shape}
use Rattle.places.specs.Place.{Place, prod, Has, View, Layout, Put, ◌≔◌, get, put, puts, dues, first_due, words_of, product_kind, quote, price, margin, due, lots, book}
use Rattle.places.specs.PlaceLaws.{get-put-same, get-put-other, get-puts}
use Rattle.places.specs.Passes.{Agree, Off, unseen, leaves_put, leaves_later, leaves_after, turns, length-turns}
use Rattle.daily.specs.DailyFigures.{difference, added_to, charge, new_book}
use Rattle.daily.specs.Once.{single_of, charge-once}
use Rattle.closing.specs.Walk.{product_puts, product_walked, walked}
use Rattle.closing.specs.After.{close_keeps}

-- ---- three words of the account a, put at once: a due, the margin, a book

module _ (L : Layout) (s : Shape) (a d j : ℕ) (ha : a < s.n) (hd : d < dues) (hj : j < s.p) (x y z : ℤ) where
  abbrev three : List Put
  three = (due a d ≔ x) ∷ (margin a ≔ y) ∷ (book a j ≔ z) ∷ []

  has_due : Has s (due a d)
  has_due = (ha, omega arith)

  has_margin : Has s (margin a)
  has_margin = (ha, omega arith)

  has_book : Has s (book a j)
  has_book = (ha, hj, omega arith)

  three_off : Off s close_keeps three
  three_off = ((has_due, le-ltb (first_due + d) 4 (omega arith)), ((has_margin, refl), ((has_book, refl), tt)))

  module _ (X : List ℤ) (l : length X ≡ words_of s) where
    three-due : get L s (puts L s X three) (due a d) ≡ x
    three-due =
        leaves_later L s (due a d) has_due x ((due a d ≔ x) ∷ []) ((margin a ≔ y) ∷ (book a j ≔ z) ∷ []) (leaves_put L s (due a d) has_due x)
        ((has_margin, λ e. let w : first_due + d ≡ 4 = cc in omega arith), ((has_book, λ e. let w : ◌≡◌ {A = ℕ} 0 1 = cc in omega arith), tt)) X l

    three-margin : get L s (puts L s X three) (margin a) ≡ y
    three-margin =
        leaves_after L s (margin a) has_margin y ((due a d ≔ x) ∷ []) ((margin a ≔ y) ∷ (book a j ≔ z) ∷ [])
        (leaves_later L s (margin a) has_margin y ((margin a ≔ y) ∷ []) ((book a j ≔ z) ∷ []) (leaves_put L s (margin a) has_margin y)
        ((has_book, λ e. let w : ◌≡◌ {A = ℕ} 0 1 = cc in omega arith), tt)) X l

    three-book : get L s (puts L s X three) (book a j) ≡ z
    three-book = leaves_after L s (book a j) has_book z ((due a d ≔ x) ∷ (margin a ≔ y) ∷ []) ((book a j ≔ z) ∷ []) (leaves_put L s (book a j) has_book z) X l

    three_else : (q : Place) → Has s q → q ≢ due a d → q ≢ margin a → q ≢ book a j → get L s (puts L s X three) q ≡ get L s X q
    three_else q hq e f h = get-puts L s q hq three ((has_due, e), ((has_margin, f), ((has_book, h), tt))) X

-- ---- what the places say: of the account b the first `done b` products are made, and of the products before k the price. x has the dues at the beginning.

module _ (prices rates8 rates104 lags : List ℤ) (s : Shape) (g : View) (x : ℕ → ℕ → ℤ) where
  pub record Stage (done : ℕ → ℕ) (k : ℕ) (g' : View) : Type 0 where
    pub kept : Agree s close_keeps g' g
    pub price_new : (i : ℕ) → i < k → i < s.p → g' (price i) ≡ figure_at prices i
    pub margin_is : (b : ℕ) → b < s.n → g' (margin b) ≡ pos (total (done b) (charge prices rates8 rates104 g b))
    pub due_is : (b d : ℕ) → b < s.n → d < dues → g' (due b d) ≡ x b d +ℤ sum (done b) (added_to prices lags g b d)
    pub book_new : (b i : ℕ) → b < s.n → i < s.p → i < done b → g' (book b i) ≡ new_book prices g b i
    pub book_old : (b i : ℕ) → b < s.n → i < s.p → done b ≤ i → g' (book b i) ≡ g (book b i)

  -- counts that agree on the accounts
  stage_as : (done done' : ℕ → ℕ) (k : ℕ) (g' : View) → ((b : ℕ) → b < s.n → done b ≡ done' b) → Stage done k g' → Stage done' k g'
  stage_as done done' k g' e t =
      record {
        kept = t.kept;
        price_new = t.price_new;
        margin_is = λ b h. t.margin_is b h ∙ ap (λ m. pos (total m (charge prices rates8 rates104 g b))) (e b h);
        due_is = λ b d h l. t.due_is b d h l ∙ ap (λ m. x b d +ℤ sum m (added_to prices lags g b d)) (e b h);
        book_new = λ b i h l m. t.book_new b i h l (rw (e b h) m);
        book_old = λ b i h l m. t.book_old b i h l (rw (e b h) m);
      }

  -- the account a's turn in the product j
  module _ (L : Layout) (done done' : ℕ → ℕ) (k a j : ℕ) (X : List ℤ) (l : length X ≡ words_of s) (t : Stage done k (get L s X)) (ha : a < s.n) (hj : j < s.p)
      (was : done a ≡ j) (now : done' a ≡ suc j) (others : (b : ℕ) → b ≢ a → done' b ≡ done b) (d : ℕ) (hd : d < dues) (is : d ≡ nat_abs (figure_at lags j)) (u v w : ℤ)
      (eu : u ≡ x a d +ℤ sum (suc j) (added_to prices lags g a d)) (ev : v ≡ pos (total (suc j) (charge prices rates8 rates104 g a))) (ew : w ≡ new_book prices g a j) where
    abbrev Y : List ℤ
    Y = puts L s X (three L s a d j ha hd hj u v w)

    else_is : (q : Place) → Has s q → q ≢ due a d → q ≢ margin a → q ≢ book a j → get L s Y q ≡ get L s X q
    else_is = three_else L s a d j ha hd hj u v w X l

    margin-at : (b : ℕ) → b < s.n → Dec (b ≡ a) → get L s Y (margin b) ≡ pos (total (done' b) (charge prices rates8 rates104 g b))
    margin-at b h (yes q) = subst (λ c. get L s Y (margin c) ≡ pos (total (done' c) (charge prices rates8 rates104 g c))) (sym q) (rw now (three-margin L s a d j ha hd hj u v w X l ∙ ev))
    margin-at b h (no q) =
        else_is (margin b) (h, omega arith) (λ e. let y : b ≡ a = cc in q y) (λ e. let y : b ≡ a = cc in q y) (λ e. let y : ◌≡◌ {A = ℕ} 0 1 = cc in omega arith)
        ∙ rw (others b q) (t.margin_is b h)

    -- another due of the account: the product adds nothing there
    other-due : (c : ℕ) → c ≢ d → x a c +ℤ sum j (added_to prices lags g a c) ≡ x a c +ℤ sum (suc j) (added_to prices lags g a c)
    other-due c ne = ap (λ z. x a c +ℤ z) (rw (ne_eqb (nat_abs (figure_at lags j)) c (λ q. ne (sym (is ∙ q)))) (sym (+ℤ_idr (sum j (added_to prices lags g a c)))))

    due-at : (b c : ℕ) → b < s.n → c < dues → Dec (b ≡ a) → Dec (c ≡ d) → get L s Y (due b c) ≡ x b c +ℤ sum (done' b) (added_to prices lags g b c)
    due-at b c h m (yes q) (yes r) =
        subst (λ z. get L s Y (due z c) ≡ x z c +ℤ sum (done' z) (added_to prices lags g z c)) (sym q)
        (subst (λ z. get L s Y (due a z) ≡ x a z +ℤ sum (done' a) (added_to prices lags g a z)) (sym r) (rw now (three-due L s a d j ha hd hj u v w X l ∙ eu)))
    due-at b c h m (yes q) (no r) =
        subst (λ z. get L s Y (due z c) ≡ x z c +ℤ sum (done' z) (added_to prices lags g z c)) (sym q)
        (else_is (due a c) (ha, omega arith) (λ e. let y : first_due + c ≡ first_due + d = cc in r (omega arith)) (λ e. let y : first_due + c ≡ 4 = cc in omega arith) (λ e. let y : ◌≡◌ {A = ℕ} 0 1 = cc in omega arith)
        ∙ t.due_is a c ha m ∙ rw (was, now) (other-due c r))
    due-at b c h m (no q) r =
        else_is (due b c) (h, omega arith) (λ e. let y : b ≡ a = cc in q y) (λ e. let y : b ≡ a = cc in q y) (λ e. let y : ◌≡◌ {A = ℕ} 0 1 = cc in omega arith)
        ∙ rw (others b q) (t.due_is b c h m)

    -- a book that is not this one
    book_else : (b i : ℕ) → b < s.n → i < s.p → book b i ≢ book a j → get L s Y (book b i) ≡ get L s X (book b i)
    book_else b i h m ne = else_is (book b i) (h, m, omega arith) (λ e. let y : ◌≡◌ {A = ℕ} 0 1 = cc in omega arith) (λ e. let y : ◌≡◌ {A = ℕ} 0 1 = cc in omega arith) ne

    book-made : (b i : ℕ) → b < s.n → i < s.p → i < done' b → Dec (b ≡ a) → Dec (i ≡ j) → get L s Y (book b i) ≡ new_book prices g b i
    book-made b i h m o (yes q) (yes r) =
        subst (λ z. get L s Y (book z i) ≡ new_book prices g z i) (sym q)
        (subst (λ z. get L s Y (book a z) ≡ new_book prices g a z) (sym r) (three-book L s a d j ha hd hj u v w X l ∙ ew))
    book-made b i h m o (yes q) (no r) =
        let p : i < suc j = subst (λ z. i < z) (ap done' q ∙ now) o in
        book_else b i h m (λ e. let y : i ≡ j = cc in r y) ∙ t.book_new b i h m (rw (ap done q ∙ was) (omega arith))
    book-made b i h m o (no q) r = book_else b i h m (λ e. let y : b ≡ a = cc in q y) ∙ t.book_new b i h m (rw (others b q) at o)

    book-left : (b i : ℕ) → b < s.n → i < s.p → done' b ≤ i → Dec (b ≡ a) → get L s Y (book b i) ≡ g (book b i)
    book-left b i h m o (yes q) =
        let p : suc j ≤ i = subst (λ z. z ≤ i) (ap done' q ∙ now) o in
        book_else b i h m (λ e. let y : i ≡ j = cc in omega arith) ∙ t.book_old b i h m (rw (ap done q ∙ was) (omega arith))
    book-left b i h m o (no q) = book_else b i h m (λ e. let y : b ≡ a = cc in q y) ∙ t.book_old b i h m (rw (others b q) at o)

    stage_turn : Stage done' k (get L s Y)
    stage_turn =
        record {
          kept = λ q hq c. unseen L s close_keeps (three L s a d j ha hd hj u v w) (three_off L s a d j ha hd hj u v w) X q hq c ∙ t.kept q hq c;
          price_new = λ i h m. else_is (price i) (m, omega arith) (λ e. let y : ◌≡◌ {A = ℕ} 0 1 = cc in omega arith) (λ e. let y : ◌≡◌ {A = ℕ} 0 1 = cc in omega arith) (λ e. let y : ◌≡◌ {A = ℕ} 0 1 = cc in omega arith) ∙ t.price_new i h m;
          margin_is = λ b h. margin-at b h (ℕ_discrete b a);
          due_is = λ b c h m. due-at b c h m (ℕ_discrete b a) (ℕ_discrete c d);
          book_new = λ b i h m o. book-made b i h m o (ℕ_discrete b a) (ℕ_discrete i j);
          book_old = λ b i h m o. book-left b i h m o (ℕ_discrete b a);
        }

  -- ---- a product: one account after another, then its price

  module _ (L : Layout) (j : ℕ) (hj : j < s.p) (hd : nat_abs (figure_at lags j) < dues) (X : List ℤ) (l : length X ≡ words_of s) (t : Stage (λ b. j) j (get L s X)) where
    abbrev F : View → ℕ → List Put
    F = product_puts L s prices rates8 rates104 lags j (get L s X)

    abbrev D : ℕ
    D = nat_abs (figure_at lags j)

    -- the first a accounts have had their turn
    abbrev up_to : ℕ → ℕ → ℕ
    up_to a b = cond (ltb b a) (suc j) j

    others_same : (a b : ℕ) → b ≢ a → up_to (suc a) b ≡ up_to a b
    others_same a b ne = ap (λ r. cond r (suc j) j) (go (ltb b a) refl)
      where
        go : (r : Bool) → ltb b a ≡ r → ltb b (suc a) ≡ r
        go true q = let h = ltb-true b a q in lt-ltb b (suc a) (omega arith)
        go false q = let h = ltb-false b a q in let m : a < b = native.Mathlib.Nat.lt_of_not-le (λ k. ne (omega arith)) in le-ltb b (suc a) (omega arith)

    -- the product's own figures are those of the beginning
    product-word : (f : ℕ) → f < 5 → close_keeps (prod j f) ≡ true → get L s X (prod j f) ≡ g (prod j f)
    product-word f h c = t.kept (prod j f) (hj, omega arith) c

    single_same : single_of prices rates8 rates104 (get L s X) j ≡ single_of prices rates8 rates104 g j
    single_same =
        ap₂ lot_margin (λ i. figure_at prices (cond (is_yen (product-word 0 (omega arith) refl i)) j (nat_abs (product-word 3 (omega arith) refl i))))
        (ap (λ z. rate_of z (figure_at rates8 j) (figure_at rates104 j)) (product-word 1 (omega arith) refl))

    module _ (a : ℕ) (ha : a < s.n) (Z : List ℤ) (z : Stage (up_to a) j (get L s Z)) where
      was_j : up_to a a ≡ j
      was_j = rw (le-ltb a a (omega arith))

      lots-same : get L s Z (lots a j) ≡ g (lots a j)
      lots-same = z.kept (lots a j) (ha, hj, omega arith) refl

      difference-same : difference_of (get L s X (product_kind j)) (get L s Z (lots a j)) (get L s Z (book a j)) (figure_at prices j) (figure_at prices (nat_abs (get L s X (quote j))))
          ≡ difference prices g a j
      difference-same i =
          difference_of (product-word 0 (omega arith) refl i) (lots-same i) (z.book_old a j ha hj (rw was_j (omega arith)) i) (figure_at prices j)
          (figure_at prices (nat_abs (product-word 4 (omega arith) refl i)))

      due-more : get L s Z (due a D) +ℤ difference_of (get L s X (product_kind j)) (get L s Z (lots a j)) (get L s Z (book a j)) (figure_at prices j) (figure_at prices (nat_abs (get L s X (quote j))))
          ≡ x a D +ℤ sum (suc j) (added_to prices lags g a D)
      due-more =
          ap₂ ◌+ℤ◌ (z.due_is a D ha hd ∙ ap (λ m. x a D +ℤ sum m (added_to prices lags g a D)) was_j) difference-same
          ∙ +ℤ_assoc (x a D) (sum j (added_to prices lags g a D)) (difference prices g a j)
          ∙ ap (λ y. x a D +ℤ (sum j (added_to prices lags g a D) +ℤ y)) (sym (rw (eq-eqb D D refl)))

      margin-more : get L s Z (margin a) +ℤ pos (margin_at (get L s Z (lots a j)) (single_of prices rates8 rates104 (get L s X) j))
          ≡ pos (total (suc j) (charge prices rates8 rates104 g a))
      margin-more =
          ap₂ (λ y m. y +ℤ pos m) (z.margin_is a ha ∙ ap (λ m. pos (total m (charge prices rates8 rates104 g a))) was_j)
          (ap₂ margin_at lots-same single_same ∙ sym (charge-once prices rates8 rates104 g a j))

    stage_column : (a : ℕ) → a ≤ s.n → Stage (up_to a) j (get L s (turns L s F a X))
    stage_column zero h = stage_as (λ b. j) (up_to 0) j (get L s X) (λ b k. sym (rw (le-ltb b 0 (omega arith)))) t
    stage_column (suc a) h =
        let Z = turns L s F a X in let z = stage_column a (omega arith) in let ha : a < s.n = omega arith in
        stage_turn L (up_to a) (up_to (suc a)) j a j Z (length-turns L s F X a ∙ l) z ha hj (was_j a ha Z z) (rw (lt-ltb a (suc a) (omega arith))) (others_same a) D hd refl
        (get L s Z (due a D) +ℤ difference_of (get L s X (product_kind j)) (get L s Z (lots a j)) (get L s Z (book a j)) (figure_at prices j) (figure_at prices (nat_abs (get L s X (quote j)))))
        (get L s Z (margin a) +ℤ pos (margin_at (get L s Z (lots a j)) (single_of prices rates8 rates104 (get L s X) j)))
        (get L s Z (lots a j) *ℤ figure_at prices j)
        (due-more a ha Z z) (margin-more a ha Z z) (ap (λ y. y *ℤ figure_at prices j) (lots-same a ha Z z))

    abbrev columned : List ℤ
    columned = turns L s F s.n X

    all_done : Stage (λ b. suc j) j (get L s columned)
    all_done = stage_as (up_to s.n) (λ b. suc j) j (get L s columned) (λ b h. rw (lt-ltb b s.n h)) (stage_column s.n (omega arith))

    column-long : length columned ≡ words_of s
    column-long = length-turns L s F X s.n ∙ l

    priced : (q : Place) → Has s q → q ≢ price j → get L s (put L s columned (price j) (figure_at prices j)) q ≡ get L s columned q
    priced q hq ne = get-put-other L s columned (price j) q (figure_at prices j) (hj, omega arith) hq ne

    price-at : (i : ℕ) → i < suc j → i < s.p → Dec (i ≡ j) → get L s (put L s columned (price j) (figure_at prices j)) (price i) ≡ figure_at prices i
    price-at i h m (yes q) =
        subst (λ k. get L s (put L s columned (price j) (figure_at prices j)) (price k) ≡ figure_at prices k) (sym q)
        (get-put-same L s columned (price j) (figure_at prices j) column-long (hj, omega arith))
    price-at i h m (no q) =
        let k : i < j = native.Mathlib.Nat.lt_of_not-le (λ y. q (omega arith)) in
        priced (price i) (m, omega arith) (λ e. let y : i ≡ j = cc in q y) ∙ all_done.price_new i k m

    stage_product : Stage (λ b. suc j) (suc j) (get L s (product_walked L s prices rates8 rates104 lags j X))
    stage_product =
        record {
          kept = λ q hq c. unseen L s close_keeps ((price j ≔ figure_at prices j) ∷ []) (((hj, omega arith), refl), tt) columned q hq c ∙ all_done.kept q hq c;
          price_new = λ i h m. price-at i h m (ℕ_discrete i j);
          margin_is = λ b h. priced (margin b) (h, omega arith) (λ e. let y : ◌≡◌ {A = ℕ} 0 1 = cc in omega arith) ∙ all_done.margin_is b h;
          due_is = λ b d h m. priced (due b d) (h, omega arith) (λ e. let y : ◌≡◌ {A = ℕ} 0 1 = cc in omega arith) ∙ all_done.due_is b d h m;
          book_new = λ b i h m o. priced (book b i) (h, m, omega arith) (λ e. let y : ◌≡◌ {A = ℕ} 0 1 = cc in omega arith) ∙ all_done.book_new b i h m o;
          book_old = λ b i h m o. priced (book b i) (h, m, omega arith) (λ e. let y : ◌≡◌ {A = ℕ} 0 1 = cc in omega arith) ∙ all_done.book_old b i h m o;
        }

  -- ---- one product after another

  module _ (L : Layout) (names : (j : ℕ) → j < s.p → nat_abs (figure_at lags j) < dues) (X : List ℤ) (l : length X ≡ words_of s) (t : Stage (λ b. 0) 0 (get L s X)) where
    pub length-walked : (j : ℕ) → length (walked L s prices rates8 rates104 lags j X) ≡ words_of s
    length-walked zero = l
    length-walked (suc j) =
        let Z = walked L s prices rates8 rates104 lags j X in let F = product_puts L s prices rates8 rates104 lags j (get L s Z) in
        length-set (turns L s F s.n Z) (L.at s (price j)) (figure_at prices j) ∙ length-turns L s F Z s.n ∙ length-walked j

    pub stage_walked : (j : ℕ) → j ≤ s.p → Stage (λ b. j) j (get L s (walked L s prices rates8 rates104 lags j X))
    stage_walked zero h = t
    stage_walked (suc j) h = stage_product L j (omega arith) (names j (omega arith)) (walked L s prices rates8 rates104 lags j X) (length-walked j) (stage_walked j (omega arith))

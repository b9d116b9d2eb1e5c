-- The walk of a close as a whole: what it may rely on at each product, what the accounts' start leaves, and that the words at its end are those of `Close`
-- (`walked-is`). Assumes nothing.
use Rattle.std.proofs.Math.Path.{◌≡◌}
use Rattle.std.specs.Prelude.{refl, ◌≢◌, Bool, true, false, List, [], ◌∷◌, ℕ, ◌+◌, ◌≤◌, ◌<◌, ℤ, nat_abs, length}
use Rattle.std.proofs.Common.{sym, ◌∙◌, length-set, le-ltb, ne_eqb}
use native.Mathlib.Omega.{arith}
use Rattle.std.proofs.Math.IntN.{pos, +ℤ_idr}
use Rattle.whole.specs.Counting.{figure_at}
use Rattle.rules.specs.ProductLaws.{Fair}
use Rattle.places.specs.declared.Shape.{Shape}
use Rattle.places.specs.Act.{most_products}
use Rattle.places.specs.Place.{Place, head, prod, acct, held, Has, View, Layout, Put, ◌≔◌, get, put, puts, each, dues, first_due, words_of, product_fields, product_kind, principal, quote, price, phase, margin, due, lots, book}
use Rattle.places.specs.PlaceLaws.{Each, each_append, each-each, get-put-same, get-put-other, length-puts, words_same}
use Rattle.places.specs.Passes.{Agree, Off, unseen, Elsewhere, leaves_put, leaves_later, leaves_after, leaves_each}
use Rattle.daily.specs.DailyFigures.{next_due, new_due, new_margin}
use Rattle.daily.specs.Ranges.{Named, Row, Rates, EveryDueIn, Ready, fair, part_in, charges_in, next_in}
use Rattle.closing.specs.Close.{close_puts}
use Rattle.closing.specs.Written.{account_sees}
use Rattle.closing.specs.Walk.{move_puts, start_puts, position_puts, walked}
use Rattle.closing.specs.After.{close_keeps, After, after, after_same}
use Rattle.closing.specs.Stages.{Stage, stage_walked, length-walked}

-- ---- what the walk may rely on: at its beginning, and at each product

-- a due and the margin of the account a have room for what a position adds
pub record Roomy (g : View) (a d : ℕ) : Type 0 where
  pub due_in : nat_abs (g (due a d)) ≤ 1480000000000000
  pub margin_in : nat_abs (g (margin a)) ≤ 8000000000000

-- the positions in the product j
pub record Column (prices lags : List ℤ) (s : Shape) (g : View) (j : ℕ) : Type 0 where
  pub fair : (a : ℕ) → a < s.n → Fair (g (product_kind j)) (g (lots a j)) (g (book a j)) (figure_at prices j) (figure_at prices (nat_abs (g (quote j))))
  pub roomy : (a : ℕ) → a < s.n → Roomy g a (nat_abs (figure_at lags j))

-- the accounts have started: dues moved down, margins 0
pub record Started (prices : List ℤ) (s : Shape) (g : View) : Type 0 where
  pub named : Named prices s g
  pub row : (a : ℕ) → a < s.n → Row prices s g a
  pub dues_in : EveryDueIn s g
  pub margin_none : (a : ℕ) → a < s.n → g (margin a) ≡ pos 0

-- what the products name is known of any view that says the same of their kinds, principals and quotes
named_as : (prices : List ℤ) (s : Shape) (g g' : View) → ((i : ℕ) → i < s.p → g' (product_kind i) ≡ g (product_kind i)) → ((i : ℕ) → i < s.p → g' (principal i) ≡ g (principal i))
    → ((i : ℕ) → i < s.p → g' (quote i) ≡ g (quote i)) → Named prices s g → Named prices s g'
named_as prices s g g' kinds principals quotes n =
    record {
      priced = n.priced;
      quote_in = λ i h. rw (quotes i h) (n.quote_in i h);
      yen_in = λ i h. rw (kinds i h, principals i h) (n.yen_in i h);
      yen_price = λ i h. rw (kinds i h, principals i h) (n.yen_price i h);
    }

module _ (prices rates8 rates104 lags : List ℤ) (s : Shape) (g : View) (few : s.p ≤ most_products) (r : Started prices s g) (rates : Rates s.p rates8 rates104) where
  pub stage_none : Stage prices rates8 rates104 lags s g (λ b d. g (due b d)) (λ b. 0) 0 g
  stage_none =
      record {
        kept = λ q hq c. refl;
        price_new = λ i h. absurd (omega arith);
        margin_is = r.margin_none;
        due_is = λ b d h l. sym (+ℤ_idr (g (due b d)));
        book_new = λ b i h m o. absurd (omega arith);
        book_old = λ b i h m o. refl;
      }

  module _ (names : (j : ℕ) → j < s.p → nat_abs (figure_at lags j) < dues) (j : ℕ) (hj : j < s.p) (g' : View) (t : Stage prices rates8 rates104 lags s g (λ b d. g (due b d)) (λ b. j) j g') where
    word : (i f : ℕ) → i < s.p → f < product_fields → close_keeps (prod i f) ≡ true → g' (prod i f) ≡ g (prod i f)
    word i f h k c = t.kept (prod i f) (h, k) c

    pub named_then : Named prices s g'
    named_then =
        named_as prices s g g' (λ i h. word i 0 h (omega arith) refl) (λ i h. word i 3 h (omega arith) refl) (λ i h. word i 4 h (omega arith) refl) r.named

    pub column_then : Column prices lags s g' j
    column_then =
        record {
          fair = λ a h. rw (word j 0 hj (omega arith) refl, t.kept (lots a j) (h, hj, omega arith) refl, t.book_old a j h hj (omega arith), word j 4 hj (omega arith) refl) (fair prices s g a (r.row a h) j hj);
          roomy = λ a h.
              let d = nat_abs (figure_at lags j) in
              record {
                due_in = rw (t.due_is a d h (names j hj)) (part_in prices s g a (r.row a h) lags d j (g (due a d)) few (omega arith) ((r.dues_in.at a h).at d (names j hj)));
                margin_in = rw (t.margin_is a h) (omega (arith, charges_in prices rates8 rates104 s g a r.named (r.row a h) rates j (omega arith)));
              };
        }

-- an account's turn puts nothing that another account, or a product, has
pub turn_off : (s : Shape) (kind price quoted : ℤ) (single d j : ℕ) → d < dues → j < s.p → (a b : ℕ) → b < s.n → a ≢ b → (g : View)
    → Off s (account_sees a) (position_puts kind price quoted single d j g b)
turn_off s kind price quoted single d j hd hj a b h ne g =
    let n = ne_eqb a b ne in
    (((h, omega arith), n), (((h, omega arith), n), (((h, hj, omega arith), n), tt)))

-- ---- the accounts start

module _ (L : Layout) (prices rates8 rates104 lags : List ℤ) (s : Shape) (W : List ℤ) (l : length W ≡ words_of s) where
  abbrev g₀ : View
  g₀ = get L s W

  abbrev started : List Put
  started = each s.n (start_puts g₀)

  -- the places that an account's start puts
  start_at : (P : Place → Type 0) (a : ℕ) → P (margin a) → ((d : ℕ) → d < dues → P (due a d)) → Each P (start_puts g₀ a)
  start_at P a m x = each_append P (each dues (move_puts g₀ a)) ((margin a ≔ pos 0) ∷ []) (each-each P dues (move_puts g₀ a) (λ d h. (x d h, tt))) (m, tt)

  started_off : Off s close_keeps started
  started_off =
      let P : Place → Type 0 = λ q. Has s q × (close_keeps q ≡ false) in
      each-each P s.n (start_puts g₀) (λ a h. start_at P a ((h, omega arith), refl) (λ d k. ((h, omega arith), le-ltb (first_due + d) 4 (omega arith))))

  -- another account's start is elsewhere
  other-account : (a f : ℕ) (hq : Has s (acct a f)) (v : ℤ) (b : ℕ) → b < s.n → a < b → Elsewhere L s (acct a f) hq v (start_puts g₀ b)
  other-account a f hq v b h k =
      start_at (λ r. Has s r × (acct a f ≢ r)) b ((h, omega arith), λ e. let y : a ≡ b = cc in omega arith) (λ d m. ((h, omega arith), λ e. let y : a ≡ b = cc in omega arith))

  started-margin : (a : ℕ) → a < s.n → get L s (puts L s W started) (margin a) ≡ pos 0
  started-margin a h =
      let q = margin a in let hq : Has s (margin a) = (h, omega arith) in
      leaves_each L s q hq (pos 0) s.n (start_puts g₀) a h
      (leaves_after L s q hq (pos 0) (each dues (move_puts g₀ a)) ((margin a ≔ pos 0) ∷ []) (leaves_put L s q hq (pos 0)))
      (other-account a 4 hq (pos 0)) W l

  started-due : (a d : ℕ) → a < s.n → d < dues → get L s (puts L s W started) (due a d) ≡ next_due g₀ a d
  started-due a d h k =
      let q = due a d in let hq : Has s (due a d) = (h, omega arith) in let v = next_due g₀ a d in
      leaves_each L s q hq v s.n (start_puts g₀) a h
      (leaves_later L s q hq v (each dues (move_puts g₀ a)) ((margin a ≔ pos 0) ∷ [])
      (leaves_each L s q hq v dues (move_puts g₀ a) d k (leaves_put L s q hq v) (λ m b c. (((h, omega arith), λ e. let y : first_due + d ≡ first_due + m = cc in omega arith), tt)))
      (((h, omega arith), λ e. let y : first_due + d ≡ 4 = cc in omega arith), tt))
      (other-account a (first_due + d) hq v) W l

  -- every place but an account's own eight words is as it was
  abbrev not_records : Place → Bool
  not_records (head k) = true
  not_records (prod j f) = true
  not_records (acct a f) = false
  not_records (held a j f) = true

  started_else : Agree s not_records (get L s (puts L s W started)) g₀
  started_else =
      let P : Place → Type 0 = λ q. Has s q × (not_records q ≡ false) in
      unseen L s not_records started (each-each P s.n (start_puts g₀) (λ a h. start_at P a ((h, omega arith), refl) (λ d k. ((h, omega arith), refl)))) W

  stage_started : Stage prices rates8 rates104 lags s g₀ (next_due g₀) (λ b. 0) 0 (get L s (puts L s W started))
  stage_started =
      record {
        kept = unseen L s close_keeps started started_off W;
        price_new = λ i h. absurd (omega arith);
        margin_is = started-margin;
        due_is = λ b d h k. started-due b d h k ∙ sym (+ℤ_idr (next_due g₀ b d));
        book_new = λ b i h m o. absurd (omega arith);
        book_old = λ b i h m o. started_else (book b i) (h, m, omega arith) refl;
      }

  -- what the walk relies on
  pub started_ready : Ready prices s g₀ → Started prices s (get L s (puts L s W started))
  started_ready r =
      let g' = get L s (puts L s W started) in
      let word : (i f : ℕ) → i < s.p → f < product_fields → g' (prod i f) ≡ g₀ (prod i f) = λ i f h k. started_else (prod i f) (h, k) refl in
      record {
        named = named_as prices s g₀ g' (λ i h. word i 0 h (omega arith)) (λ i h. word i 3 h (omega arith)) (λ i h. word i 4 h (omega arith)) r.named;
        row = λ a h. record { at = λ j k. rw (word j 0 k (omega arith), started_else (lots a j) (h, k, omega arith) refl, started_else (book a j) (h, k, omega arith) refl, word j 4 k (omega arith)) ((r.row a h).at j k) };
        dues_in = record { at = λ a h. record { at = λ d k. rw (started-due a d h k) (next_in g₀ a d (r.dues_in.at a h)) } };
        margin_none = started-margin;
      }

  -- ---- the end

  module _ (names : (j : ℕ) → j < s.p → nat_abs (figure_at lags j) < dues) where
    abbrev X : List ℤ
    X = walked L s prices rates8 rates104 lags s.p (puts L s W started)

    started-long : length (puts L s W started) ≡ words_of s
    started-long = length-puts L s started W ∙ l

    X-long : length X ≡ words_of s
    X-long = length-walked prices rates8 rates104 lags s g₀ (next_due g₀) L names (puts L s W started) started-long stage_started s.p

    t : Stage prices rates8 rates104 lags s g₀ (next_due g₀) (λ b. s.p) s.p (get L s X)
    t = stage_walked prices rates8 rates104 lags s g₀ (next_due g₀) L names (puts L s W started) started-long stage_started s.p (omega arith)

    abbrev last : List ℤ
    last = put L s X phase (pos 0)

    past : (q : Place) → Has s q → q ≢ phase → get L s last q ≡ get L s X q
    past q hq ne = get-put-other L s X phase q (pos 0) (omega arith) hq ne

    made : After prices rates8 rates104 lags s g₀ (get L s last)
    unfolding new_due new_margin
    made =
        record {
          kept = λ q hq c. unseen L s close_keeps ((phase ≔ pos 0) ∷ []) ((omega arith, refl), tt) X q hq c ∙ t.kept q hq c;
          phase_new = get-put-same L s X phase (pos 0) X-long (omega arith);
          price_new = λ j h. past (price j) (h, omega arith) (λ e. let y : ◌≡◌ {A = ℕ} 0 1 = cc in omega arith) ∙ t.price_new j h h;
          margin_new = λ a h. past (margin a) (h, omega arith) (λ e. let y : ◌≡◌ {A = ℕ} 0 1 = cc in omega arith) ∙ t.margin_is a h;
          due_new = λ a d h k. past (due a d) (h, omega arith) (λ e. let y : ◌≡◌ {A = ℕ} 0 1 = cc in omega arith) ∙ t.due_is a d h k;
          book_new = λ a j h k. past (book a j) (h, k, omega arith) (λ e. let y : ◌≡◌ {A = ℕ} 0 1 = cc in omega arith) ∙ t.book_new a j h k k;
        }

    -- THE LAW: the words made product by product are those of the close
    pub walked-is : last ≡ puts L s W (close_puts prices rates8 rates104 lags s g₀)
    walked-is =
        words_same L s last (puts L s W (close_puts prices rates8 rates104 lags s g₀))
        (length-set X (L.at s phase) (pos 0) ∙ X-long) (length-puts L s (close_puts prices rates8 rates104 lags s g₀) W ∙ l)
        (after_same prices rates8 rates104 lags s g₀ (get L s last) (get L s (puts L s W (close_puts prices rates8 rates104 lags s g₀))) made (after L prices rates8 rates104 lags s W l))

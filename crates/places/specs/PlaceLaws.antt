-- The laws of places: what is read after puts, in which order puts may be made, and that a pass is one list of puts. Proved from a
-- layout's laws alone. Assumes nothing.
use Rattle.std.specs.Prelude.{◌≡◌, refl, ◌≢◌, List, [], ◌∷◌, ◌++◌, ℕ, zero, suc, ◌+◌, ◌-◌, ◌<◌, ◌≤◌, ℤ, pos, length, get_or, set}
use Rattle.std.proofs.Common.{sym, ap, ap₂, subst, ◌∙◌, lt_of_not-le, arith, length-set, get_or-set_same, get_or-set_other, ext_get_or}
use Rattle.std.proofs.lemmas.List.{set_comm}
use Rattle.places.specs.declared.Shape.{Shape}
use Rattle.places.specs.Act.{most_accounts, most_products}
use Rattle.places.specs.Place.{Place, head, prod, acct, held, heads, product_fields, fields, Has, words_of, Layout, Put, get, put, puts, each}

-- a list of as many words as a ledger of this shape has, with the paper's bounds on the counts
pub record Sized (s : Shape) (W : List ℤ) : Type 0 where
  pub few : s.n ≤ most_accounts
  pub few' : s.p ≤ most_products
  pub sized : length W ≡ words_of s

-- words of the same length are sized alike
pub sized_as : {s : Shape} {W W' : List ℤ} → Sized s W → length W' ≡ length W → Sized s W'
sized_as z e = record { few = z.few; few' = z.few'; sized = e ∙ z.sized }

-- a place that is not one of the head's
abbrev pub Behind : Place → Type 0
Behind (head k) = ⊥
Behind (prod j f) = Unit {0}
Behind (acct a f) = Unit {0}
Behind (held a j f) = Unit {0}

module _ (L : Layout) (s : Shape) where
  pub get-put-same : (W : List ℤ) (q : Place) (v : ℤ) → length W ≡ words_of s → Has s q → get L s (put L s W q v) q ≡ v
  get-put-same W q v e h = get_or-set_same W (L.at s q) v (pos 0) (rw e (L.inside s q h))

  apart : (q r : Place) → Has s q → Has s r → q ≢ r → L.at s q ≢ L.at s r
  apart q r hq hr ne e = ne (L.same s q r hq hr e)

  pub get-put-other : (W : List ℤ) (q r : Place) (v : ℤ) → Has s q → Has s r → r ≢ q → get L s (put L s W q v) r ≡ get L s W r
  get-put-other W q r v hq hr ne = get_or-set_other W (L.at s q) (L.at s r) v (pos 0) (apart r q hr hq ne)

  pub put_comm : (W : List ℤ) (q r : Place) (v w : ℤ) → Has s q → Has s r → q ≢ r → put L s (put L s W q v) r w ≡ put L s (put L s W r w) q v
  put_comm W q r v w hq hr ne = set_comm W (L.at s q) (L.at s r) v w (apart q r hq hr ne)

  pub length-puts : (us : List Put) (W : List ℤ) → length (puts L s W us) ≡ length W
  length-puts [] W = refl
  length-puts (u ∷ us) W = length-puts us (put L s W u.place u.word) ∙ length-set W (L.at s u.place) u.word

  pub puts-append : (us vs : List Put) (W : List ℤ) → puts L s W (us ++ vs) ≡ puts L s (puts L s W us) vs
  puts-append [] vs W = refl
  puts-append (u ∷ us) vs W = puts-append us vs (put L s W u.place u.word)

  -- words that say the same at every place are the same words
  pub words_same : (X Y : List ℤ) → length X ≡ words_of s → length Y ≡ words_of s → ((q : Place) → Has s q → get L s X q ≡ get L s Y q) → X ≡ Y
  words_same X Y x y e =
      ext_get_or (pos 0) X Y (x ∙ sym y) (λ i l.
      let r = L.reached s i (rw x at l) in
      subst (λ k. get_or X k (pos 0) ≡ get_or Y k (pos 0)) r.1 (e (L.which s i) r.0))

  -- which stands behind the head's words
  pub past_head : (q : Place) → Has s q → Behind q → heads ≤ L.at s q
  past_head q h b =
      let i = L.at s q in
      let j : heads < suc i = lt_of_not-le (λ l. subst Behind (L.same s q (head i) h l (sym (L.first s i))) b) in
      omega arith

  -- the words of a product, and those of an account before its positions, are words of the list
  pub product_inside : (j : ℕ) → j < s.p → L.at s (prod j 0) + product_fields ≤ words_of s
  product_inside j h = let last = product_fields - 1 in omega (arith, L.product_row s j last, L.inside s (prod j last) (h, omega arith))

  pub account-inside : (a : ℕ) → a < s.n → L.at s (acct a 0) + fields ≤ words_of s
  account-inside a h = let last = fields - 1 in omega (arith, L.row s a last, L.inside s (acct a last) (h, omega arith))

  -- a word of the head that the code comes by as a number, as a place
  pub head-word : (W : List ℤ) (k : ℕ) → get_or W k (pos 0) ≡ get L s W (head k)
  head-word W k = ap (λ i. get_or W i (pos 0)) (sym (L.first s k))

  pub head-put : (W : List ℤ) (k : ℕ) (v : ℤ) → set W k v ≡ put L s W (head k) v
  head-put W k v = ap (λ i. set W i v) (sym (L.first s k))

-- words of the account a that the code comes by from where its record begins
module _ (L : Layout) (s : Shape) (W : List ℤ) (a r : ℕ) (e : r ≡ L.at s (acct a 0)) where
  pub row_at : (f : ℕ) → r + f ≡ L.at s (acct a f)
  row_at f = ap (λ i. i + f) e ∙ sym (L.row s a f)

  pub row_word : (f : ℕ) → get_or W (r + f) (pos 0) ≡ get L s W (acct a f)
  row_word f = ap (λ i. get_or W i (pos 0)) (row_at f)

  pub row_inside : (f : ℕ) → length W ≡ words_of s → a < s.n → f < fields → r + f < length W
  row_inside f l h k = rw (row_at f, l) (L.inside s (acct a f) (h, k))

-- ---- lists of puts

-- every put of a list stands at a place of P
abbrev pub Each : (Place → Type 0) → List Put → Type 0
Each P [] = Unit {0}
Each P (u ∷ us) = P u.place × Each P us

pub each_map : (P Q : Place → Type 0) → ((q : Place) → P q → Q q) → (us : List Put) → Each P us → Each Q us
each_map P Q f [] h = tt
each_map P Q f (u ∷ us) h = (f u.place h.0, each_map P Q f us h.1)

pub each_append : (P : Place → Type 0) (us vs : List Put) → Each P us → Each P vs → Each P (us ++ vs)
each_append P [] vs h k = k
each_append P (u ∷ us) vs h k = (h.0, each_append P us vs h.1 k)

pub each-each : (P : Place → Type 0) (k : ℕ) (f : ℕ → List Put) → ((i : ℕ) → i < k → Each P (f i)) → Each P (each k f)
each-each P zero f h = tt
each-each P (suc k) f h = each_append P (each k f) (f k) (each-each P k f (λ i l. h i (omega arith))) (h k (omega arith))

pub each_same : (k : ℕ) (f h : ℕ → List Put) → ((i : ℕ) → i < k → f i ≡ h i) → each k f ≡ each k h
each_same zero f h e = refl
each_same (suc k) f h e = ap₂ ◌++◌ (each_same k f h (λ i l. e i (omega arith))) (e k (omega arith))

-- puts at places of the shape that all differ from r leave r as it was
pub get-puts : (L : Layout) (s : Shape) (r : Place) → Has s r → (us : List Put) → Each (λ q. Has s q × (r ≢ q)) us → (W : List ℤ) → get L s (puts L s W us) r ≡ get L s W r
get-puts L s r hr [] h W = refl
get-puts L s r hr (u ∷ us) h W = get-puts L s r hr us h.1 (put L s W u.place u.word) ∙ get-put-other L s W u.place r u.word h.0.0 hr h.0.1

-- a put past puts, and puts past puts
put-puts : (L : Layout) (s : Shape) (r : Place) (v : ℤ) → Has s r → (us : List Put) → Each (λ q. Has s q × (r ≢ q)) us → (W : List ℤ)
    → puts L s (put L s W r v) us ≡ put L s (puts L s W us) r v
put-puts L s r v hr [] h W = refl
put-puts L s r v hr (u ∷ us) h W =
    ap (λ X. puts L s X us) (put_comm L s W r u.place v u.word hr h.0.0 h.0.1) ∙ put-puts L s r v hr us h.1 (put L s W u.place u.word)

pub puts_comm : (L : Layout) (s : Shape) (us vs : List Put) → Each (λ r. Has s r × Each (λ q. Has s q × (r ≢ q)) vs) us → (W : List ℤ)
    → puts L s (puts L s W us) vs ≡ puts L s (puts L s W vs) us
puts_comm L s [] vs h W = refl
puts_comm L s (u ∷ us) vs h W =
    puts_comm L s us vs h.1 (put L s W u.place u.word) ∙ ap (λ X. puts L s X us) (put-puts L s u.place u.word h.0.0 vs h.0.1 W)

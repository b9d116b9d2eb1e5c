-- Places: names for a ledger's words (01, "The ledger's words"). A rule reads a ledger through its places, and answers with a reply and a
-- list of puts, each a place and its new word. A layout says which word of the list a place is; no rule knows the layout.
-- What a reader believes; the laws are in `PlaceLaws`.
use Rattle.std.specs.Prelude.{◌≡◌, List, [], ◌∷◌, ◌++◌, ℕ, zero, suc, ◌+◌, ◌*◌, ◌<◌, ℤ, pos, get_or, set}
use Rattle.places.specs.declared.Shape.{Shape}

-- A word of the head; a word of the product j; a word of the account a before its positions; a word of the account a's position in the
-- product j. How many accounts n and products p a ledger has is its `Shape`.
pub data Place : Type 0 where
  head : ℕ → Place
  prod : ℕ → ℕ → Place
  acct : ℕ → ℕ → Place
  held : ℕ → ℕ → ℕ → Place

-- ---- the widths: words before the products, of a product, of an account before its positions, of a position
abbrev pub heads : ℕ
heads = 4

abbrev pub product_fields : ℕ
product_fields = 5

abbrev pub dues : ℕ
dues = 3

abbrev pub first_due : ℕ
first_due = 5

abbrev pub fields : ℕ
fields = first_due + dues

abbrev pub held_fields : ℕ
held_fields = 2

-- ---- the names that the rules use
abbrev pub accounts : Place
accounts = head 0

abbrev pub products : Place
products = head 1

abbrev pub phase : Place
phase = head 2

abbrev pub house : Place
house = head 3

abbrev pub product_kind : ℕ → Place
product_kind j = prod j 0

abbrev pub floor_mark : ℕ → Place
floor_mark j = prod j 1

abbrev pub price : ℕ → Place
price j = prod j 2

abbrev pub principal : ℕ → Place
principal j = prod j 3

abbrev pub quote : ℕ → Place
quote j = prod j 4

abbrev pub kind : ℕ → Place
kind a = acct a 0

abbrev pub cash : ℕ → Place
cash a = acct a 1

abbrev pub guarantee : ℕ → Place
guarantee a = acct a 2

abbrev pub cap : ℕ → Place
cap a = acct a 3

abbrev pub margin : ℕ → Place
margin a = acct a 4

abbrev pub due : ℕ → ℕ → Place
due a d = acct a (first_due + d)

abbrev pub lots : ℕ → ℕ → Place
lots a j = held a j 0

abbrev pub book : ℕ → ℕ → Place
book a j = held a j 1

-- the places that a ledger of this shape has
abbrev pub Has : Shape → Place → Type 0
Has s (head k) = k < heads
Has s (prod j f) = (j < s.p) × (f < product_fields)
Has s (acct a f) = (a < s.n) × (f < fields)
Has s (held a j f) = (a < s.n) × (j < s.p) × (f < held_fields)

-- the words of a ledger of this shape
abbrev pub words_of : Shape → ℕ
words_of s = heads + product_fields * s.p + s.n * (fields + held_fields * s.p)

-- A layout gives each place of a shape a word of its own, and has no other words. In each the head's words stand first, and a product's words and an
-- account's in a row.
pub record Layout : Type 0 where
  pub at : Shape → Place → ℕ
  pub first : (s : Shape) (k : ℕ) → at s (head k) ≡ k
  pub product_row : (s : Shape) (j f : ℕ) → at s (prod j f) ≡ at s (prod j 0) + f
  pub row : (s : Shape) (a f : ℕ) → at s (acct a f) ≡ at s (acct a 0) + f
  pub inside : (s : Shape) (q : Place) → Has s q → at s q < words_of s
  pub same : (s : Shape) (q r : Place) → Has s q → Has s r → at s q ≡ at s r → q ≡ r
  pub which : Shape → ℕ → Place
  pub reached : (s : Shape) (i : ℕ) → i < words_of s → Has s (which s i) × (at s (which s i) ≡ i)

-- what a ledger says at each place
abbrev pub View : Type 0
View = Place → ℤ

pub record Put : Type 0 where
  pub place : Place
  pub word : ℤ

infix 5 ◌≔◌
abbrev pub ◌≔◌ : Place → ℤ → Put
q ≔ v = record { place = q; word = v }

-- what stands at a place of the words W, and the words with v there; all puts of a list, one after another
module _ (L : Layout) (s : Shape) where
  abbrev pub get : List ℤ → View
  get W q = get_or W (L.at s q) (pos 0)

  abbrev pub put : List ℤ → Place → ℤ → List ℤ
  put W q v = set W (L.at s q) v

  abbrev pub puts : List ℤ → List Put → List ℤ
  puts W [] = W
  puts W (u ∷ us) = puts (put W u.place u.word) us

-- f 0, then f 1, .. then f (k - 1): the puts of a pass over accounts, products or dues
abbrev pub each : ℕ → (ℕ → List Put) → List Put
each zero f = []
each (suc i) f = each i f ++ f i

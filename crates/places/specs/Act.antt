-- Rules and acts. A rule reads what stands at the places and answers an act: an answer, and puts. It names no layout. To perform a
-- rule on a list of words is to refuse a list that is not sound, and else to do its act. What is sound beyond the list's shape is
-- the test `ok`, the ledger's own. What a reader believes; the laws are in `ActLaws`.
use Rattle.std.specs.Prelude.{List, Bool, cond, ◌&&◌, ℕ, ◌*◌, ltb, eqb, ℤ, pos, nat_abs, length, get_or}
use Rattle.whole.specs.Number.{between, unless}
use Rattle.places.specs.declared.Shape.{Shape}
use Rattle.places.specs.Place.{words_of, View, Layout, Put, get, puts}

-- ---- a list of words that is a ledger

-- a count that the words state: 1 to b, or 0 for none
abbrev pub stated_count : ℕ → ℤ → ℕ
stated_count b z = cond (between (pos 1) (pos b) z) (nat_abs z) 0

-- accounts n 1..64, products p 1..16
abbrev pub most_accounts : ℕ
most_accounts = 64

abbrev pub most_products : ℕ
most_products = 16

-- the words and the positions of the largest ledger
abbrev pub most_words : ℕ
most_words = words_of (record { n = most_accounts; p = most_products })

abbrev pub most_held : ℕ
most_held = most_accounts * most_products

abbrev pub shape_of : List ℤ → Shape
shape_of W = record { n = stated_count most_accounts (get_or W 0 (pos 0)); p = stated_count most_products (get_or W 1 (pos 0)) }

abbrev pub shape_ok : List ℤ → Shape → Bool
shape_ok W s = ltb 0 s.n && ltb 0 s.p && eqb (length W) (words_of s)

-- the test of a ledger's places
abbrev pub Test : Type 0
Test = Shape → View → Bool

unfoldable pub sound_by : Test → Layout → List ℤ → Bool
sound_by ok L W = shape_ok W (shape_of W) && ok (shape_of W) (get L (shape_of W) W)

-- ---- rules

-- an answer, of whatever type a call has, and what is put
pub record Act (A : Type 0) : Type 0 where
  pub answer : A
  pub puts : List Put

abbrev pub Rule : Type 0 → Type 0
Rule A = Shape → View → Act A

abbrev pub finish : {A : Type 0} → Layout → Shape → List ℤ → Act A → A × List ℤ
finish L s W o = (o.answer, puts L s W o.puts)

-- a rule on a list of words, with its refusal of a list that is not sound
unfoldable pub perform_by : {A : Type 0} → Test → Act A → Layout → List ℤ → Rule A → A × List ℤ
perform_by ok refusal L W r = finish L (shape_of W) W (unless (sound_by ok L W) refusal (r (shape_of W) (get L (shape_of W) W)))

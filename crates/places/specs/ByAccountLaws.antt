-- The laws of the layout by account: an account's words stand in a row, each place of a shape has a word inside the list, no two places share one, and
-- there is no word without a place. Assumes nothing.
use Rattle.std.specs.Prelude.{◌≡◌, refl, Bool, true, false, cond, ℕ, ◌+◌, ◌-◌, ◌*◌, ◌/◌, ◌%◌, ◌<◌, ◌≤◌, ltb}
use Rattle.std.proofs.Common.{sym, ap, ◌∙◌, mul-le-mul, div-add-mod', mod-lt, lt_of_mul-lt-mul_right, arith, ltb-true, ltb-false}
use Rattle.std.proofs.Math.Arith.{digits_lt, digits_div, digits_mod}
use Rattle.places.specs.declared.Shape.{Shape}
use Rattle.places.specs.Place.{Place, heads, product_fields, fields, held_fields, head, prod, acct, held, Has, words_of}
use Rattle.places.specs.Act.{most_accounts, most_products, most_words}
use Rattle.places.specs.ByAccountWords.{record_size, record_at, at}

-- a product's words in a row, and an account's
pub product_row : (s : Shape) (j f : ℕ) → at s (prod j f) ≡ at s (prod j 0) + f
product_row s j f = omega arith

pub row : (s : Shape) (a f : ℕ) → at s (acct a f) ≡ at s (acct a 0) + f
row s a f = omega arith

-- a record's word and another's: the same record, and the same word of it
pub same_digits : (b m a f a' f' : ℕ) → f < m → f' < m → b + a * m + f ≡ b + a' * m + f' → (a ≡ a') × (f ≡ f')
same_digits b m a f a' f' h h' e =
    let d : a * m + f ≡ a' * m + f' = omega arith in
    (sym (digits_div a h) ∙ ap (λ x. x / m) d ∙ digits_div a' h', sym (digits_mod a h) ∙ ap (λ x. x % m) d ∙ digits_mod a' h')

-- the records of a ledger within the paper's bounds, and its words
pub records_most : (p a : ℕ) → a ≤ most_accounts → p ≤ most_products → a * record_size p ≤ most_accounts * record_size most_products
records_most p a h k = let i : record_size p ≤ record_size most_products = omega arith in mul-le-mul h i

pub words-most : (s : Shape) → s.n ≤ most_accounts → s.p ≤ most_products → words_of s ≤ most_words
words-most s h k = omega (arith, records_most s.p s.n h k)

pub record_inside : (p n a f : ℕ) → a < n → f < record_size p → record_at p a + f < heads + product_fields * p + n * record_size p
record_inside p n a f h k = omega (arith, digits_lt {q = a} {m = n} {r = f} {c = record_size p} h k)

pub inside : (s : Shape) (q : Place) → Has s q → at s q < words_of s
inside s (head k) h = omega arith
inside s (prod j f) h = omega arith
inside s (acct a f) h = record_inside s.p s.n a f h.0 (omega arith)
inside s (held a j f) h = record_inside s.p s.n a (fields + held_fields * j + f) h.0 (omega arith)

pub same : (s : Shape) (q r : Place) → Has s q → Has s r → at s q ≡ at s r → q ≡ r
same s (head k) (head l) h h' e = ap head e
same s (head k) (prod j f) h h' e = absurd (omega arith)
same s (head k) (acct a f) h h' e = absurd (omega arith)
same s (head k) (held a j f) h h' e = absurd (omega arith)
same s (prod j f) (head k) h h' e = absurd (omega arith)
same s (prod j f) (prod j' f') h h' e =
    let i : j ≡ j' = omega arith in let k : f ≡ f' = omega arith in cc
same s (prod j f) (acct a g) h h' e = absurd (omega arith)
same s (prod j f) (held a i g) h h' e = absurd (omega arith)
same s (acct a f) (head k) h h' e = absurd (omega arith)
same s (acct a f) (prod j g) h h' e = absurd (omega arith)
same s (acct a f) (acct b g) h h' e =
    let d : (a ≡ b) × (f ≡ g) = same_digits (heads + product_fields * s.p) (record_size s.p) a f b g (omega arith) (omega arith) e in cc
same s (acct a f) (held b j g) h h' e =
    let d : (a ≡ b) × (f ≡ fields + held_fields * j + g) = same_digits (heads + product_fields * s.p) (record_size s.p) a f b (fields + held_fields * j + g) (omega arith) (omega arith) e in absurd (omega arith)
same s (held a i f) (head k) h h' e = absurd (omega arith)
same s (held a i f) (prod j g) h h' e = absurd (omega arith)
same s (held a i f) (acct b g) h h' e =
    let d : (a ≡ b) × (fields + held_fields * i + f ≡ g) = same_digits (heads + product_fields * s.p) (record_size s.p) a (fields + held_fields * i + f) b g (omega arith) (omega arith) e in absurd (omega arith)
same s (held a i f) (held b j g) h h' e =
    let d : (a ≡ b) × (fields + held_fields * i + f ≡ fields + held_fields * j + g) = same_digits (heads + product_fields * s.p) (record_size s.p) a (fields + held_fields * i + f) b (fields + held_fields * j + g) (omega arith) (omega arith) e in
    let y : i ≡ j = omega arith in let z : f ≡ g = omega arith in cc

-- ---- the place of a word

abbrev base : Shape → ℕ
base s = heads + product_fields * s.p

-- of the word t of the account a's record
abbrev in_record : ℕ → ℕ → Place
in_record a t = cond (ltb t fields) (acct a t) (held a ((t - fields) / held_fields) ((t - fields) % held_fields))

abbrev in_products : ℕ → Place
in_products i = prod ((i - heads) / product_fields) ((i - heads) % product_fields)

abbrev in_accounts : Shape → ℕ → Place
in_accounts s i = in_record ((i - base s) / record_size s.p) ((i - base s) % record_size s.p)

abbrev pub which : Shape → ℕ → Place
which s i = cond (ltb i heads) (head i) (cond (ltb i (base s)) (in_products i) (in_accounts s i))

abbrev Reached : Shape → ℕ → Place → Type 0
Reached s i q = Has s q × (at s q ≡ i)

record_reached : (s : Shape) (a t : ℕ) → a < s.n → t < record_size s.p → Reached s (record_at s.p a + t) (in_record a t)
record_reached s a t h k = go (ltb t fields) refl
  where
    go : (b : Bool) → ltb t fields ≡ b → Reached s (record_at s.p a + t) (cond b (acct a t) (held a ((t - fields) / held_fields) ((t - fields) % held_fields)))
    go true e = ((h, ltb-true t fields e), refl)
    go false e = let l = ltb-false t fields e in ((h, omega arith, omega arith), omega arith)

-- a word behind the products is one of an account's record
behind : (s : Shape) (i : ℕ) → base s ≤ i → i < words_of s → Reached s i (in_accounts s i)
behind s i h l =
    let m = record_size s.p in let r = i - base s in
    let e : r / m * m + r % m ≡ r = div-add-mod' r m in
    let k : r % m < m = mod-lt r (omega arith) in
    let inside : r / m < s.n = lt_of_mul-lt-mul_right m (omega arith) in
    let found = record_reached s (r / m) (r % m) inside k in
    (found.0, found.1 ∙ omega arith)

pub reached : (s : Shape) (i : ℕ) → i < words_of s → Reached s i (which s i)
reached s i h = first (ltb i heads) refl
  where
    second : (t : Bool) → ltb i (base s) ≡ t → heads ≤ i → Reached s i (cond t (in_products i) (in_accounts s i))
    second true e k = let l = ltb-true i (base s) e in ((omega arith, omega arith), omega arith)
    second false e k = behind s i (ltb-false i (base s) e) h

    first : (t : Bool) → ltb i heads ≡ t → Reached s i (cond t (head i) (cond (ltb i (base s)) (in_products i) (in_accounts s i)))
    first true e = (ltb-true i heads e, refl)
    first false e = second (ltb i (base s)) refl (ltb-false i heads e)

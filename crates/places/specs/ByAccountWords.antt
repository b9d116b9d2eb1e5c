-- The layout of 01, "The ledger's words": four words, five for each product, and for each account eight words and two for each product. Which word
-- of the list each place is. What a reader believes; the laws are in `ByAccountLaws`.
use Rattle.std.specs.Prelude.{ℕ, ◌+◌, ◌*◌}
use Rattle.places.specs.declared.Shape.{Shape}
use Rattle.places.specs.Place.{Place, heads, product_fields, fields, held_fields, head, prod, acct, held}

abbrev pub record_size : ℕ → ℕ
record_size p = fields + held_fields * p

abbrev pub record_at : ℕ → ℕ → ℕ
record_at p a = heads + product_fields * p + a * record_size p

abbrev pub at : Shape → Place → ℕ
at s (head k) = k
at s (prod j f) = heads + product_fields * j + f
at s (acct a f) = record_at s.p a + f
at s (held a j f) = record_at s.p a + (fields + held_fields * j + f)

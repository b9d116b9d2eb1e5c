-- The figures of a close (01, "The day", Close, and "The margin rules"): every new due, initial margin and book, computed from the ledger
-- before it and the four lists of the close: price, 8-week rate, 104-week rate and lag of each product.
use Rattle.std.specs.Prelude.{List, Bool, cond, ◌&&◌, ℕ, ◌+◌, ◌-◌, ltb, eqb, ℤ, pos, nat_abs, ◌+ℤ◌, ◌*ℤ◌, length}
use Rattle.whole.specs.Number.{between}
use Rattle.whole.specs.Counting.{sum, total, figure_at}
use Rattle.rules.specs.Sizes.{most_price, most_rate, most_gross}
use Rattle.rules.specs.Product.{rate_of, yen_product, margin_of, difference_of}
use Rattle.places.specs.declared.Shape.{Shape}
use Rattle.places.specs.Place.{View, dues, product_kind, floor_mark, quote, cash, due, lots, book}
use Rattle.soundness.specs.Sound.{product_at}

-- ---- the lists of a close: each has a word for each product; price in range by the product's kind, rates and lag in range

abbrev pub lengths_ok : List ℤ → List ℤ → List ℤ → List ℤ → ℕ → Bool
lengths_ok prices rates8 rates104 lags p = eqb (length prices) p && eqb (length rates8) p && eqb (length rates104) p && eqb (length lags) p

abbrev pub figure_ok : List ℤ → List ℤ → List ℤ → List ℤ → View → ℕ → Bool
figure_ok prices rates8 rates104 lags g j =
    between (pos 1) (pos (most_price (g (product_kind j)))) (figure_at prices j)
    && between (pos 1) (pos most_rate) (figure_at rates8 j) && between (pos 1) (pos most_rate) (figure_at rates104 j)
    && between (pos 0) (pos (dues - 1)) (figure_at lags j)

-- ---- the new dues of an account: due 0 becomes due 1, due 1 becomes due 2, due 2 becomes 0; each product's difference in yen is added to
-- the due its lag names

-- the difference of the account a's position in the product j, a cross's by the quote's new yen price
abbrev pub difference : List ℤ → View → ℕ → ℕ → ℤ
difference prices g a j = difference_of (g (product_kind j)) (g (lots a j)) (g (book a j)) (figure_at prices j) (figure_at prices (nat_abs (g (quote j))))

abbrev pub added_to : List ℤ → List ℤ → View → ℕ → ℕ → ℕ → ℤ
added_to prices lags g a d j = cond (eqb (nat_abs (figure_at lags j)) d) (difference prices g a j) (pos 0)

abbrev pub next_due : View → ℕ → ℕ → ℤ
next_due g a d = cond (ltb (d + 1) dues) (g (due a (d + 1))) (pos 0)

unfoldable pub new_due : List ℤ → List ℤ → Shape → View → ℕ → ℕ → ℤ
new_due prices lags s g a d = next_due g a d +ℤ sum s.p (added_to prices lags g a d)

-- gross after the close
abbrev pub new_gross : List ℤ → List ℤ → Shape → View → ℕ → ℕ
new_gross prices lags s g a = nat_abs (g (cash a)) + total dues (λ d. nat_abs (new_due prices lags s g a d))

abbrev pub over_gross : List ℤ → List ℤ → Shape → View → ℕ → Bool
over_gross prices lags s g a = ltb most_gross (new_gross prices lags s g a)

-- ---- the new initial margin: over the products, |lots| × Y × rate / 100,000, each rounded up, from the new prices and rates

abbrev pub charge : List ℤ → List ℤ → List ℤ → View → ℕ → ℕ → ℕ
charge prices rates8 rates104 g a j =
    margin_of (g (lots a j)) (figure_at prices (yen_product (product_at g j) j)) (rate_of (g (floor_mark j)) (figure_at rates8 j) (figure_at rates104 j))

unfoldable pub new_margin : List ℤ → List ℤ → List ℤ → Shape → View → ℕ → ℤ
new_margin prices rates8 rates104 s g a = pos (total s.p (charge prices rates8 rates104 g a))

-- ---- the new book: lots × price

abbrev pub new_book : List ℤ → View → ℕ → ℕ → ℤ
new_book prices g a j = g (lots a j) *ℤ figure_at prices j

-- The words of a close as they are made: dues moved down and margins at 0 in every account; then product by product, and in a product account by account, a
-- position's due, margin and book, each from the words as they stand; then the product's price. `WholeWalk` shows that this is the close of `Close`.
use Rattle.std.specs.Prelude.{List, [], ◌∷◌, ◌++◌, ℕ, zero, suc, ℤ, pos, nat_abs, ◌+ℤ◌, ◌*ℤ◌}
use Rattle.whole.specs.Counting.{figure_at}
use Rattle.rules.specs.Product.{difference_of}
use Rattle.rules.specs.ProductLaws.{margin_at}
use Rattle.places.specs.declared.Shape.{Shape}
use Rattle.places.specs.Place.{View, Layout, Put, ◌≔◌, get, put, each, dues, product_kind, quote, price, margin, due, lots, book}
use Rattle.places.specs.Passes.{turns}
use Rattle.daily.specs.DailyFigures.{next_due}
use Rattle.daily.specs.Once.{single_of}

-- ---- an account starts

abbrev pub move_puts : View → ℕ → ℕ → List Put
move_puts g a d = (due a d ≔ next_due g a d) ∷ []

abbrev pub start_puts : View → ℕ → List Put
start_puts g a = each dues (move_puts g a) ++ ((margin a ≔ pos 0) ∷ [])

-- ---- the account a's position in the product j, by what belongs to the product: its kind, its new price and its quote's, the margin of a lot, and the due
-- that its lag names

abbrev pub position_puts : ℤ → ℤ → ℤ → ℕ → ℕ → ℕ → View → ℕ → List Put
position_puts kind price quoted single d j g a =
    (due a d ≔ g (due a d) +ℤ difference_of kind (g (lots a j)) (g (book a j)) price quoted)
    ∷ (margin a ≔ g (margin a) +ℤ pos (margin_at (g (lots a j)) single))
    ∷ (book a j ≔ g (lots a j) *ℤ price)
    ∷ []

module _ (L : Layout) (s : Shape) (prices rates8 rates104 lags : List ℤ) where
  -- h is the view from which the product's own figures are taken
  abbrev pub product_puts : ℕ → View → View → ℕ → List Put
  product_puts j h =
      position_puts (h (product_kind j)) (figure_at prices j) (figure_at prices (nat_abs (h (quote j)))) (single_of prices rates8 rates104 h j) (nat_abs (figure_at lags j)) j

  abbrev pub product_walked : ℕ → List ℤ → List ℤ
  product_walked j W = put L s (turns L s (product_puts j (get L s W)) s.n W) (price j) (figure_at prices j)

  -- the first j products
  abbrev pub walked : ℕ → List ℤ → List ℤ
  walked zero W = W
  walked (suc j) W = product_walked j (walked j W)

-- What a close works out once a product, for every position in it: the margin of a lot. Margins by it are those of `DailyFigures`. Laws; assumes nothing.
use Rattle.std.specs.Prelude.{◌≡◌, List, ℕ, ◌≤◌, ◌<◌, ℤ}
use Rattle.whole.specs.Counting.{figure_at}
use Rattle.rules.specs.Product.{rate_of, yen_product}
use Rattle.rules.specs.ProductLaws.{lot_margin, most_lot_margin, margin_at, lot_margin_in, margin_by, rate_in}
use Rattle.places.specs.declared.Shape.{Shape}
use Rattle.places.specs.Place.{View, floor_mark, lots}
use Rattle.soundness.specs.Sound.{product_at}
use Rattle.daily.specs.DailyFigures.{charge}
use Rattle.daily.specs.Ranges.{Named, Rates}

-- the margin of a lot of the product j, before the division by 100,000
abbrev pub single_of : List ℤ → List ℤ → List ℤ → View → ℕ → ℕ
single_of prices rates8 rates104 g j =
    lot_margin (figure_at prices (yen_product (product_at g j) j)) (rate_of (g (floor_mark j)) (figure_at rates8 j) (figure_at rates104 j))

pub charge-once : (prices rates8 rates104 : List ℤ) (g : View) (a j : ℕ) → charge prices rates8 rates104 g a j ≡ margin_at (g (lots a j)) (single_of prices rates8 rates104 g j)
charge-once prices rates8 rates104 g a j =
    margin_by (g (lots a j)) (figure_at prices (yen_product (product_at g j) j)) (rate_of (g (floor_mark j)) (figure_at rates8 j) (figure_at rates104 j))

pub single_in : (prices rates8 rates104 : List ℤ) (s : Shape) (g : View) → Named prices s g → Rates s.p rates8 rates104 → (j : ℕ) → j < s.p
    → single_of prices rates8 rates104 g j ≤ most_lot_margin
single_in prices rates8 rates104 s g n t j h =
    lot_margin_in (figure_at prices (yen_product (product_at g j) j)) (rate_of (g (floor_mark j)) (figure_at rates8 j) (figure_at rates104 j))
    (n.yen_price j h).high (rate_in (g (floor_mark j)) (figure_at rates8 j) (figure_at rates104 j) (t.in8 j h) (t.in104 j h)).high

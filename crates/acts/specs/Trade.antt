-- A trade (01, "The day"): of q lots of the product j at price t between two accounts, one F and one L. The buyer's lots rise by q and book by
-- q × t, the seller's fall by the same. Nothing else changes. Refusals: 1 3 4 6 8 9.
use Rattle.std.specs.Prelude.{List, [], ◌∷◌, Bool, ◌&&◌, ◌||◌, ℕ, ℤ, pos, nat_abs, ◌+ℤ◌, ◌-ℤ◌, ◌*ℤ◌}
use Rattle.whole.specs.Number.{within, between, is, is_one_of, unless}
use Rattle.rules.specs.Sizes.{most_price, most_book, most_lots}
use Rattle.rules.specs.declared.Reply.{Reply}
use Rattle.places.specs.Place.{View, Put, ◌≔◌, kind, product_kind, lots, book}
use Rattle.places.specs.Act.{Act, Rule}
use Rattle.soundness.specs.Perform.{refuse, does}

-- one F and one L
abbrev pub one_of_each : ℤ → ℤ → Bool
one_of_each k l = (is 0 k && is 1 l) || (is 1 k && is 0 l)

-- lots and price of a trade in range, the price by the product's kind
abbrev pub terms_ok : View → ℕ → ℤ → ℤ → Bool
terms_ok g j q t = between (pos 1) (pos most_lots) q && between (pos 1) (pos (most_price (g (product_kind j)))) t

-- a position in the product j, lots l and book b, in range by the product's kind
abbrev pub position_in : View → ℕ → ℤ → ℤ → Bool
position_in g j l b = within most_lots l && within (most_book (g (product_kind j))) b

abbrev pub trade_puts : ℕ → ℕ → ℕ → ℤ → ℤ → View → List Put
trade_puts b s j q t g =
    (lots b j ≔ g (lots b j) +ℤ q) ∷ (book b j ≔ g (book b j) +ℤ q *ℤ t)
    ∷ (lots s j ≔ g (lots s j) -ℤ q) ∷ (book s j ≔ g (book s j) -ℤ q *ℤ t) ∷ []

-- 9 where either position would pass its range
abbrev pub traded : ℕ → ℕ → ℕ → ℤ → ℤ → View → Act Reply
traded b s j q t g =
    unless (position_in g j (g (lots b j) +ℤ q) (g (book b j) +ℤ q *ℤ t)) (refuse 9)
    (unless (position_in g j (g (lots s j) -ℤ q) (g (book s j) -ℤ q *ℤ t)) (refuse 9)
    (does (pos 0) (trade_puts b s j q t g)))

-- the trade between two accounts of the ledger, in one of its products
abbrev pub trade_between : ℕ → ℕ → ℕ → ℤ → ℤ → View → Act Reply
trade_between b s j q t g =
    unless (one_of_each (g (kind b)) (g (kind s))) (refuse 6)
    (unless (terms_ok g j q t) (refuse 8)
    (traded b s j q t g))

abbrev pub trade_rule : ℤ → ℤ → ℤ → ℤ → ℤ → Rule Reply
trade_rule buyer seller product q t s g =
    unless (is_one_of s.n buyer && is_one_of s.n seller) (refuse 3)
    (unless (is_one_of s.p product) (refuse 4)
    (trade_between (nat_abs buyer) (nat_abs seller) (nat_abs product) q t g))

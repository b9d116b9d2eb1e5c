-- 01, "The ledger's words": what a sound ledger is, clause by clause, as a test of what stands at its places. `sound` joins to it the
-- length and the two counts, of any list of words.
use Rattle.std.specs.Prelude.{List, Bool, true, cond, not, ◌&&◌, ◌||◌, ℕ, zero, suc, ◌+◌, ◌-◌, eqb, ℤ, pos, nat_abs, ◌-ℤ◌}
use Rattle.whole.specs.Number.{within, between, is, is_one_of}
use Rattle.whole.specs.Counting.{all, sum}
use Rattle.rules.specs.Sizes.{is_yen, most_price, most_book, most_lots, most_house}
use Rattle.rules.specs.Account.{account_ok}
use Rattle.rules.specs.declared.Account.{Account}
use Rattle.rules.specs.declared.Product.{Product}
use Rattle.places.specs.declared.Shape.{Shape}
use Rattle.places.specs.Place.{Place, View, Layout, phase, house, product_kind, floor_mark, price, principal, quote, kind, cash, guarantee, cap, margin, due, lots, book}
use Rattle.places.specs.Act.{sound_by}

-- the account a's record: kind, cash, guarantee, cap, initial margin, due 0, due 1, due 2
abbrev pub account_at : View → ℕ → Account
account_at g a = record { kind = g (kind a); cash = g (cash a); guarantee = g (guarantee a); cap = g (cap a); margin = g (margin a); due0 = g (due a 0); due1 = g (due a 1); due2 = g (due a 2) }

-- the product j's record: kind, floor mark, last closing price, principal's yen product, quote's yen product
abbrev pub product_at : View → ℕ → Product
product_at g j = record { kind = g (product_kind j); mark = g (floor_mark j); price = g (price j); principal = g (principal j); quote = g (quote j) }

-- ---- the head: house in range, phase in 0..n+1
abbrev pub head_ok : Shape → View → Bool
head_ok s g = within most_house (g house) && between (pos 0) (pos (s.n + 1)) (g phase)

-- ---- products: kind 0 or 1, floor mark 0 or 1, last closing price in range by the kind; a cross's last two words name different yen
-- products of lower number; a yen product has 0 in both

abbrev pub names_yen : View → ℕ → Place → Bool
names_yen g j q = is_one_of j (g q) && is_yen (g (product_kind (nat_abs (g q))))

abbrev pub yen_pair : View → ℕ → Bool
yen_pair g j = is 0 (g (principal j)) && is 0 (g (quote j))

abbrev pub cross_pair : View → ℕ → Bool
cross_pair g j = names_yen g j (principal j) && names_yen g j (quote j) && not (eqb (nat_abs (g (principal j))) (nat_abs (g (quote j))))

abbrev pub pair_ok : View → ℕ → Bool
pair_ok g j = cond (is_yen (g (product_kind j))) (yen_pair g j) (cross_pair g j)

abbrev pub product_ok : View → ℕ → Bool
product_ok g j =
    between (pos 0) (pos 1) (g (product_kind j)) && between (pos 0) (pos 1) (g (floor_mark j))
    && between (pos 1) (pos (most_price (g (product_kind j)))) (g (price j)) && pair_ok g j

-- ---- positions: lots in range, book in range by the product's kind; each product's lots add to zero over the accounts

abbrev pub held_ok : View → ℕ → ℕ → Bool
held_ok g j a = within most_lots (g (lots a j)) && within (most_book (g (product_kind j))) (g (book a j))

abbrev pub positions_ok : ℕ → View → ℕ → Bool
positions_ok n g j = all n (held_ok g j) && is 0 (sum n (λ a. g (lots a j)))

-- ---- the run: in phase f of 1 or more due 0 is zero in every account below f - 1; in phase 1 to n house stays in range after each step
-- still to come

abbrev pub turn : View → ℕ
turn g = nat_abs (g phase)

abbrev pub done_ok : View → Bool
done_ok g = all (turn g - 1) (λ a. is 0 (g (due a 0)))

-- from a house of h, house stays in range after the step of each of the m accounts from k on
abbrev pub stays : ℕ → ℤ → ℕ → View → Bool
stays zero h k g = true
stays (suc m) h k g = within most_house (h -ℤ g (due k 0)) && stays m (h -ℤ g (due k 0)) (suc k) g

-- in phase n + 1 no step is to come
abbrev pub to_come_ok : Shape → View → Bool
to_come_ok s g = eqb (turn g) 0 || stays (s.n + 1 - turn g) (g house) (turn g - 1) g

-- ---- all of it
abbrev pub figures_ok : Shape → View → Bool
figures_ok s g = head_ok s g && all s.p (product_ok g) && all s.n (λ a. account_ok (account_at g a)) && all s.p (positions_ok s.n g)

abbrev pub places_ok : Shape → View → Bool
places_ok s g = figures_ok s g && (done_ok g && to_come_ok s g)

abbrev pub sound : Layout → List ℤ → Bool
sound = sound_by places_ok

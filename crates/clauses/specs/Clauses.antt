-- 01, "The ledger's words": which clause of soundness a list of words fails first. The clauses are those of `soundness/specs/Sound` and of what it
-- cites, tested in that order: the list, its head, product by product, account by account, the positions product by product, the run.
use Rattle.std.specs.Prelude.{◌≡◌, ◌<◌, Option, Some, None, List, ℕ, zero, suc, ◌+◌, ◌-◌, eqb, leb, ltb, ℤ, pos, length, get_or}
pub use Rattle.std.specs.Prelude.{is_none}
use Rattle.whole.specs.Number.{within, between, is, unless}
use Rattle.whole.specs.Counting.{sum}
use Rattle.rules.specs.Sizes.{most_price, most_book, most_lots, most_house, most_margin, most_gross}
use Rattle.rules.specs.Account.{gross_of, guarantee_limit}
use Rattle.rules.specs.declared.Account.{Account}
use Rattle.places.specs.declared.Shape.{Shape}
use Rattle.places.specs.Place.{View, Layout, get, heads, words_of, phase, house, product_kind, floor_mark, price, due, lots, book}
use Rattle.places.specs.Act.{shape_of}
use Rattle.soundness.specs.Sound.{account_at, pair_ok, turn, to_come_ok}
use Rattle.clauses.specs.declared.Clause.{Clause}
use Rattle.clauses.specs.declared.Clause.TheVariants.{Heads, Accounts, Products, Length, House, Phase, ProductKind, Mark, Price, Pair, Kind, Guarantee, Cap, Margin, Gross, Lots, Book, Balance, Done, ToCome}
use Rattle.clauses.specs.declared.Failing.{Failing}

-- ---- the clauses' numbers
abbrev pub number_of : Clause → ℕ
number_of Heads = 1
number_of Accounts = 2
number_of Products = 3
number_of Length = 4
number_of House = 5
number_of Phase = 6
number_of ProductKind = 7
number_of Mark = 8
number_of Price = 9
number_of Pair = 10
number_of Kind = 11
number_of Guarantee = 12
number_of Cap = 13
number_of Margin = 14
number_of Gross = 15
number_of Lots = 16
number_of Book = 17
number_of Balance = 18
number_of Done = 19
number_of ToCome = 20

-- ---- what is found
-- a clause, of which account and which product (0 where it is of none), and the figure that fails it: the word itself, of a balance the sum of the lots,
-- and 0 of a clause on the list's length or on several words
abbrev pub fails : Clause → ℕ → ℕ → ℤ → Option Failing
fails clause account product figure = Some (record { clause = clause; account = account; product = product; figure = figure })

-- no clause fails
abbrev pub none : Option Failing
none = None

-- what fails first, or else what fails later
abbrev pub or_else : Option Failing → Option Failing → Option Failing
or_else None later = later
or_else (Some f) later = Some f

-- the first that fails of f 0, f 1, .. f (n - 1)
abbrev pub first_of : ℕ → (ℕ → Option Failing) → Option Failing
first_of zero f = none
first_of (suc n) f = or_else (first_of n f) (f n)

-- r is the first of f 0, .. f (n - 1), whatever f answers as P says
abbrev pub FirstOf : ℕ → (ℕ → Option Failing → Type 0) → Option Failing → Type 0
FirstOf n P r = (f : ℕ → Option Failing) → ((i : ℕ) → i < n → (o : Option Failing) → P i o → o ≡ f i) → r ≡ first_of n f

-- ---- the list: 1 fewer words than a head has, 2 the number of accounts, 3 of products, 4 another length than they say
abbrev pub of_shape : List ℤ → Shape → Option Failing
of_shape W s =
    unless (ltb 0 s.n) (fails Accounts 0 0 (get_or W 0 (pos 0)))
    (unless (ltb 0 s.p) (fails Products 0 0 (get_or W 1 (pos 0)))
    (unless (eqb (length W) (words_of s)) (fails Length 0 0 (pos 0)) none))

-- ---- the head: 5 house, 6 phase
abbrev pub of_head : Shape → View → Option Failing
of_head s g =
    unless (within most_house (g house)) (fails House 0 0 (g house))
    (unless (between (pos 0) (pos (s.n + 1)) (g phase)) (fails Phase 0 0 (g phase)) none)

-- ---- a product: 7 kind, 8 floor mark, 9 last closing price, 10 what its last two words name
abbrev pub of_product : View → ℕ → Option Failing
of_product g j =
    unless (between (pos 0) (pos 1) (g (product_kind j))) (fails ProductKind 0 j (g (product_kind j)))
    (unless (between (pos 0) (pos 1) (g (floor_mark j))) (fails Mark 0 j (g (floor_mark j)))
    (unless (between (pos 1) (pos (most_price (g (product_kind j)))) (g (price j))) (fails Price 0 j (g (price j)))
    (unless (pair_ok g j) (fails Pair 0 j (pos 0)) none)))

-- ---- an account: 11 kind, 12 guarantee, 13 cap (both 0 of an L), 14 initial margin, 15 gross
abbrev pub of_account : Account → ℕ → Option Failing
of_account account a =
    unless (between (pos 0) (pos 1) account.kind) (fails Kind a 0 account.kind)
    (unless (between (pos 0) (guarantee_limit account) account.guarantee) (fails Guarantee a 0 account.guarantee)
    (unless (between (pos 0) (guarantee_limit account) account.cap) (fails Cap a 0 account.cap)
    (unless (between (pos 0) (pos most_margin) account.margin) (fails Margin a 0 account.margin)
    (unless (leb (gross_of account) most_gross) (fails Gross a 0 (pos 0)) none))))

-- ---- the positions in a product: 16 lots, 17 book, account by account; 18 the lots do not add to zero
abbrev pub of_position : View → ℕ → ℕ → Option Failing
of_position g j a =
    unless (within most_lots (g (lots a j))) (fails Lots a j (g (lots a j)))
    (unless (within (most_book (g (product_kind j))) (g (book a j))) (fails Book a j (g (book a j))) none)

abbrev pub of_balance : ℕ → View → ℕ → Option Failing
of_balance n g j = unless (is 0 (sum n (λ a. g (lots a j)))) (fails Balance 0 j (sum n (λ a. g (lots a j)))) none

abbrev pub of_positions : ℕ → View → ℕ → Option Failing
of_positions n g j = or_else (first_of n (of_position g j)) (of_balance n g j)

-- ---- the run: 19 due 0 of an account that is done, 20 house on the way to its end
abbrev pub of_done : View → ℕ → Option Failing
of_done g a = unless (is 0 (g (due a 0))) (fails Done a 0 (g (due a 0))) none

abbrev pub of_run : Shape → View → Option Failing
of_run s g = or_else (first_of (turn g - 1) (of_done g)) (unless (to_come_ok s g) (fails ToCome 0 0 (pos 0)) none)

-- ---- all of it
abbrev pub of_figures : Shape → View → Option Failing
of_figures s g = or_else (or_else (or_else (of_head s g) (first_of s.p (of_product g))) (first_of s.n (λ a. of_account (account_at g a) a))) (first_of s.p (of_positions s.n g))

abbrev pub of_places : Shape → View → Option Failing
of_places s g = or_else (of_figures s g) (of_run s g)

unfoldable pub first_failing : Layout → List ℤ → Option Failing
first_failing L W = unless (leb heads (length W)) (fails Heads 0 0 (pos 0)) (or_else (of_shape W (shape_of W)) (of_places (shape_of W) (get L (shape_of W) W)))

-- Which places the puts of an account are: its own. Assumes nothing.
use Rattle.std.specs.Prelude.{List, ◌∷◌, Bool, true, false, ◌≡◌, ◌≢◌, ℕ, ◌<◌, eqb, ℤ}
use Rattle.std.proofs.Common.{arith, ne_eqb}
use Rattle.places.specs.declared.Shape.{Shape}
use Rattle.places.specs.Place.{Place, head, prod, acct, held, Has, View, ◌≔◌, each, dues, margin, due, book}
use Rattle.places.specs.PlaceLaws.{Each, each_append, each-each}
use Rattle.places.specs.Passes.{Off}
use Rattle.daily.specs.DailyFigures.{new_margin}
use Rattle.closing.specs.Close.{due_puts, book_puts, account_puts}

-- an account: the products, its own words
abbrev pub account_sees : ℕ → Place → Bool
account_sees a (head k) = false
account_sees a (prod j f) = true
account_sees a (acct b f) = eqb a b
account_sees a (held b j f) = eqb a b

module _ (prices rates8 rates104 lags : List ℤ) (s : Shape) (g : View) where
  -- the places that the close writes of an account
  pub account-at : (P : Place → Type 0) (a : ℕ) → P (margin a) → ((d : ℕ) → d < dues → P (due a d)) → ((j : ℕ) → j < s.p → P (book a j))
      → Each P (account_puts prices rates8 rates104 lags s g a)
  unfolding account_puts
  account-at P a m x y =
      each_append P ((margin a ≔ new_margin prices rates8 rates104 s g a) ∷ each dues (due_puts prices lags s a g)) (each s.p (book_puts prices a g))
      (m, each-each P dues (due_puts prices lags s a g) (λ d l. (x d l, tt)))
      (each-each P s.p (book_puts prices a g) (λ j l. (y j l, tt)))

  -- another account's are not a's own
  pub account_off : (a b : ℕ) → a ≢ b → b < s.n → Off s (account_sees a) (account_puts prices rates8 rates104 lags s g b)
  account_off a b ne h =
      let n = ne_eqb a b ne in
      account-at (λ q. Has s q × (account_sees a q ≡ false)) b ((h, omega arith), n) (λ d l. ((h, omega arith), n)) (λ j l. ((h, l, omega arith), n))

-- One word, or two, of a sound ledger spoiled at a time: the clause that fails, its number in docs/RULES.md (3.3), of which account and product, and the
-- figure. By computation.
-- Assumes nothing.
use Rattle.std.specs.Prelude.{◌≡◌, refl, List, [], ◌∷◌, ℕ, ℤ, pos, negsuc, set}
use Rattle.rules.specs.Account.{account_ok}
use Rattle.places.specs.ByAccount.{by_account}
use Rattle.clauses.specs.declared.Clause.TheVariants.{Heads, Accounts, Products, Length, House, Phase, ProductKind, Mark, Price, Pair, Kind, Guarantee, Cap, Margin, Gross, Lots, Book, Balance, Done, ToCome}
use Rattle.clauses.specs.declared.Clause.{Clause}
use Rattle.clauses.specs.Clauses.{number_of, fails, none, first_failing}

-- an F and an L, one yen product, nothing held and nothing due
abbrev pub words : List ℤ
words =
    pos 2 ∷ pos 1 ∷ pos 0 ∷ pos 0
    ∷ pos 0 ∷ pos 0 ∷ pos 1500000 ∷ pos 0 ∷ pos 0
    ∷ pos 0 ∷ pos 0 ∷ pos 0 ∷ pos 0 ∷ pos 0 ∷ pos 0 ∷ pos 0 ∷ pos 0 ∷ pos 0 ∷ pos 0
    ∷ pos 1 ∷ pos 0 ∷ pos 0 ∷ pos 0 ∷ pos 0 ∷ pos 0 ∷ pos 0 ∷ pos 0 ∷ pos 0 ∷ pos 0 ∷ []

abbrev pub Finds : ℕ → List ℤ → Clause → ℕ → ℕ → ℤ → Type 0
Finds number W clause account product figure = (number_of clause ≡ number) × (first_failing by_account W ≡ fails clause account product figure)

pub record Examples : Type 0 where
  pub sound : first_failing by_account words ≡ none
  pub no_head : Finds 1 (pos 2 ∷ pos 1 ∷ pos 0 ∷ []) Heads 0 0 (pos 0)
  pub accounts : Finds 2 (set words 0 (pos 65)) Accounts 0 0 (pos 65)
  pub products : Finds 3 (set words 1 (negsuc 0)) Products 0 0 (negsuc 0)
  pub length : Finds 4 (set words 0 (pos 3)) Length 0 0 (pos 0)
  pub house : Finds 5 (set words 3 (pos 100000000000000001)) House 0 0 (pos 100000000000000001)
  pub phase : Finds 6 (set words 2 (pos 4)) Phase 0 0 (pos 4)
  pub product_kind : Finds 7 (set words 4 (pos 2)) ProductKind 0 0 (pos 2)
  pub mark : Finds 8 (set words 5 (pos 2)) Mark 0 0 (pos 2)
  pub price : Finds 9 (set words 6 (pos 5000001)) Price 0 0 (pos 5000001)
  -- a yen product that names another
  pub pair : Finds 10 (set words 8 (pos 1)) Pair 0 0 (pos 0)
  pub kind : Finds 11 (set words 19 (pos 2)) Kind 1 0 (pos 2)
  -- of an L, and of an F
  pub guarantee : Finds 12 (set words 21 (pos 1)) Guarantee 1 0 (pos 1)
  pub cap : Finds 13 (set words 12 (pos 1000000000001)) Cap 0 0 (pos 1000000000001)
  pub margin : Finds 14 (set words 23 (negsuc 0)) Margin 1 0 (negsuc 0)
  pub gross : Finds 15 (set words 10 (pos 1000000000000001)) Gross 0 0 (pos 0)
  pub lots : Finds 16 (set words 27 (pos 1000001)) Lots 1 0 (pos 1000001)
  pub book : Finds 17 (set words 18 (pos 10000000000001)) Book 0 0 (pos 10000000000001)
  pub balance : Finds 18 (set words 27 (negsuc 6)) Balance 0 0 (negsuc 6)
  -- in phase 3 both accounts are done
  pub done : Finds 19 (set (set words 2 (pos 3)) 24 (pos 7)) Done 1 0 (pos 7)
  -- in phase 1 house would pass its range with the first step
  pub to_come : Finds 20 (set (set (set words 2 (pos 1)) 3 (pos 100000000000000000)) 14 (negsuc 0)) ToCome 0 0 (pos 0)

pub examples : Examples
unfolding first_failing by_account account_ok
examples =
    record {
      sound = refl;
      no_head = (refl, refl);
      accounts = (refl, refl);
      products = (refl, refl);
      length = (refl, refl);
      house = (refl, refl);
      phase = (refl, refl);
      product_kind = (refl, refl);
      mark = (refl, refl);
      price = (refl, refl);
      pair = (refl, refl);
      kind = (refl, refl);
      guarantee = (refl, refl);
      cap = (refl, refl);
      margin = (refl, refl);
      gross = (refl, refl);
      lots = (refl, refl);
      book = (refl, refl);
      balance = (refl, refl);
      done = (refl, refl);
      to_come = (refl, refl);
    }

-- What a withdrawal asks: the words are a sound ledger, the account is one of its own, the amount is in range and at most the limit of the account's record now.
use Rattle.std.specs.Prelude.{◌≡◌, List, true, ℤ, nat_abs, ◌≤ℤ◌}
use Rattle.whole.specs.Number.{is_one_of}
use Rattle.rules.specs.Sizes.{amount_ok}
use Rattle.rules.specs.Account.{limit_of}
use Rattle.rules.specs.declared.Account.{Account}
use Rattle.places.specs.Place.{Layout, get}
use Rattle.places.specs.Act.{shape_of}
use Rattle.soundness.specs.Sound.{account_at, sound}

-- the record of the account that a call names
abbrev pub named : Layout → List ℤ → ℤ → Account
named L W a = account_at (get L (shape_of W) W) (nat_abs a)

-- what a withdrawal of x from the account a asks
pub record Payable (L : Layout) (W : List ℤ) (a x : ℤ) : Type 0 where
  pub sound_words : sound L W ≡ true
  pub one_of_them : is_one_of (shape_of W).n a ≡ true
  pub amount_in : amount_ok x ≡ true
  pub covered : x ≤ℤ limit_of (named L W a)

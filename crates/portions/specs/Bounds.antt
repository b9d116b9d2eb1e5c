-- The ranges within which shares are worked out exactly: 64 members, weights to 2×10^15, amounts to 5×10^15 (document 01 asks for less: 10^12
-- and 10^14; document 02, M-100, for these). An amount may pass the sum of the weights.
use Rattle.std.specs.Prelude.{List, ℕ, ◌≤◌, length}
use Rattle.portions.specs.Share.{of_member}

abbrev pub most_members : ℕ
most_members = 64

abbrev pub most_weight : ℕ
most_weight = 2000000000000000

abbrev pub most_amount : ℕ
most_amount = 5000000000000000

-- weights that can be shared by
pub record Weights (weights : List ℕ) : Type 0 where
  pub few : length weights ≤ most_members
  pub small : (i : ℕ) → of_member weights i ≤ most_weight

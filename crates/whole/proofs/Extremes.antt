-- The lesser and the greater of two, as std and as `Number` say it. Assumes nothing.
use Rattle.std.specs.Prelude.{◌≡◌, refl, Bool, true, false, cond, not, ℤ}
use Rattle.std.specs.Int.{int_min, int_max}
use Rattle.std.specs.Int.Signed.{lt_z, le_z}
use Rattle.std.proofs.Common.{arith, ap, ◌∙◌}
use Rattle.whole.specs.Number.{min_z, max_z}
use Rattle.whole.specs.Reps.{leaf}
use Rattle.whole.specs.Whole.{whole, facts, by}
use Rattle.whole.specs.Signs.{le_true, le_false, is_lt, not-lt}

later : (a b : ℤ) → lt_z b a ≡ not (le_z a b)
later a b = go (le_z a b) refl
  where
    go : (t : Bool) → le_z a b ≡ t → lt_z b a ≡ not t
    go true e = not-lt b a (omega (arith, le_true a b e))
    go false e = is_lt b a (omega (arith, le_false a b e))

turned : (t : Bool) (a b : ℤ) → cond (not t) a b ≡ cond t b a
turned true a b = refl
turned false a b = refl

pub int_max-is : (a b : ℤ) → int_max a b ≡ max_z a b
unfolding max_z
int_max-is a b = ap (λ t. cond t a b) (later a b) ∙ turned (le_z a b) a b

pub int_min-is : (a b : ℤ) → int_min a b ≡ min_z a b
unfolding min_z
int_min-is a b = ap (λ t. cond t b a) (later a b) ∙ turned (le_z a b) b a

-- in either order
other_way : (a b : ℤ) → max_z a b ≡ max_z b a
unfolding max_z
other_way a b = let l = leaf a in let m = leaf b in by (search whole depth 20) (omega facts)

pub int_max-turned : (a b : ℤ) → int_max a b ≡ max_z b a
int_max-turned a b = int_max-is a b ∙ other_way a b

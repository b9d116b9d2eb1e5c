-- An amount that passes the sum of its weights, at the end of the ranges, where products pass 64 bits. Assumes nothing.
use Rattle.std.specs.Prelude.{◌≡◌, refl, [], ◌∷◌, pos}
use Rattle.whole.specs.Counting.{listed}
use Rattle.portions.specs.Share.{before, how_many_before, floor_of, remainder_of, left, share_of, shares}

pub past_64_bits : shares 5000000000000000 (2000000000000000 ∷ 1999999999999999 ∷ []) ≡ pos 2500000000000001 ∷ pos 2499999999999999 ∷ []
unfolding listed before how_many_before floor_of remainder_of left share_of
past_64_bits = refl

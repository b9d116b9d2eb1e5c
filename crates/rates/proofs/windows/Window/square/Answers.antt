-- `square` meets its contract: the calls, composed. Assumes nothing.
use mathlib.Core.Path.{◌≡◌, sym, ap, ◌∙◌}
use mathlib.Core.List.{List}
use lib.IntN.{ℤ, nat_abs}
use lib.ListN.{length}
use mir.Syntax.{w64}
use mir.Val.{to_z, of_z}
use Rattle.whole.specs.Counting.{sum, figure_at}
use Rattle.rates.specs.MarginRate.{sum_of, squares_of, spread_of}
use Rattle.rates.specs.declared.windows.Sums.{Sums}
use Rattle.rates.specs.SumsLaws.{square_at, added_to, left, sum-word, squares_word, summed}
use Rattle.rates.specs.RateLaws.{least_square, square_of, spread_in}
use Rattle.rates.proofs.windows.Window.square.Goals.{Start, After-spread_of}
use Rattle.rates.proofs.windows.Window.square.Goals as goal

-- the sums as they are passed on
module _ (s : Start) where
  abbrev w : List ℤ
  w = s.args.self.figures.now

  added : s.args.self.sums ≡ added_to w (length w)
  added = sym (left w (length w) s.args.self.sums s.args.self.summed).1

  sum_is : to_z w64 (of_z w64 s.args.self.sums.sum) ≡ sum (length w) (figure_at w)
  sum_is = ap (λ (z : Sums). to_z w64 (of_z w64 z.sum)) added ∙ sum-word w (length w) s.args.self.accepted.few s.args.self.accepted.in-range

  squares-is : to_z w64 (of_z w64 s.args.self.sums.squares) ≡ sum (length w) (square_at w)
  squares-is = ap (λ (z : Sums). to_z w64 (of_z w64 z.squares)) added ∙ squares_word w (length w) s.args.self.accepted.few s.args.self.accepted.in-range

pub spread_of-requires : goal.spread_of-requires
spread_of-requires c = let s = (goal.at.spread_of-requires c).Start in rw (sum_is s, squares-is s) (summed (w s) s.args.self.accepted)

-- what `spread_of` gave
got : (c : After-spread_of) → c.spread_of.result ≡ nat_abs (spread_of c.args.self.figures.now)
unfolding spread_of sum_of squares_of
got c = let s = (goal.at.After-spread_of c).Start in c.spread_of.ensures ∙ rw (sum_is s, squares-is s)

pub least_square-requires-clause-fact_3 : goal.least_square-requires-clause-fact_3
least_square-requires-clause-fact_3 c =
    rw (got (goal.at.least_square-requires-clause-fact_3 c).After-spread_of) (spread_in c.args.self.figures.now c.args.self.accepted)

pub returns : goal.returns
unfolding square_of
returns c = c.least_square.ensures ∙ ap (least_square (length c.args.self.figures.now)) (got (goal.at.returns c).After-spread_of)

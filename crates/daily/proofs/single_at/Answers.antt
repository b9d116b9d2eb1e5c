-- `single_at` meets its contract: the two figures are the places' words, within what `lot_margin` asks. Assumes nothing.
use mathlib.Core.Path.{◌≡◌}
use lib.IntN.{pos}
use lib.ListN.{get_or}
use mir.Syntax.{w64}
use mir.Val.{to_z, of_z}
use Rattle.std.proofs.Common.{rules}
use Rattle.whole.specs.Counting.{figure_at}
use Rattle.rules.specs.Sizes.{most_rate}
use Rattle.rules.specs.Product.{yen_product, rate_of}
use Rattle.rules.specs.ProductLaws.{rate_in, at_least, at_most}
use Rattle.places.specs.Place.{get, floor_mark}
use Rattle.places.specs.ByAccount.{by_account}
use Rattle.soundness.specs.Sound.{product_at}
use Rattle.daily.proofs.single_at.Goals.{After-yen_product}
use Rattle.daily.proofs.single_at.Goals as goal

price-is : (c : After-yen_product) → let g = get by_account c.args.s c.args.words.now in
    to_z w64 (of_z w64 (get_or c.args.figures.prices.now c.yen_product.result (pos 0))) ≡ figure_at c.args.figures.prices.now (yen_product (product_at g c.args.j) c.args.j)
price-is c = search rules

rate-is : (c : After-yen_product) → let g = get by_account c.args.s c.args.words.now in let f = c.args.figures in
    to_z w64 (of_z w64 c.rate_of-rate.result) ≡ rate_of (g (floor_mark c.args.j)) (figure_at f.rates8.now c.args.j) (figure_at f.rates104.now c.args.j)
rate-is c = search rules

pub lot_margin-requires-clause-pos_bound_2 : goal.lot_margin-requires-clause-pos_bound_2
lot_margin-requires-clause-pos_bound_2 c =
    let p = (goal.at.lot_margin-requires-clause-pos_bound_2 c).After-yen_product in
    rw (price-is p) (at_most 1 5000000 _ (c.requires.named.yen_price c.args.j c.requires.j_lt_p))

pub lot_margin-requires-clause-pos_bound_2_1 : goal.lot_margin-requires-clause-pos_bound_2_1
lot_margin-requires-clause-pos_bound_2_1 c =
    let j = c.args.j in let h = c.requires.j_lt_p in let r = c.requires.rates in
    rw (rate-is (goal.at.lot_margin-requires-clause-pos_bound_2_1 c).After-yen_product) (at_least 1 most_rate _ (rate_in _ _ _ (r.in8 j h) (r.in104 j h)))

pub lot_margin-requires-clause-pos_bound_2_2 : goal.lot_margin-requires-clause-pos_bound_2_2
lot_margin-requires-clause-pos_bound_2_2 c =
    let j = c.args.j in let h = c.requires.j_lt_p in let r = c.requires.rates in
    rw (rate-is (goal.at.lot_margin-requires-clause-pos_bound_2_2 c).After-yen_product) (at_most 1 most_rate _ (rate_in _ _ _ (r.in8 j h) (r.in104 j h)))

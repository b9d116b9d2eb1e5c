-- `lists_ok` meets its contract: each product is tested, until one fails. Assumes nothing.
use Rattle.std.specs.Prelude.{◌≡◌, refl, Bool, true, false, ℕ}
use Rattle.std.proofs.Common.{rules, arith}
use Rattle.std.proofs.lemmas.Iterator.{cases_from_all, YieldsList-from_range}
use Rattle.places.specs.Place.{get}
use Rattle.places.specs.ByAccount.{by_account}
use Rattle.daily.specs.DailyFigures.{figure_ok}
use Rattle.daily.specs.Given.{of_lists}
use Rattle.daily.proofs.AllOf.{all_below}
use Rattle.daily.proofs.lists_ok.Goals as goal

pub returns : goal.returns
returns c =
    let p = c.args.s.p in let ok : ℕ → Bool = of_lists c.args.figures figure_ok (get by_account c.args.s c.args.words.now) in
    all_below p ok c.all.result
    (cases_from_all _ _ _ (λ x. ok x ≡ true) (λ x. ok x ≡ false) c.all.ensures.ran (YieldsList-from_range 0 p p refl (omega arith)) (λ x q k. search rules) (λ x q k. search rules))

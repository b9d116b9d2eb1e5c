-- `read` meets its contract: a window whose sums are there has its figures in range, and the other one has not. Assumes nothing.
use Rattle.std.proofs.Common.{◌≡◌, ◌∙◌, ⊎_elim, sym, None, false, List, ℤ, length}
use Rattle.std.proofs.lemmas.Option.{none-some}
use Rattle.whole.specs.Tests.{true_or_false}
use Rattle.rates.specs.MarginRate.{figures_ok}
use Rattle.rates.specs.SumsLaws.{sums_of, to_in, left}
use Rattle.rates.proofs.windows.Window.read.Goals as goal

-- no sums, no window
ended : (w : List ℤ) → sums_of w ≡ None → figures_ok w ≡ false
ended w e = ⊎_elim (λ t. absurd (none-some _ (sym e ∙ to_in w (length w) t))) (λ t. t) (true_or_false (figures_ok w))

pub returns-in_err-sums : goal.returns-in_err-sums
returns-in_err-sums c =
    rw (ended c.args.figures.now (sym c.sums_of.ensures ∙ c.in_err-sums.was), c.from_residual.ensures)

pub invariant_of-result : goal.invariant_of-result
invariant_of-result c =
    let w = c.args.figures.now in
    let e = sym c.in_ok-sums.was ∙ c.sums_of.ensures in
    record { accepted = record { two = c.requires.two; few = c.requires.few; in-range = (left w (length w) c.in_ok-sums.sums e).0 }; summed = e }

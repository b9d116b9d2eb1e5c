-- `others_added` meets its contract: the sums of the figures passed. Assumes nothing.
use Rattle.std.proofs.Common.{◌≡◌, ◌∙◌, sym, ap, ◌+◌, ◌-◌, length, get_or, arith, pos, w64, to_z, of_z, rules}
use Rattle.std.specs.Prelude.{take, drop}
use Rattle.std.proofs.lemmas.List.{take_rest, get_or-drop}
use Rattle.whole.specs.Counting.{figure_at}
use Rattle.whole.specs.Signs.{back}
use Rattle.rates.specs.SumsLaws.{sums_to, next, next_is, ended, left_small}
use Rattle.rates.proofs.windows.others_added.Goals.{After-with}
use Rattle.rates.proofs.windows.others_added.Goals as goal

pub loop-x-init : goal.loop-x-init
loop-x-init c = c.requires.before ∙ ap (sums_to c.args.window.now) (omega arith)

pub with-requires : goal.with-requires
with-requires c =
    let h = left_small c.args.window.now (c.args.from + c.loop-x.x-index) c.loop-x.sums (omega arith) c.loop-x.invariant in
    record { sum_in = h.0; squares_in = h.1 }

got : (c : After-with) → let l = c.loop-x in c.with.result ≡ sums_to c.args.window.now (c.args.from + l.x-index + 1)
got c =
    let w = c.args.window.now in
    let i = c.args.from + c.loop-x.x-index in
    let e : get_or (take (length w - c.args.from) (drop c.args.from w)) c.loop-x.x-index (pos 0) ≡ figure_at w i =
    ap (λ l. get_or l c.loop-x.x-index (pos 0)) (take_rest w c.args.from) ∙ get_or-drop c.args.from w c.loop-x.x-index (pos 0)
    in
    c.with.ensures ∙ ap (next c.loop-x.sums) (ap (λ x. to_z w64 (of_z w64 x)) e ∙ back (figure_at w i) (search rules)) ∙ next_is w i c.loop-x.sums c.loop-x.invariant

pub returns-in_err-sums : goal.returns-in_err-sums
returns-in_err-sums c =
    let w = c.args.window.now in
    c.from_residual.ensures
    ∙ sym (ended w (c.args.from + c.loop-x.x-index + 1) (length w) (omega arith) (sym (got (goal.at.returns-in_err-sums c).After-with) ∙ c.in_err-sums.was))

pub loop-x-preserved : goal.loop-x-preserved
loop-x-preserved c =
    sym c.in_ok-sums.was ∙ got (goal.at.loop-x-preserved c).After-with ∙ ap (sums_to c.args.window.now) (omega arith)

pub returns : goal.returns
returns c = c.loop-x.invariant ∙ ap (sums_to c.args.window.now) (omega arith)

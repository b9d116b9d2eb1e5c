-- The three figures, in order, are the call's. Assumes nothing.
use Rattle.std.proofs.Common.{refl, ◌∙◌}
use Rattle.whole.specs.Signs.{came}
use Rattle.places.specs.Place.{get}
use Rattle.places.specs.Act.{finish}
use Rattle.places.specs.ByAccount.{by_account}
use Rattle.acts.specs.Requests.{guarantee_rule}
use Rattle.calls.specs.InsideCalls.{guarantee_by}
use Rattle.calls.specs.LedgerLaws.{acted}
use Rattle.calls.proofs.guarantee.Goals as goal

pub returns : goal.returns
returns c =
    let W = c.args.words.now in
    let e0 = came c.figure_at-account.result c.figure_at-account.type_inv c.figure_at-account.ensures in
    let e1 = came c.figure_at.result c.figure_at.type_inv c.figure_at.ensures in
    let e2 = came c.figure_at-2.result c.figure_at-2.type_inv c.figure_at-2.ensures in
    acted c.args.s W c.requires (guarantee_by c.args.figures.now) refl
    (c.guarantee_in.ensures ∙ (λ i. finish by_account c.args.s W (guarantee_rule (e0 i) (e1 i) (e2 i) c.args.s (get by_account c.args.s W))))

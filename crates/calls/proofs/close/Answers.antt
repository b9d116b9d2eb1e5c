-- Each list is its column of the figures, at the start of an array that has room for it.
use mathlib.Core.Path.{refl, ◌∙◌}
use Rattle.places.specs.Place.{get}
use Rattle.places.specs.Act.{finish}
use Rattle.places.specs.ByAccount.{by_account}
use Rattle.closing.specs.Close.{close_rule}
use Rattle.calls.specs.InsideCalls.{close_by}
use Rattle.calls.specs.LedgerLaws.{acted}
use Rattle.calls.specs.LedgerLaws.{column-taken}
use Rattle.calls.proofs.close.Goals as goal

pub returns : goal.returns
returns c =
    let b = c in
    let W = b.args.words.now in
    let e0 = column-taken _ 0 b.args.s.p b.args.figures.now _ b.requires.sized.few' c.column_into.ensures in
    let e1 = column-taken _ 1 b.args.s.p b.args.figures.now _ b.requires.sized.few' c.column_into-2.ensures in
    let e2 = column-taken _ 2 b.args.s.p b.args.figures.now _ b.requires.sized.few' c.column_into-3.ensures in
    let e3 = column-taken _ 3 b.args.s.p b.args.figures.now _ b.requires.sized.few' c.column_into-4.ensures in
    acted b.args.s W b.requires (close_by b.args.s.p b.args.figures.now) refl
    (c.close_in.ensures ∙ (λ i. finish by_account b.args.s W (close_rule (e0 i) (e1 i) (e2 i) (e3 i) b.args.s (get by_account b.args.s W))))

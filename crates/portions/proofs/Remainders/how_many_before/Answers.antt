-- `how_many_before` meets its contract: the two counts are of those who come before i. Assumes nothing.
use mathlib.Core.Path.{◌≡◌, ap, ◌∙◌}
use Prim.Native.Nat.{◌+◌, ◌-◌}
use native.Mathlib.Omega.{arith}
use Rattle.std.specs.Prelude.{ltb, count_by}
use Rattle.std.proofs.lemmas.List.{take_rest}
use lib.ListN.{length}
use Rattle.portions.specs.Share.{of_member, how_many_before}
use Rattle.portions.specs.Order.{many_before-most}
use Rattle.portions.specs.Cut.{many_above, before-is, many_listed, many_others}
use Rattle.portions.proofs.Remainders.how_many_before.Goals.{After-how_many_above-2}
use Rattle.portions.proofs.Remainders.how_many_before.Goals as goal

-- the two counts together
counted : (c : After-how_many_above-2) →
    let a = c.args in
    c.how_many_above.result + c.how_many_above-2.result ≡ how_many_before (length a.self.of.now) (of_member a.self.of.now) a.i
counted c =
    let l = c.args.self.of.now in
    let r = of_member l in
    let i = c.args.i in
    before-is (length l) r i c.requires.i_in c.requires.some _ _
    (c.how_many_above.ensures ∙ many_listed (r i - 1) l i (omega arith))
    (ap (λ z. many_above i r (r i) + z) (c.how_many_above-2.ensures ∙ ap (count_by (ltb (r i))) (take_rest l i)) ∙ many_others (r i) l i (omega arith))

pub overflow_add-result : goal.overflow_add-result
overflow_add-result c =
    let s = c in
    omega (arith, counted c, many_before-most (length s.args.self.of.now) (of_member s.args.self.of.now) s.args.i s.requires.i_in, s.args.self.few)

pub returns : goal.returns
returns c = counted c

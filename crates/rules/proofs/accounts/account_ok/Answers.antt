-- `rules::accounts::account_ok` meets its contract: test by test, the words are the record's. Assumes nothing.
use Rattle.std.proofs.Common.{◌≡◌, refl, ◌∙◌, ap, ap₂, not, Bool, ℤ, pos, to_z, of_z, w64}
use Rattle.whole.specs.Number.{between}
use Rattle.whole.specs.Signs.{back, came}
use Rattle.whole.specs.Tests.{fails, holds}
use Rattle.rules.specs.Sizes.{most_margin}
use Rattle.rules.specs.Account.{guarantee_limit, account_ok}
use Rattle.rules.proofs.accounts.account_ok.Goals as goal

-- a test of a word is a test of the figure, and its upper end is what it was worked out to be
tested : {r : Bool} (hi z l : ℤ) → l ≡ hi → to_z w64 (of_z w64 z) ≡ z → r ≡ between (pos 0) l (to_z w64 (of_z w64 z)) → r ≡ between (pos 0) hi z
tested hi z l k w e = e ∙ ap₂ (λ h x. between (pos 0) h x) k w

pub returns-then-not-between : goal.returns-then-not-between
unfolding account_ok
returns-then-not-between c =
    let a = c.args.account in let g = c.struct_told-1.given in
    let kind = tested (pos 1) a.kind (pos 1) refl (back a.kind g.0.1) c.between.ensures in
    rw (fails kind (ap not c.if-not-between.true))

pub returns-then-not-between-2 : goal.returns-then-not-between-2
unfolding account_ok
returns-then-not-between-2 c =
    let a = c.args.account in let g = c.struct_told-1.given in
    let limit = came c.guarantee_limit-limit.result c.guarantee_limit-limit.type_inv c.guarantee_limit-limit.ensures in
    let kind = tested (pos 1) a.kind (pos 1) refl (back a.kind g.0.1) c.between.ensures in
    let guarantee = tested (guarantee_limit a) a.guarantee _ limit (back a.guarantee g.1.1.0.1) c.between-2.ensures in
    rw (holds kind (ap not c.if-not-between.false), fails guarantee (ap not c.if-not-between-2.true))

pub returns-then-not-between-3 : goal.returns-then-not-between-3
unfolding account_ok
returns-then-not-between-3 c =
    let a = c.args.account in let g = c.struct_told-1.given in
    let limit = came c.guarantee_limit-limit.result c.guarantee_limit-limit.type_inv c.guarantee_limit-limit.ensures in
    let kind = tested (pos 1) a.kind (pos 1) refl (back a.kind g.0.1) c.between.ensures in
    let guarantee = tested (guarantee_limit a) a.guarantee _ limit (back a.guarantee g.1.1.0.1) c.between-2.ensures in
    let cap = tested (guarantee_limit a) a.cap _ limit (back a.cap g.1.1.1.0.1) c.between-3.ensures in
    rw (holds kind (ap not c.if-not-between.false), holds guarantee (ap not c.if-not-between-2.false), fails cap (ap not c.if-not-between-3.true))

pub returns-then-not-between-4 : goal.returns-then-not-between-4
unfolding account_ok
returns-then-not-between-4 c =
    let a = c.args.account in let g = c.struct_told-1.given in
    let limit = came c.guarantee_limit-limit.result c.guarantee_limit-limit.type_inv c.guarantee_limit-limit.ensures in
    let kind = tested (pos 1) a.kind (pos 1) refl (back a.kind g.0.1) c.between.ensures in
    let guarantee = tested (guarantee_limit a) a.guarantee _ limit (back a.guarantee g.1.1.0.1) c.between-2.ensures in
    let cap = tested (guarantee_limit a) a.cap _ limit (back a.cap g.1.1.1.0.1) c.between-3.ensures in
    let margin = tested (pos most_margin) a.margin _ refl (back a.margin g.1.1.1.1.0.1) c.between-4.ensures in
    rw (
      holds kind (ap not c.if-not-between.false),
      holds guarantee (ap not c.if-not-between-2.false),
      holds cap (ap not c.if-not-between-3.false),
      fails margin (ap not c.if-not-between-4.true),
    )

pub returns : goal.returns
unfolding account_ok
returns c =
    let a = c.args.account in let g = c.struct_told-1.given in
    let limit = came c.guarantee_limit-limit.result c.guarantee_limit-limit.type_inv c.guarantee_limit-limit.ensures in
    let kind = tested (pos 1) a.kind (pos 1) refl (back a.kind g.0.1) c.between.ensures in
    let guarantee = tested (guarantee_limit a) a.guarantee _ limit (back a.guarantee g.1.1.0.1) c.between-2.ensures in
    let cap = tested (guarantee_limit a) a.cap _ limit (back a.cap g.1.1.1.0.1) c.between-3.ensures in
    let margin = tested (pos most_margin) a.margin _ refl (back a.margin g.1.1.1.1.0.1) c.between-4.ensures in
    rw (
      holds kind (ap not c.if-not-between.false),
      holds guarantee (ap not c.if-not-between-2.false),
      holds cap (ap not c.if-not-between-3.false),
      holds margin (ap not c.if-not-between-4.false),
    ) c.gross_ok.ensures

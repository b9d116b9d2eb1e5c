-- `products_ok` meets its contract: the products before j passed. Assumes nothing.
use Prim.Native.Nat.{ℕ}
use native.Mathlib.Omega.{arith}
use mathlib.Core.Path.{sym}
use mathlib.Core.Bool.{Bool}
use Rattle.whole.specs.CountingLaws.{all-fails}
use Rattle.whole.specs.Tests.{fails}
use Rattle.soundness.proofs.products.products_ok.Invariants.{ok}
use Rattle.std.proofs.Common.{ap, not}
use Rattle.soundness.proofs.products.products_ok.Goals.{Start}
use Rattle.soundness.proofs.products.products_ok.Goals as goal

abbrev test : Start → ℕ → Bool
test s = ok s.args.words.now s.args.s

pub returns-then-not-product_ok : goal.returns-then-not-product_ok
returns-then-not-product_ok c =
    let l = c in let s = l in
    sym (all-fails s.args.s.p (test (goal.at.returns-then-not-product_ok s).Start) l.loop-j.j (omega arith) (fails c.product_ok.ensures (ap not c.if-not-product_ok.true)))

-- `accounts_ok` meets its contract: the accounts before a passed. Assumes nothing.
use Prim.Native.Nat.{ℕ}
use native.Mathlib.Omega.{arith}
use mathlib.Core.Path.{◌≡◌, sym, ap, ◌∙◌}
use mathlib.Core.Bool.{Bool}
use Rattle.whole.specs.CountingLaws.{all-fails}
use Rattle.whole.specs.Tests.{fails}
use Rattle.rules.specs.Account.{account_ok}
use Rattle.soundness.proofs.accounts_ok.Invariants.{ok}
use Rattle.std.proofs.Common.{not}
use Rattle.soundness.proofs.accounts_ok.Goals.{After-account_ok, Start}
use Rattle.soundness.proofs.accounts_ok.Goals as goal

abbrev test : Start → ℕ → Bool
test s = ok s.args.words.now s.args.s

tested : (c : After-account_ok) → let l = c in c.account_ok.result ≡ test l.before.before.before.before l.loop-a.a
tested c = c.account_ok.ensures ∙ ap account_ok c.account_at.ensures

pub returns-then-not-account_ok : goal.returns-then-not-account_ok
returns-then-not-account_ok c =
    let l = c in let s = l in
    sym (all-fails s.args.s.n (test (goal.at.returns-then-not-account_ok s).Start) l.loop-a.a (omega arith) (fails (tested (goal.at.returns-then-not-account_ok c).After-account_ok) (ap not c.if-not-account_ok.true)))

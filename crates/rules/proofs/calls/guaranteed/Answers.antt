-- With a guarantee and a cap in range an F's record stays sound, so that its LG value can be asked. Assumes nothing.
use Rattle.std.specs.Prelude.{◌≡◌, true}
use Rattle.std.proofs.Common.{rules}
use Rattle.rules.specs.AccountCalls.{guarantee_ok, guaranteed}
use Rattle.rules.specs.AccountCallsLaws.{with_guarantee-sound}
use Rattle.rules.proofs.calls.guaranteed.Goals.{then-not-guarantee_ok-via-then-not-guarantee_ok, then-not-guarantee_ok-via-else-not-guarantee_ok+then-not-guarantee_ok-2}
use Rattle.rules.proofs.calls.guaranteed.Goals as goal

pub returns-then-not-guarantee_ok : goal.returns-then-not-guarantee_ok
unfolding guaranteed
returns-then-not-guarantee_ok c =
    elim c.then-not-guarantee_ok.branch [
      | then-not-guarantee_ok-via-then-not-guarantee_ok w ↦ search rules
      | then-not-guarantee_ok-via-else-not-guarantee_ok+then-not-guarantee_ok-2 w ↦ search rules
    ]

pub lg_value-requires : goal.lg_value-requires
lg_value-requires c = let e = with_guarantee-sound c.args.account c.args.guarantee c.args.cap c.requires (search rules) (search rules) (search rules) in search rules

pub returns : goal.returns
unfolding guaranteed
returns c = search rules

-- The question of a ledger that is sound.
use mathlib.Core.Path.{◌∙◌}
use Rattle.whole.specs.Signs.{arg}
use Rattle.places.specs.Place.{get}
use Rattle.places.specs.ByAccount.{by_account}
use Rattle.acts.specs.Requests.{question_rule}
use Rattle.calls.specs.LedgerLaws.{asked}
use Rattle.calls.proofs.question.Goals as goal

pub returns : goal.returns
returns c =
    let b = c in
    asked b.args.s b.args.words.now b.requires b.args.a
    (c.question_in.ensures ∙ (λ i. (question_rule (arg b.ranges.a i) b.args.s (get by_account b.args.s b.args.words.now)).answer))

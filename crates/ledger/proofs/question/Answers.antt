-- The gate, then the rule on a ledger that is sound. Assumes nothing.
use Rattle.std.proofs.Common.{◌∙◌, refl, to_z, of_z, w64}
use Rattle.whole.specs.Signs.{arg}
use Rattle.acts.specs.Requests.{question_rule}
use Rattle.places.specs.ByAccount.{by_account}
use Rattle.soundness.specs.PerformLaws.{shut, opened, gate_open}
use Rattle.ledger.specs.Answers.{question-finish}
use Rattle.ledger.proofs.question.Goals as goal

pub returns-in_default : goal.returns-in_default
returns-in_default c = shut _ c.sound_shape.ensures _ _ c.in_default.is refl c.refused.ensures

pub question_in-requires : goal.question_in-requires
question_in-requires c = opened _ c.sound_shape.ensures c.in-Some.is

pub returns : goal.returns
returns c =
    gate_open _ _ _ _ _ (λ i. question_rule (arg c.ranges.a i)) (opened _ c.sound_shape.ensures c.in-Some.is)
    ((λ i. (c.question_in.ensures i, c.args.words.now)) ∙ question-finish by_account c.in-Some.s c.args.words.now (to_z w64 (of_z w64 c.args.a)))

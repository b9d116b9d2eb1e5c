-- The account that is named, and the rule on its record. Assumes nothing.
use Rattle.std.specs.Prelude.{[], ◌∷◌}
use Rattle.std.proofs.Common.{ap, ◌∙◌, Ok}
use Rattle.whole.specs.Signs.{arg, came}
use Rattle.rules.specs.Refusal.{answer_of}
use Rattle.rules.specs.AccountCalls.{guaranteed}
use Rattle.places.specs.Place.{◌≔◌, guarantee, cap}
use Rattle.places.specs.ByAccount.{by_account}
use Rattle.soundness.specs.SoundLaws.{ledger_facts}
use Rattle.ledger.specs.Answers.{named, refusal, acceptance, handed_on}
use Rattle.ledger.proofs.requests.guarantee_in.Goals as goal

pub guaranteed-requires : goal.guaranteed-requires
guaranteed-requires c =
    let n = named c.args.s.n c.args.a _ c.in-Some.a (arg c.ranges.a) c.index_of.ensures c.in-Some.is in
    rw c.account_at.ensures ((ledger_facts by_account c.args.s c.args.words.now c.requires).account c.in-Some.a n.below)

pub returns-in_err-accepted : goal.returns-in_err-accepted
returns-in_err-accepted c =
    let n = named c.args.s.n c.args.a _ c.in-Some.a (arg c.ranges.a) c.index_of.ensures c.in-Some.is in
    let e = c.guaranteed.ensures ∙ (λ i. guaranteed c.account_at.result (arg c.ranges.guarantee i) (arg c.ranges.cap i)) in
    ap (λ r. (answer_of r, c.args.words.now)) (handed_on c.from_residual.ensures.0 c.from_residual.ensures.1)
    ∙ refusal by_account c.args.s c.args.words.now (λ whose. guaranteed whose c.args.guarantee c.args.cap) (λ k t. (guarantee k ≔ t.account.guarantee) ∷ (cap k ≔ t.account.cap) ∷ []) c.args.a c.in-Some.a n c.account_at.result c.account_at.ensures c.guaranteed.result e c.in_err-accepted.field-0.0 c.in_err-accepted.was

pub put_guarantee-requires-clause-a_lt_n : goal.put_guarantee-requires-clause-a_lt_n
put_guarantee-requires-clause-a_lt_n c = (named c.args.s.n c.args.a _ c.in-Some.a (arg c.ranges.a) c.index_of.ensures c.in-Some.is).below

pub returns : goal.returns
returns c =
    let n = named c.args.s.n c.args.a _ c.in-Some.a (arg c.ranges.a) c.index_of.ensures c.in-Some.is in
    let e = c.guaranteed.ensures ∙ (λ i. guaranteed c.account_at.result (arg c.ranges.guarantee i) (arg c.ranges.cap i)) in
    ap (λ z. (answer_of (Ok z), c.put_guarantee.new.words)) (came c.put_guarantee.result c.put_guarantee.type_inv c.put_guarantee.ensures.figure)
    ∙ acceptance by_account c.args.s c.args.words.now (λ whose. guaranteed whose c.args.guarantee c.args.cap) (λ k t. (guarantee k ≔ t.account.guarantee) ∷ (cap k ≔ t.account.cap) ∷ []) c.args.a c.in-Some.a n c.account_at.result c.account_at.ensures c.guaranteed.result e c.in_ok-accepted.accepted c.in_ok-accepted.was c.put_guarantee.new.words c.put_guarantee.ensures.words

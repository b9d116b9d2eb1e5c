-- The account that is named, and the rule on its record. Assumes nothing.
use Rattle.std.specs.Prelude.{◌≡◌, [], ◌∷◌}
use Rattle.std.proofs.Common.{ap, ◌∙◌, Ok}
use Rattle.whole.specs.Signs.{arg, came}
use Rattle.rules.specs.Refusal.{answer_of}
use Rattle.rules.specs.AccountCalls.{deposited}
use Rattle.places.specs.Place.{puts, ◌≔◌, cash}
use Rattle.places.specs.ByAccount.{by_account}
use Rattle.soundness.specs.SoundLaws.{ledger_facts}
use Rattle.ledger.specs.Answers.{named, words-left, same_words, refusal, acceptance, handed_on}
use Rattle.ledger.proofs.requests.deposit_in.Goals as goal

pub deposited-requires : goal.deposited-requires
deposited-requires c =
    let n = named c.args.s.n c.args.a _ c.in-Some.a (arg c.ranges.a) c.index_of.ensures c.in-Some.is in
    rw c.account_at.ensures ((ledger_facts by_account c.args.s c.args.words.now c.requires).account c.in-Some.a n.below)

pub returns-in_err-accepted : goal.returns-in_err-accepted
returns-in_err-accepted c =
    let n = named c.args.s.n c.args.a _ c.in-Some.a (arg c.ranges.a) c.index_of.ensures c.in-Some.is in
    let e = c.deposited.ensures ∙ (λ i. deposited c.account_at.result (arg c.ranges.x i)) in
    words-left
    _
    c.args.words.now
    _
    (search same_words)
    (ap (λ r. (answer_of r, c.args.words.now)) (handed_on c.from_residual.ensures.0 c.from_residual.ensures.1)
    ∙ refusal by_account c.args.s c.args.words.now (λ whose. deposited whose c.args.x) (λ k t. (cash k ≔ t.account.cash) ∷ []) c.args.a c.in-Some.a n c.account_at.result c.account_at.ensures c.deposited.result e c.in_err-accepted.field-0.0 c.in_err-accepted.was)

pub put_cash-requires-clause-a_lt_n : goal.put_cash-requires-clause-a_lt_n
put_cash-requires-clause-a_lt_n c = (named c.args.s.n c.args.a _ c.in-Some.a (arg c.ranges.a) c.index_of.ensures c.in-Some.is).below

pub returns : goal.returns
returns c =
    let n = named c.args.s.n c.args.a _ c.in-Some.a (arg c.ranges.a) c.index_of.ensures c.in-Some.is in
    let e = c.deposited.ensures ∙ (λ i. deposited c.account_at.result (arg c.ranges.x i)) in
    let put : c.put_cash.new.words ≡ puts by_account c.args.s c.args.words.now ((cash c.in-Some.a ≔ c.in_ok-accepted.accepted.account.cash) ∷ []) =
    c.put_cash.ensures.words ∙ ap (λ W. puts by_account c.args.s W ((cash c.in-Some.a ≔ c.in_ok-accepted.accepted.account.cash) ∷ [])) (search same_words) in
    ap (λ z. (answer_of (Ok z), c.put_cash.new.words)) (came c.put_cash.result c.put_cash.type_inv c.put_cash.ensures.figure)
    ∙ acceptance by_account c.args.s c.args.words.now (λ whose. deposited whose c.args.x) (λ k t. (cash k ≔ t.account.cash) ∷ []) c.args.a c.in-Some.a n c.account_at.result c.account_at.ensures c.deposited.result e c.in_ok-accepted.accepted c.in_ok-accepted.was c.put_cash.new.words put

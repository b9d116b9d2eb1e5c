-- The account that is named, and its standing. Assumes nothing.
use Rattle.std.proofs.Common.{ap, ◌∙◌}
use Rattle.whole.specs.Signs.{arg}
use Rattle.rules.specs.AccountCalls.{standing_of}
use Rattle.places.specs.Place.{get}
use Rattle.places.specs.ByAccount.{by_account}
use Rattle.soundness.specs.Sound.{account_at}
use Rattle.soundness.specs.SoundLaws.{ledger_facts}
use Rattle.ledger.specs.Answers.{named}
use Rattle.ledger.proofs.requests.question_in.Goals as goal

pub standing_of-requires : goal.standing_of-requires
standing_of-requires c =
    let n = named c.args.s.n c.args.a _ c.in-Some.a (arg c.ranges.a) c.index_of.ensures c.in-Some.is in
    rw c.account_at.ensures ((ledger_facts by_account c.args.s c.args.words.now c.requires).account c.in-Some.a n.below)

pub returns : goal.returns
returns c =
    let n = named c.args.s.n c.args.a _ c.in-Some.a (arg c.ranges.a) c.index_of.ensures c.in-Some.is in
    rw n.yes (c.standing_of.ensures ∙ ap standing_of (c.account_at.ensures ∙ ap (account_at (get by_account c.args.s c.args.words.now)) n.same))

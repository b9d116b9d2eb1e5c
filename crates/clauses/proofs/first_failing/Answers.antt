-- A list that is too short for a head has no shape; else its shape, then its places.
use Rattle.std.proofs.Common.{rules, arith, ◌≡◌, sym, ◌∙◌, length, le-leb}
use Rattle.std.proofs.lemmas.Bool.{lt-leb}
use Rattle.places.specs.Place.{get, heads}
use Rattle.places.specs.ByAccount.{by_account}
use Rattle.clauses.specs.Clauses.{or_else, of_shape, of_places}
use Rattle.clauses.proofs.ClauseLaws.{too_few, enough, answered}
use Rattle.clauses.proofs.first_failing.Goals as goal

pub returns-then-words-lt-HEADS : goal.returns-then-words-lt-HEADS
returns-then-words-lt-HEADS c =
    let W = c.args.words.now in
    answered by_account W (c.fails.ensures ∙ sym (too_few by_account W (lt-leb heads (length W) (omega arith))))

pub returns : goal.returns
returns c =
    let W = c.args.words.now in let s = c.shape_of-s.result in
    let r : c.or_else.result ≡ or_else (of_shape W s) (of_places s (get by_account s W)) = search rules in
    answered by_account W (r ∙ sym (enough by_account W s c.shape_of-s.ensures (le-leb heads (length W) (omega arith))))

-- `difference` meets its contract: the five figures are the places' words. Assumes nothing.
use Rattle.std.proofs.Common.{rules, ◌≡◌, pos, w64, to_z, of_z, slice_index_or}
use Rattle.whole.specs.Counting.{figure_at}
use Rattle.whole.specs.Signs.{came}
use Rattle.places.specs.Place.{get}
use Rattle.places.specs.ByAccount.{by_account}
use Rattle.daily.specs.Ranges.{fair}
use Rattle.daily.proofs.difference.Goals as goal

pub difference_of-requires : goal.difference_of-requires
difference_of-requires c =
    let j = c.args.j in let g = get by_account c.args.s c.args.words.now in let W = c.args.prices.now in
    let k = c.prod_word in let n = c.held_word in let b = c.held_word-2 in let q = c.quoted_at in
    let e : to_z w64 (of_z w64 (slice_index_or W j (pos 0))) ≡ figure_at W j = search rules in
    rw (
      came k.result k.type_inv k.ensures,
      came n.result n.type_inv n.ensures,
      came b.result b.type_inv b.ensures,
      e,
      came q.result q.type_inv q.ensures,
    )
    (fair W c.args.s g c.args.a c.requires.named.1 j c.requires.a_lt_n.1)

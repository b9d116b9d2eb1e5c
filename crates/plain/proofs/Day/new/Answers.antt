-- The table states no more products than a ledger has.
use Rattle.std.proofs.Common.{◌≤◌, sym, subst}
use Rattle.places.specs.Act.{most_products}
use Rattle.dayfile.specs.declared.Contents.{Contents}
use Rattle.dayfile.proofs.ContentsLaws.{contents_modest}
use Rattle.plain.proofs.Day.new.Goals as goal

pub invariant_of-result : goal.invariant_of-result
invariant_of-result c = record {
  few = subst (λ (t : Contents). t.products ≤ most_products) (sym c.read_contents-contents.ensures) (contents_modest c.args.text.now).products_few;
}

-- `sheet_by` meets its contract: the counts are small, so that the words of the ledger are a first part of the words lent. Assumes nothing.
use mathlib.Core.Path.{◌≡◌, sym, subst}
use Prim.Native.Nat.{ℕ}
use lib.Seq.{length-take-le}
use Rattle.dayfile.specs.InsideDayfile.{Modest}
use Rattle.dayfile.proofs.ContentsLaws.{contents_modest, first-words}
use Rattle.dayfile.specs.declared.Contents.{Contents}
use Rattle.std.specs.Prelude.{List}
use Rattle.dayfile.specs.Table.{contents_of}
use Rattle.day.proofs.sheet_by.Goals as goal

-- what is read is modest, and the words of its ledger are the first of those that were lent
modest : (text : List ℕ) (c : Contents) → c ≡ contents_of text → Modest c
modest text c e = subst Modest (sym e) (contents_modest text)

pub words_of-len-requires : goal.words_of-len-requires
words_of-len-requires c = let m = modest c.args.text.now c.read_contents-c.result c.read_contents-c.ensures in (m.accounts_few, m.products_few)

pub slice_bounds-day_sheet-end : goal.slice_bounds-day_sheet-end
slice_bounds-day_sheet-end c =
    let r = c.read_contents-c in
    (first-words r.result (modest c.args.text.now r.result r.ensures) c.args.words.now c.requires.fact_1 c.words_of-len.result c.words_of-len.ensures).0

pub day_sheet-requires : goal.day_sheet-requires
day_sheet-requires c =
    let r = c.read_contents-c in
    let m = modest c.args.text.now r.result r.ensures in
    record {
      fact_1 = m;
      fact_2 = (first-words r.result m c.args.words.now c.requires.fact_1 c.words_of-len.result c.words_of-len.ensures).1;
      fact_3 = c.requires.fact_2;
    }

pub slice_bounds-day_sheet-end-2 : goal.slice_bounds-day_sheet-end-2
slice_bounds-day_sheet-end-2 c =
    let r = c.read_contents-c in
    sym (length-take-le c.words_of-len.result c.args.words.now (first-words r.result (modest c.args.text.now r.result r.ensures) c.args.words.now c.requires.fact_1 c.words_of-len.result c.words_of-len.ensures).0)

-- The counts are small, so that the words of the ledger are a first part of the words lent.
use Rattle.std.proofs.Common.{◌≡◌, ℕ, ◌≤◌, List, length, take, replicate, ℤ, pos, sym, subst}
use lib.Seq.{length-take-le}
use Rattle.places.specs.Act.{most_words}
use Rattle.places.specs.Place.{words_of}
use Rattle.dayfile.specs.declared.Contents.{Contents}
use Rattle.dayfile.specs.InsideDayfile.{Modest}
use Rattle.dayfile.specs.Table.{contents_of, ledger_shape}
use Rattle.dayfile.proofs.ContentsLaws.{contents_modest, first-words}
use Rattle.plain.proofs.start.failing_by.Goals as goal

modest : (text : List ℕ) (t : Contents) → t ≡ contents_of text → Modest t
modest text t e = subst Modest (sym e) (contents_modest text)

-- what the words of the ledger take
words : (text : List ℕ) (t : Contents) → t ≡ contents_of text → (W : List ℤ) → W ≡ replicate most_words (pos 0) → (len : ℕ) → len ≡ words_of (ledger_shape t)
    → (len ≤ length W) × (take len W ≡ replicate (words_of (ledger_shape t)) (pos 0))
words text t e = first-words t (modest text t e)

pub words_of-len-requires : goal.words_of-len-requires
words_of-len-requires c =
    let m = modest c.args.text.now c.read_contents-c.result c.read_contents-c.ensures in
    (m.accounts_few, m.products_few)

pub slice_bounds-failing_in-end : goal.slice_bounds-failing_in-end
slice_bounds-failing_in-end c =
    (words c.args.text.now c.read_contents-c.result c.read_contents-c.ensures c.args.words.now c.requires c.words_of-len.result c.words_of-len.ensures).0

pub slice_bounds-failing_in-end-2 : goal.slice_bounds-failing_in-end-2
slice_bounds-failing_in-end-2 c =
    sym
    (length-take-le c.words_of-len.result c.args.words.now
    (words c.args.text.now c.read_contents-c.result c.read_contents-c.ensures c.args.words.now c.requires c.words_of-len.result c.words_of-len.ensures).0)

pub failing_in-requires : goal.failing_in-requires
failing_in-requires c = (
  modest c.args.text.now c.read_contents-c.result c.read_contents-c.ensures,
  (words c.args.text.now c.read_contents-c.result c.read_contents-c.ensures c.args.words.now c.requires c.words_of-len.result c.words_of-len.ensures).1,
)

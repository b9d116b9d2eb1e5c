-- What has no room is cut: a page that is full holds as much of the bytes as it keeps.
use Rattle.std.proofs.Common.{rules, ◌≡◌, ◌+◌, ◌++◌, ◌∙◌, sym, ap, length, take}
use Rattle.std.proofs.lemmas.Slice.{overwrites}
use Rattle.std.proofs.Math.Seq.{take-append-add}
use Rattle.faults.specs.Page.{written}
use Rattle.faults.proofs.page.Page.put.Goals as goal

pub returns-then-kept-bytes-clause-written : goal.returns-then-kept-bytes-clause-written
returns-then-kept-bytes-clause-written c =
    let page = c.args.self.now in let bytes = c.args.bytes.now in let kept = c.min-kept.result in
    let full : length (written page) + kept ≡ length page.out.now = search rules in
    search (rules, overwrites) ∙ sym (take-append-add (written page) bytes kept) ∙ ap (λ n. take n (written page ++ bytes)) full

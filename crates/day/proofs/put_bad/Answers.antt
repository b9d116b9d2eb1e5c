-- A word, and a count with its line feed, are the line of a bad text.
use mathlib.Core.Path.{refl}
use mathlib.Core.List.{[], ◌++◌}
use lib.IntN.{pos}
use Rattle.lines.specs.Bytes.{bytes}
use Rattle.lines.specs.Print.{field, numbers_line, bad_line}
use Rattle.lines.proofs.WriteLaws.{wrote_none, wrote_more, wrote_done}
use Rattle.day.proofs.put_bad.Goals as goal

pub returns : goal.returns
unfolding bad_line numbers_line
returns c =
    let a = c.args in
    let w = c.put_word-at in
    let k = c.put_count in
    let number = field (pos a.k) 10 in
    let w1 = wrote_more (wrote_none a.out.now 0 (bad_line a.k)) (bytes "BAD ") (number ++ []) refl w.ensures.0 w.ensures.1 in
    wrote_done (wrote_more w1 number [] refl k.ensures.0 k.ensures.1) refl

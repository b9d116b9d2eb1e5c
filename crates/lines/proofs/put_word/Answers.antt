-- Bytes that are copied are bytes that are stored in a row.
use mathlib.Core.Path.{refl}
use Rattle.lines.proofs.WriteLaws.{put_mid-sets}
use Rattle.lines.proofs.put_word.Goals as goal

pub returns : goal.returns
returns c = (refl, put_mid-sets c.args.out.now c.copy_from_slice.new.self c.args.word.now c.args.at c.copy_from_slice.ensures.after c.requires)

-- `sheet` meets its contract: the two tests decide which answer it is; the sheet at the start of a list with room is the list with its first bytes replaced.
use Rattle.lines.specs.Print.{bad_line}
use Rattle.dayfile.specs.Day.{bodies_of}
use Rattle.dayfile.specs.Table.{contents_of}
use Rattle.calls.specs.Ledger.{the_ledger}
use Rattle.day.specs.Sheet.{day_sheet}
use Rattle.day.proofs.SheetLaws.{sheet_long, sheet_short, answer-is}
use Rattle.day.proofs.sheet.Goals as goal

pub returns-then-text-gt-LONGEST : goal.returns-then-text-gt-LONGEST
returns-then-text-gt-LONGEST c =
    let t = c in
    let a = t.args in
    let k = c.put_bad.ensures in
    answer-is the_ledger a.text.now a.out.now (bad_line 0) t.if-out-lt-ROOM.false (sheet_long the_ledger a.text.now t.if-text-gt-LONGEST.true) k.0 k.1

pub returns : goal.returns
returns c =
    let t = c in
    let a = t.args in
    let k = c.sheet_by.ensures in
    answer-is the_ledger a.text.now a.out.now (day_sheet the_ledger (bodies_of a.text.now (contents_of a.text.now))) t.if-out-lt-ROOM.false (sheet_short the_ledger a.text.now t.if-text-gt-LONGEST.false) k.0 k.1

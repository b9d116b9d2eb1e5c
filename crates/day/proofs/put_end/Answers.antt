-- One account's line more is one account's line less to write; behind the last is the house.
use mathlib.Core.Path.{refl, sym, ◌∙◌}
use mathlib.Core.List.{[], ◌++◌, append-nil}
use Prim.Native.Nat.{◌+◌, ◌-◌}
use native.Mathlib.Omega.{arith}
use Rattle.lines.specs.Print.{numbers_line}
use Rattle.lines.proofs.PrintLaws.{line-length}
use Rattle.lines.proofs.WriteLaws.{wrote_more, wrote_done}
use Rattle.calls.specs.Ledger.{the_ledger}
use Rattle.day.specs.Sheet.{account_numbers, accounts_part, house_part}
use Rattle.day.proofs.CallsPartLaws.{accounts-more, accounts-none}
use Rattle.day.proofs.put_end.Goals as goal

pub loop-a-preserved : goal.loop-a-preserved
loop-a-preserved c =
    let l = c.loop-a in
    let a = c.args in
    let k = c.put_account-at in
    let numbers = account_numbers the_ledger a.s l.a a.words.now in
    let rest = accounts_part the_ledger a.s (l.a + 1) (a.s.n - (l.a + 1)) a.words.now ++ house_part a.s a.words.now in (
      omega (arith, k.ensures.0, k.auto.out, line-length numbers),
      wrote_more l.invariant.1 (numbers_line numbers) rest (accounts-more the_ledger a.s l.a a.words.now (omega arith)) k.ensures.0 k.ensures.1,
    )

pub returns : goal.returns
returns c =
    let l = c.loop-a in
    let a = c.args in
    let k = c.put_house in
    let h = house_part a.s a.words.now in
    wrote_done (wrote_more l.invariant.1 h [] (accounts-none the_ledger a.s l.a a.words.now (omega arith) ∙ sym (append-nil h)) k.ensures.0 k.ensures.1) refl

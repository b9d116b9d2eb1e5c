-- `rules::accounts::next_day_need` meets its contract: by the sign of due 1 it is what both dues take away or what due 0 does; the sum fits, as dues are
-- bounded. Assumes nothing.
use mathlib.Core.Path.{◌≡◌, sym, ap, ◌∙◌}
use mathlib.Core.Bool.{true, false}
use lib.IntN.{pos, ◌+ℤ◌}
use lib.Signed.{lt_z}
use mir.Syntax.{w64}
use mir.Val.{to_z, of_z}
use Rattle.whole.specs.Number.{takes_away}
use Rattle.whole.specs.Signs.{came}
use Rattle.whole.specs.Whole.{whole, facts, by}
use Rattle.rules.specs.AccountLaws.{AccountIn, account_facts, need-of-both, need-of-today}
use Rattle.rules.proofs.accounts.next_day_need.Goals.{Start}
use Rattle.rules.proofs.accounts.next_day_need.Goals as goal

sound : (s : Start) → AccountIn s.args.account
sound s = account_facts s.args.account s.requires

due0-is : (s : Start) → to_z w64 (of_z w64 s.args.account.due0) ≡ s.args.account.due0
due0-is s = let i = sound s in by (search whole depth 20) (omega facts)

due1-is : (s : Start) → to_z w64 (of_z w64 s.args.account.due1) ≡ s.args.account.due1
due1-is s = let i = sound s in by (search whole depth 20) (omega facts)

sum_is : (s : Start) → to_z w64 (of_z w64 (to_z w64 (of_z w64 s.args.account.due0) +ℤ to_z w64 (of_z w64 s.args.account.due1))) ≡ s.args.account.due0 +ℤ s.args.account.due1
sum_is s = let i = sound s in by (search whole depth 20) (omega facts)

pub overflow_add-due0 : goal.overflow_add-due0
overflow_add-due0 c = let i = sound (goal.at.overflow_add-due0 c).Start in by (search whole depth 20) (omega facts)

pub takes_away-requires : goal.takes_away-requires
takes_away-requires c = let i = sound (goal.at.takes_away-requires c).Start in by (search whole depth 20) (omega facts)

pub returns-then-due1-lt0 : goal.returns-then-due1-lt0
returns-then-due1-lt0 c =
    let s = c in let h : lt_z s.args.account.due1 (pos 0) ≡ true = rw (due1-is (goal.at.returns-then-due1-lt0 s).Start) at c.if-due1-lt0.true in
    came c.takes_away.result c.takes_away.type_inv (c.takes_away.ensures ∙ ap takes_away (sum_is (goal.at.returns-then-due1-lt0 s).Start) ∙ sym (need-of-both s.args.account h))

pub takes_away-requires-2 : goal.takes_away-requires-2
takes_away-requires-2 c = let i = sound (goal.at.takes_away-requires-2 c).Start in by (search whole depth 20) (omega facts)

pub returns : goal.returns
returns c =
    let s = c in let h : lt_z s.args.account.due1 (pos 0) ≡ false = rw (due1-is (goal.at.returns s).Start) at c.if-due1-lt0.false in
    came c.takes_away-2.result c.takes_away-2.type_inv (c.takes_away-2.ensures ∙ ap takes_away (due0-is (goal.at.returns s).Start) ∙ sym (need-of-today s.args.account h))

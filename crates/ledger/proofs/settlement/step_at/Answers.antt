-- `step_at` meets its contract: the transfer, then house and phase. Assumes nothing.
use mathlib.Core.Path.{◌≡◌, ap, ap₂, ◌∙◌}
use Prim.Native.Nat.{◌+◌, ◌^◌}
use native.Mathlib.Omega.{arith}
use lib.IntN.{ℤ, pos, nat_abs, ◌-ℤ◌}
use mir.Syntax.{w64}
use mir.Val.{SFits, to_z, of_z}
use mir.ValLaws.{to_z_pos}
use Rattle.whole.specs.Tests.{abs_sub, within_true}
use Rattle.whole.specs.Signs.{arg, came}
use Rattle.whole.specs.Reps.{small}
use Rattle.rules.specs.Sizes.{most_house}
use Rattle.places.specs.Place.{View, get, put, house, phase, due}
use Rattle.places.specs.ByAccount.{by_account}
use Rattle.soundness.specs.SoundLaws.{ledger_facts, facts_dues}
use Rattle.ledger.proofs.settlement.step_at.Goals.{After-acct_word, Start}
use Rattle.ledger.proofs.settlement.step_at.Goals as goal

-- the house after the step
module _ (c : After-acct_word) where
  abbrev s : After-acct_word
  s = c

  abbrev g : View
  g = get by_account s.args.s s.args.words.now

  abbrev code : ℤ
  code = to_z w64 (of_z w64 c.head_word.result) -ℤ to_z w64 (of_z w64 c.acct_word.result)

  abbrev left : ℤ
  left = g house -ℤ g (due s.args.a 0)

  left_is : code ≡ left
  left_is =
      let h = c.head_word in let w = c.acct_word in
      ap₂ ◌-ℤ◌ (came h.result h.type_inv h.ensures) (came w.result w.type_inv w.ensures)

  fits : SFits w64 code
  fits =
      let f = ledger_facts by_account s.args.s s.args.words.now s.requires.ledger in
      let h = within_true most_house (g house) f.house_in in
      let d = (facts_dues s.args.s g f).at s.args.a s.requires.a_lt_n.0 in
      rw left_is (small left (2 ^ 62) (omega (arith, abs_sub (g house) (g (due s.args.a 0)))) (omega arith))

pub overflow_sub-left : goal.overflow_sub-left
overflow_sub-left c = fits c

pub returns : goal.returns
returns c =
    let d = c in let x = (s (goal.at.returns d).After-acct_word).args.s in let W = (s (goal.at.returns d).After-acct_word).args.words.now in let a = (s (goal.at.returns d).After-acct_word).args.a in
    let one = c.transfer_at.ensures in
    let two = c.put_head.ensures ∙ (λ i. put by_account x (one i) house ((arg (fits (goal.at.returns d).After-acct_word) ∙ left_is (goal.at.returns d).After-acct_word) i)) in
    let e : a + 2 ≡ nat_abs (g (goal.at.returns d).After-acct_word phase) + 1 = omega (arith, (s (goal.at.returns d).After-acct_word).requires.a_lt_n.1) in
    record { figure = to_z_pos w64 a (omega arith); words = c.put_head-2.ensures ∙ (λ i. put by_account x (two i) phase ((to_z_pos w64 (a + 2) (omega arith) ∙ ap pos e) i)) }

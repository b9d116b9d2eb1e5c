-- `transfer_at` meets its contract: the part lent begins at the account's record, whose words stand in a row. Assumes nothing.
use mathlib.Core.Path.{◌≡◌, sym, ap, ◌∙◌}
use mathlib.Core.List.{List, ◌++◌}
use Prim.Native.Nat.{ℕ, ◌+◌}
use native.Mathlib.Omega.{arith}
use lib.IntN.{ℤ, pos, ◌+ℤ◌}
use lib.ListN.{get_or, set, take, drop, length-drop}
use lib.Seq.{get_or-drop}
use Rattle.whole.specs.Parts.{part_tail, put_tail, set_tail_two}
use Rattle.rules.specs.AccountLaws.{AccountIn, account_facts}
use Rattle.places.specs.Place.{View, get, cash, due}
use Rattle.places.specs.PlaceLaws.{row_at, row_word, row_inside}
use Rattle.places.specs.ByAccount.{by_account}
use Rattle.soundness.specs.Sound.{account_at}
use Rattle.soundness.specs.SoundLaws.{ledger_facts}
use Rattle.ledger.proofs.settlement.transfer_at.Goals.{After-acct_at-at, Start}
use Rattle.ledger.proofs.settlement.transfer_at.Goals as goal

module _ (c : After-acct_at-at) where
  abbrev s : After-acct_at-at
  s = c

  abbrev W : List ℤ
  W = s.args.words.now

  abbrev at : ℕ
  at = c.acct_at-at.result

  abbrev g : View
  g = get by_account s.args.s W

  -- a word of the part is the account's
  word : (f : ℕ) → get_or (drop at W) f (pos 0) ≡ get_or W (at + f) (pos 0)
  word f = get_or-drop at W f (pos 0)

  cash-is : get_or (drop at W) 1 (pos 0) ≡ g (cash s.args.a)
  cash-is = word 1 ∙ row_word by_account s.args.s W s.args.a at c.acct_at-at.ensures.0 1

  due_is : get_or (drop at W) 5 (pos 0) ≡ g (due s.args.a 0)
  due_is = word 5 ∙ row_word by_account s.args.s W s.args.a at c.acct_at-at.ensures.0 5

  known : AccountIn (account_at g s.args.a)
  known = account_facts (account_at g s.args.a) ((ledger_facts by_account s.args.s W s.requires.ledger).account s.args.a s.requires.a_lt_n)

pub transfer-requires : goal.transfer-requires
transfer-requires c =
    let d = c in let a = (s (goal.at.transfer-requires d).After-acct_at-at).args.a in
    let l = row_inside by_account (s (goal.at.transfer-requires d).After-acct_at-at).args.s (W (goal.at.transfer-requires d).After-acct_at-at) a (at (goal.at.transfer-requires d).After-acct_at-at) d.acct_at-at.ensures.0 5 (s (goal.at.transfer-requires d).After-acct_at-at).requires.ledger.sized.sized (s (goal.at.transfer-requires d).After-acct_at-at).requires.a_lt_n (omega arith) in
    rw (part_tail (W (goal.at.transfer-requires d).After-acct_at-at) (at (goal.at.transfer-requires d).After-acct_at-at))
    (record { in_bounds = omega (arith, length-drop (at (goal.at.transfer-requires d).After-acct_at-at) (W (goal.at.transfer-requires d).After-acct_at-at)); pos_bound_1 = rw (cash-is (goal.at.transfer-requires d).After-acct_at-at) (known (goal.at.transfer-requires d).After-acct_at-at).cash_in; pos_bound_2 = rw (due_is (goal.at.transfer-requires d).After-acct_at-at) (known (goal.at.transfer-requires d).After-acct_at-at).due0_in })

pub returns : goal.returns
returns c =
    let d = c in let a = (s (goal.at.returns d).After-acct_at-at).args.a in let x = (s (goal.at.returns d).After-acct_at-at).args.s in let e = d.acct_at-at.ensures.0 in
    put_tail (W (goal.at.returns d).After-acct_at-at) (at (goal.at.returns d).After-acct_at-at) c.transfer.new.part
    ∙ ap (λ l. take (at (goal.at.returns d).After-acct_at-at) (W (goal.at.returns d).After-acct_at-at) ++ l) (c.transfer.ensures ∙ ap (λ l. set (set l 1 (get_or l 1 (pos 0) +ℤ get_or l 5 (pos 0))) 5 (pos 0)) (part_tail (W (goal.at.returns d).After-acct_at-at) (at (goal.at.returns d).After-acct_at-at)))
    ∙ sym (set_tail_two (W (goal.at.returns d).After-acct_at-at) (at (goal.at.returns d).After-acct_at-at) 1 5 (get_or (drop (at (goal.at.returns d).After-acct_at-at) (W (goal.at.returns d).After-acct_at-at)) 1 (pos 0) +ℤ get_or (drop (at (goal.at.returns d).After-acct_at-at) (W (goal.at.returns d).After-acct_at-at)) 5 (pos 0)) (pos 0))
    ∙ (λ i. set (set (W (goal.at.returns d).After-acct_at-at) (row_at by_account x (W (goal.at.returns d).After-acct_at-at) a (at (goal.at.returns d).After-acct_at-at) e 1 i) (cash-is (goal.at.returns d).After-acct_at-at i +ℤ due_is (goal.at.returns d).After-acct_at-at i)) (row_at by_account x (W (goal.at.returns d).After-acct_at-at) a (at (goal.at.returns d).After-acct_at-at) e 5 i) (pos 0))

-- `begin_in` meets its contract: 7, 13, or phase 1. Assumes nothing.
use mathlib.Core.List.{List}
use native.Mathlib.Omega.{arith}
use lib.IntN.{ℤ}
use Rattle.whole.specs.Tests.{within_true}
use Rattle.whole.specs.Signs.{came}
use Rattle.rules.specs.Sizes.{most_house}
use Rattle.places.specs.Place.{View, get, house}
use Rattle.places.specs.ByAccount.{by_account}
use Rattle.soundness.specs.SoundLaws.{ledger_facts, facts_dues}
use Rattle.ledger.proofs.settlement.begin_in.Goals.{Start}
use Rattle.ledger.proofs.settlement.begin_in.Goals as goal

module _ (s : Start) where
  abbrev W : List ℤ
  W = s.args.words.now

  abbrev g : View
  g = get by_account s.args.s W

pub stays-requires : goal.stays-requires
stays-requires c = let s = c in let h = c.head_word-2 in let f = ledger_facts by_account s.args.s (W (goal.at.stays-requires s).Start) s.requires in
    record { sized = s.requires.sized; dues_in = facts_dues s.args.s (g (goal.at.stays-requires s).Start) f; house_bound = rw (came h.result h.type_inv h.ensures) (within_true most_house (g (goal.at.stays-requires s).Start house) f.house_in); from_le_n = omega arith }

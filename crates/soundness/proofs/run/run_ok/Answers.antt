-- `run_ok` meets its contract: in phase 0 nothing is asked; else due 0 of the accounts done, then the walk over those to come. Assumes nothing.
use Prim.Native.Nat.{◌+◌, ◌≤◌}
use native.Mathlib.Omega.{arith}
use mathlib.Core.Path.{◌≡◌, ap, ◌∙◌}
use lib.IntN.{nat_abs}
use Rattle.whole.specs.Tests.{in-range}
use Rattle.whole.specs.Signs.{came}
use Rattle.places.specs.Place.{View, get, phase}
use Rattle.places.specs.ByAccount.{by_account}
use Rattle.soundness.specs.Sound as S
use Rattle.soundness.specs.SoundLaws.{phase_in, house_in, dues_in}
use Rattle.soundness.proofs.run.run_ok.Goals.{After-done_ok, After-unsigned_abs-turn, Start}
use Rattle.soundness.proofs.run.run_ok.Goals as goal

abbrev g : Start → View
g s = get by_account s.args.s s.args.words.now

turned : (c : After-unsigned_abs-turn) → c.unsigned_abs-turn.result ≡ S.turn (g c.before.before)
turned c = let w = c.head_word in c.unsigned_abs-turn.ensures.value ∙ ap nat_abs (came w.result w.type_inv w.ensures)

-- the phase is one of the ledger's
most : (s : Start) → S.turn (g s) ≤ s.args.s.n + 1
most s = (in-range 0 (s.args.s.n + 1) (g s phase) (phase_in s.args.s (g s) s.requires.words_value)).high

pub stays-requires : goal.stays-requires
stays-requires c = let w = c.head_word-2 in let d = c in let s = d in
    record { sized = s.requires.sized; dues_in = dues_in s.args.s (g (goal.at.stays-requires s).Start) s.requires.words_value; house_bound = rw (came w.result w.type_inv w.ensures) (house_in s.args.s (g (goal.at.stays-requires s).Start) s.requires.words_value); from_le_n = omega (arith, turned (goal.at.stays-requires d).After-unsigned_abs-turn, most (goal.at.stays-requires s).Start) }

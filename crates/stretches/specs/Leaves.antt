-- The words in which the theorems beyond the demand are stated: which events a stretch has, told from the list alone; what a history leaves; what
-- a run with no request between its transfers does. The theorems are in `Demand3` and `RunAlone`. Assumes nothing.
use Rattle.std.specs.Prelude.{◌≡◌, List, [], ◌∷◌, true, ◌≢◌, ℕ, zero, suc, ◌+◌, ◌<◌, eqb, ℤ, pos, ◌+ℤ◌, ◌-ℤ◌}
use Rattle.whole.specs.Counting.{sum}
use Rattle.places.specs.declared.Shape.{Shape}
use Rattle.places.specs.Place.{Place, Has, View, Layout, phase, house, cash, due}
use Rattle.places.specs.Act.{shape_of}
use Rattle.soundness.specs.Sound.{sound}
use Rattle.soundness.specs.Perform.{replies}
use Rattle.stretches.specs.Stretch.{Stretch, rank, only}
use Rattle.stretches.specs.History.{Event, Answer, said, judge, made, phase_of}

-- the same choice as `events_of` makes from phase f, by the list alone: the phase counts the transfers
abbrev pub chosen : ℕ → ℕ → Stretch → List Event → List Event
chosen n f c [] = []
chosen n f c (e ∷ es) = only (eqb (rank c) (rank (judge n f e))) e (chosen n (f + made e) c es)

-- ---- the run with no request between its transfers: every due 0 is settled, once

-- the answers of m transfers from the account k on: 0, and the account stepped
abbrev pub stepped_from : ℕ → ℕ → List Answer
stepped_from k zero = []
stepped_from k (suc m) = said (replies 0 (pos k)) ∷ stepped_from (suc k) m

-- a place that a run leaves as it is: any but phase, house, and an account's cash and due 0
abbrev pub Stands : Place → Type 0
Stands q = ((a : ℕ) → (q ≢ cash a) × (q ≢ due a 0)) × (q ≢ house) × (q ≢ phase)

-- what stands at the places before the run and after it
pub record Settled (s : Shape) (before now : View) : Type 0 where
  pub none_due : (a : ℕ) → a < s.n → now (due a 0) ≡ pos 0
  pub received : (a : ℕ) → a < s.n → now (cash a) ≡ before (cash a) +ℤ before (due a 0)
  pub from_house : now house ≡ before house -ℤ sum s.n (λ a. before (due a 0))
  pub phase_done : now phase ≡ pos (s.n + 1)
  pub rest : (q : Place) → Has s q → Stands q → now q ≡ before q

-- ---- what is left: a sound ledger of the shape s in phase f
pub record LeftIn (L : Layout) (W : List ℤ) (s : Shape) (f : ℕ) : Type 0 where
  pub sound_words : sound L W ≡ true
  pub same_shape : shape_of W ≡ s
  pub phase_is : phase_of L W ≡ f

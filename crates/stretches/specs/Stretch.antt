-- Stretches, of any states, acts and answers; nothing here knows of a ledger. An act on a state gives an answer and a state. Each act of a
-- history is judged, at its moment, to belong to a stretch: early, run or late, or to be idle. What a reader believes; the law is in `Sort`.
use Rattle.std.specs.Prelude.{◌≡◌, List, [], ◌∷◌, Bool, true, false, ℕ, eqb}

pub data Stretch : Type 0 where
  early : Stretch
  run : Stretch
  late : Stretch
  idle : Stretch

abbrev pub rank : Stretch → ℕ
rank early = 0
rank run = 1
rank late = 2
rank idle = 3

-- x before xs, or xs alone
abbrev pub only : {X : Type 0} → Bool → X → List X → List X
only true x xs = x ∷ xs
only false x xs = xs

module _ {S A E : Type 0} (act : S → E → A × S) where
  -- one act after another: all answers, and the state at the end
  abbrev pub answers : S → List E → List A
  answers s [] = []
  answers s (e ∷ es) = (act s e).0 ∷ answers (act s e).1 es

  abbrev pub end : S → List E → S
  end s [] = s
  end s (e ∷ es) = end (act s e).1 es

  module _ (stretch : S → E → Stretch) where
    -- the acts of a history that belong to the stretch c, each judged at its moment, and the answers that they got then
    abbrev pub pick : Stretch → S → List E → List E
    pick c s [] = []
    pick c s (e ∷ es) = only (eqb (rank c) (rank (stretch s e))) e (pick c (act s e).1 es)

    abbrev pub heard : Stretch → S → List E → List A
    heard c s [] = []
    heard c s (e ∷ es) = only (eqb (rank c) (rank (stretch s e))) (act s e).0 (heard c (act s e).1 es)

    -- each idle act of the history, at its moment, gets an answer of which No says what it is, and changes nothing
    abbrev pub Idle : (S → E → A → Type 0) → S → List E → Type 0
    Idle No s [] = Unit {0}
    Idle No s (e ∷ es) = (stretch s e ≡ idle → No s e (act s e).0 × ((act s e).1 ≡ s)) × Idle No (act s e).1 es

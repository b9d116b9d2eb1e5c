-- A call on the ledger's words (01, "Numbers returned"): a list that is not sound is refused with 1 and stays; on any other the call's rule
-- answers, and its puts are made. Nothing else changes.
use Rattle.std.specs.Prelude.{List, [], ℕ, ℤ, pos}
use Rattle.places.specs.Place.{Layout, Put}
use Rattle.places.specs.Act.{Act, Rule, perform_by}
use Rattle.rules.specs.declared.Reply.{Reply}
use Rattle.rules.specs.declared.Standing.{Standing}
use Rattle.soundness.specs.Sound.{places_ok}

abbrev pub replies : ℕ → ℤ → Reply
replies k z = record { number = k; figure = z }

-- a refusal with its figure: nothing is put; where the paper names no figure it is 0
abbrev pub refuse_at : ℕ → ℤ → Act Reply
refuse_at k z = record { answer = replies k z; puts = [] }

abbrev pub refuse : ℕ → Act Reply
refuse k = refuse_at k (pos 0)

-- success with a figure, and what is put
abbrev pub does : ℤ → List Put → Act Reply
does z us = record { answer = replies 0 z; puts = us }

abbrev pub perform : Layout → List ℤ → Rule Reply → Reply × List ℤ
perform = perform_by places_ok (refuse 1)

-- a question about one account: limit and both shortfalls, all three 0 when refused
abbrev pub refuse_question : ℕ → Act Standing
refuse_question k = record { answer = record { number = k; limit = pos 0; first = pos 0; second = pos 0 }; puts = [] }

abbrev pub ask : Layout → List ℤ → Rule Standing → Standing × List ℤ
ask = perform_by places_ok (refuse_question 1)

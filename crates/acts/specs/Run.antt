-- The settlement run (01, "The day"). Begin: phase 0 to 1. Step: phase f of 1..n; account f-1's due 0 is added to cash, taken from house and set
-- to 0; phase rises by one.
use Rattle.std.specs.Prelude.{List, [], ◌∷◌, ◌++◌, ℕ, ◌+◌, ◌-◌, pos, ◌-ℤ◌}
use Rattle.whole.specs.Number.{between, is, unless}
use Rattle.rules.specs.AccountCalls.{transferred}
use Rattle.rules.specs.declared.Reply.{Reply}
use Rattle.places.specs.Place.{View, Put, ◌≔◌, phase, house, cash, due}
use Rattle.places.specs.Act.{Rule}
use Rattle.soundness.specs.Sound.{account_at, turn, stays}
use Rattle.soundness.specs.Perform.{refuse, does}

-- 7 in any other phase than 0; 13 where house would be out of range after some account of the run
abbrev pub begin_rule : Rule Reply
begin_rule s g =
    unless (is 0 (g phase)) (refuse 7)
    (unless (stays s.n (g house) 0 g) (refuse 13)
    (does (pos 0) ((phase ≔ pos 1) ∷ [])))

-- the account a has its transfer, from the house
abbrev pub transfer_puts : ℕ → View → List Put
transfer_puts a g = (cash a ≔ (transferred (account_at g a)).cash) ∷ (due a 0 ≔ (transferred (account_at g a)).due0) ∷ []

abbrev pub step_puts : ℕ → View → List Put
step_puts a g = transfer_puts a g ++ ((house ≔ g house -ℤ g (due a 0)) ∷ (phase ≔ pos (turn g + 1)) ∷ [])

-- 7 in any other phase than 1..n; the figure is the account stepped
abbrev pub step_rule : Rule Reply
step_rule s g = unless (between (pos 1) (pos s.n) (g phase)) (refuse 7) (does (pos (turn g - 1)) (step_puts (turn g - 1) g))

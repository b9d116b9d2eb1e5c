-- Demand 3, as it is stated. A history is a list of events, one after another. Until the run's last account is done, requests may fall between
-- its transfers in any order; every answer, and the ledger at the end word for word, are those of three stretches one after another:
--   first  the requests that name one account which had not yet had its transfer, in their order;
--   then   the run, uninterrupted;
--   last   all the other requests, every trade included, in their order.
-- Attempts to begin a run or to close a day while the run is on are refused and change nothing; they stand in none of the three.
-- All of this file and of `Stretch` is believed. The theorems are in `Demand3`.
use Rattle.std.specs.Prelude.{◌≡◌, List, [], ◌∷◌, Bool, cond, ◌&&◌, ℕ, zero, suc, ◌+◌, ◌-◌, ◌≤◌, ltb, eqb, ℤ, pos, nat_abs}
use Rattle.whole.specs.Number.{is_one_of}
use Rattle.rules.specs.declared.Reply.{Reply}
use Rattle.rules.specs.declared.Standing.{Standing}
use Rattle.places.specs.Place.{Layout, get}
use Rattle.places.specs.Act.{shape_of}
use Rattle.soundness.specs.Sound.{turn}
use Rattle.soundness.specs.Perform.{replies, perform, ask}
use Rattle.acts.specs.Requests.{deposit_rule, withdraw_rule, guarantee_rule, question_rule}
use Rattle.acts.specs.Trade.{trade_rule}
use Rattle.acts.specs.Run.{begin_rule, step_rule}
use Rattle.daily.specs.DailyFigures.{lengths_ok}
use Rattle.closing.specs.Close.{close_rule}
use Rattle.stretches.specs.Stretch.{Stretch, early, run, late, idle, answers, end, pick, heard, Idle}

-- ---- events, and what happens

-- what may be asked of one account: a deposit and a withdrawal of an amount, a guarantee call with guarantee and cap, a question
pub data Ask : Type 0 where
  deposit : ℤ → Ask
  withdrawal : ℤ → Ask
  guarantee : ℤ → ℤ → Ask
  question : Ask

-- A request about an account; a trade of buyer, seller, product, lots and price; a transfer, which is a step of the run; a begin; a close with
-- its four lists. Every figure may be any whole number, and every list any list.
pub data Event : Type 0 where
  asks : ℤ → Ask → Event
  trade : ℤ → ℤ → ℤ → ℤ → ℤ → Event
  transfer : Event
  begin : Event
  close : List ℤ → List ℤ → List ℤ → List ℤ → Event

-- a reply, or a question's standing
pub data Answer : Type 0 where
  said : Reply → Answer
  told : Standing → Answer

abbrev pub hears : {A : Type 0} → (A → Answer) → A × List ℤ → Answer × List ℤ
hears f z = (f z.0, z.1)

-- the answer to an event and the words after it: the very terms of the contracts of the ledger's functions
abbrev pub asked : Layout → List ℤ → ℤ → Ask → Answer × List ℤ
asked L W a (deposit x) = hears said (perform L W (deposit_rule a x))
asked L W a (withdrawal x) = hears said (perform L W (withdraw_rule a x))
asked L W a (guarantee x y) = hears said (perform L W (guarantee_rule a x y))
asked L W a question = hears told (ask L W (question_rule a))

abbrev pub happens : Layout → List ℤ → Event → Answer × List ℤ
happens L W (asks a q) = asked L W a q
happens L W (trade buyer seller product lots price) = hears said (perform L W (trade_rule buyer seller product lots price))
happens L W transfer = hears said (perform L W step_rule)
happens L W begin = hears said (perform L W begin_rule)
happens L W (close prices rates8 rates104 lags) = hears said (perform L W (close_rule prices rates8 rates104 lags))

-- ---- stretches

-- a is one of n accounts, and in phase f it has not yet had its transfer: the accounts 0 to f - 2 have
abbrev pub waits : ℕ → ℕ → ℤ → Bool
waits n f a = is_one_of n a && ltb f (nat_abs a + 2)

-- The stretch of an event that is made in phase f. A request that names no account of the ledger is among the last. A begin in phase 0 is the
-- run's first call; any other, and every close, is an attempt.
abbrev pub judge : ℕ → ℕ → Event → Stretch
judge n f (asks a q) = cond (waits n f a) early late
judge n f (trade buyer seller product lots price) = late
judge n f transfer = run
judge n f begin = cond (eqb f 0) run idle
judge n f (close prices rates8 rates104 lags) = idle

abbrev pub phase_of : Layout → List ℤ → ℕ
phase_of L W = turn (get L (shape_of W) W)

-- the stretch of an event that is made on the words W: by the phase that they state at that moment
abbrev pub stretch : Layout → List ℤ → Event → Stretch
stretch L W e = judge (shape_of W).n (phase_of L W) e

-- The answer that an attempt gets while the run is on, in a ledger of p products: begin 7; close 2 where a list has not a figure for each
-- product, else 7. The figure is 0. No other event is an attempt.
abbrev pub Refused : ℕ → Event → Answer → Type 0
Refused p (asks a q) r = ⊥
Refused p (trade buyer seller product lots price) r = ⊥
Refused p transfer r = ⊥
Refused p begin r = r ≡ said (replies 7 (pos 0))
Refused p (close prices rates8 rates104 lags) r = r ≡ said (replies (cond (lengths_ok prices rates8 rates104 lags p) 7 2) (pos 0))

-- ---- histories

-- the words after a history, and all its answers
abbrev pub words_after_all : Layout → List ℤ → List Event → List ℤ
words_after_all L = end (happens L)

abbrev pub answers_to : Layout → List ℤ → List Event → List Answer
answers_to L = answers (happens L)

-- the events of a history that belong to a stretch, each judged at its moment, and the answers that they got then
abbrev pub events_of : Layout → Stretch → List ℤ → List Event → List Event
events_of L = pick (happens L) (stretch L)

abbrev pub heard_in : Layout → Stretch → List ℤ → List Event → List Answer
heard_in L = heard (happens L) (stretch L)

-- every attempt of a history, at its moment, is refused as the paper says and changes nothing
abbrev pub AttemptsRefused : Layout → List ℤ → List Event → Type 0
AttemptsRefused L = Idle (happens L) (stretch L) (λ W e r. Refused (shape_of W).p e r)

-- the run: a transfer for each of n accounts
abbrev pub transfers : ℕ → List Event
transfers zero = []
transfers (suc n) = transfer ∷ transfers n

-- how many transfers an event makes, and a history
abbrev pub made : Event → ℕ
made (asks a q) = 0
made (trade buyer seller product lots price) = 0
made transfer = 1
made begin = 0
made (close prices rates8 rates104 lags) = 0

abbrev pub transfers_in : List Event → ℕ
transfers_in [] = 0
transfers_in (e ∷ es) = made e + transfers_in es

-- m transfers are still to come, and no event is made after the last of them
abbrev pub Until : ℕ → List Event → Type 0
Until m [] = Unit {0}
Until m (e ∷ es) = (1 ≤ m) × Until (m - made e) es

-- ---- the demand: the history from W is its early requests, then the run, then its late requests

module _ (L : Layout) (W : List ℤ) (history theRun : List Event) where
  -- the first stretch and the last, and the words after the first stretch and after the run
  abbrev pub first_stretch : List Event
  first_stretch = events_of L early W history

  abbrev pub last_stretch : List Event
  last_stretch = events_of L late W history

  abbrev pub after_first : List ℤ
  after_first = words_after_all L W first_stretch

  abbrev pub after_run : List ℤ
  after_run = words_after_all L after_first theRun

  pub record ThreeStretches : Type 0 where
    pub early_answers : heard_in L early W history ≡ answers_to L W first_stretch
    pub run_answers : heard_in L run W history ≡ answers_to L after_first theRun
    pub late_answers : heard_in L late W history ≡ answers_to L after_run last_stretch
    pub words : words_after_all L W history ≡ words_after_all L after_run last_stretch
    pub attempts : AttemptsRefused L W history

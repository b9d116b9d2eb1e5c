-- A worked history, by computation, on the ledger of 01's day file: an F of cash 50,000 that is to receive 200,000, an L of cash 300,000 that is to pay them,
-- one yen product at 1,502,500. The run begins, and requests and attempts fall between its transfers.
use Rattle.std.specs.Prelude.{◌≡◌, refl, List, [], ◌∷◌, true, ℕ, ℤ, pos, negsuc}
use Rattle.std.proofs.Common.{arith}
use Rattle.whole.specs.Number.{min_z, max_z, takes_away, floor_div}
use Rattle.rules.specs.Account.{lg_value, deposit_of, required_of, first_shortfall, next_day_need, second_shortfall, excess_one, excess_two, limit_of, account_ok}
use Rattle.rules.specs.AccountCalls.{deposited, withdrawn, standing_of}
use Rattle.places.specs.ByAccount.{by_account}
use Rattle.places.specs.Act.{sound_by, perform_by}
use Rattle.soundness.specs.Sound.{sound}
use Rattle.soundness.specs.Perform.{replies}
use Rattle.stretches.specs.Stretch.{early, run, late, idle}
use Rattle.stretches.specs.History.{Answer, said, told, deposit, withdrawal, question, Event, asks, trade, transfer, begin, close, happens, events_of, heard_in, words_after_all, Until, transfers, ThreeStretches}
use Rattle.stretches.proofs.Demand3.{demand_3_from-begin}

-- phase and house; of each account cash, due 0, lots and book
abbrev ledger : ℤ → ℤ → ℤ → ℤ → ℤ → ℤ → ℤ → ℤ → ℤ → ℤ → List ℤ
ledger f h c d l b c' d' l' b' =
    pos 2 ∷ pos 1 ∷ f ∷ h ∷ pos 0 ∷ pos 0 ∷ pos 1502500 ∷ pos 0 ∷ pos 0
    ∷ pos 0 ∷ c ∷ pos 0 ∷ pos 0 ∷ pos 0 ∷ d ∷ pos 0 ∷ pos 0 ∷ l ∷ b
    ∷ pos 1 ∷ c' ∷ pos 0 ∷ pos 0 ∷ pos 0 ∷ d' ∷ pos 0 ∷ pos 0 ∷ l' ∷ b'
    ∷ []

abbrev opening : List ℤ
opening = ledger (pos 0) (pos 0) (pos 50000) (pos 200000) (pos 0) (pos 0) (pos 300000) (negsuc 199999) (pos 0) (pos 0)

abbrev mixed : List Event
mixed =
    trade (pos 0) (pos 1) (pos 0) (pos 2) (pos 1502500)
    ∷ asks (pos 0) (withdrawal (pos 60000))  -- early: its limit is 50,000, and it is refused
    ∷ transfer
    ∷ asks (pos 0) (withdrawal (pos 60000))  -- late: its limit is 250,000 now
    ∷ asks (pos 1) (withdrawal (pos 100001))  -- early: account 1 still waits, and its limit is 100,000
    ∷ begin  -- an attempt
    ∷ asks (pos 2) (deposit (pos 1))  -- no such account: late
    ∷ asks (pos 1) question  -- early
    ∷ close [] [] [] []  -- an attempt, its lists of a wrong length
    ∷ close (pos 1502500 ∷ []) (pos 400 ∷ []) (pos 400 ∷ []) (pos 0 ∷ [])  -- an attempt
    ∷ transfer
    ∷ []

abbrev reply : ℕ → ℤ → Answer
reply k x = said (replies k x)

-- what the rules give
record Worked : Type 0 where
  is_sound : sound by_account opening ≡ true
  is_accepted : (happens by_account opening begin).0 ≡ reply 0 (pos 0)
  the_early : events_of by_account early opening (begin ∷ mixed) ≡ asks (pos 0) (withdrawal (pos 60000)) ∷ asks (pos 1) (withdrawal (pos 100001)) ∷ asks (pos 1) question ∷ []
  the_late : events_of by_account late opening (begin ∷ mixed)
      ≡ trade (pos 0) (pos 1) (pos 0) (pos 2) (pos 1502500) ∷ asks (pos 0) (withdrawal (pos 60000)) ∷ asks (pos 2) (deposit (pos 1)) ∷ []
  heard_early : heard_in by_account early opening (begin ∷ mixed)
      ≡ reply 11 (pos 50000) ∷ reply 11 (pos 100000) ∷ told (record { number = 0; limit = pos 100000; first = pos 0; second = pos 0 }) ∷ []
  heard_run : heard_in by_account run opening (begin ∷ mixed) ≡ reply 0 (pos 0) ∷ reply 0 (pos 0) ∷ reply 0 (pos 1) ∷ []
  heard_late : heard_in by_account late opening (begin ∷ mixed) ≡ reply 0 (pos 0) ∷ reply 0 (pos 190000) ∷ reply 3 (pos 0) ∷ []
  heard_idle : heard_in by_account idle opening (begin ∷ mixed) ≡ reply 7 (pos 0) ∷ reply 2 (pos 0) ∷ reply 7 (pos 0) ∷ []
  the_end : words_after_all by_account opening (begin ∷ mixed)
      ≡ ledger (pos 3) (pos 0) (pos 190000) (pos 0) (pos 2) (pos 3005000) (pos 100000) (pos 0) (negsuc 1) (negsuc 3004999)

worked : Worked
unfolding sound_by perform_by by_account account_ok limit_of excess_one excess_two deposit_of lg_value required_of first_shortfall second_shortfall next_day_need deposited withdrawn standing_of takes_away min_z max_z floor_div
worked =
    record {
      is_sound = refl;
      is_accepted = refl;
      the_early = refl;
      the_late = refl;
      heard_early = refl;
      heard_run = refl;
      heard_late = refl;
      heard_idle = refl;
      the_end = refl;
    }

-- the theorem's conditions hold of it
before_the_end : Until 2 mixed
before_the_end =
    (omega arith, (omega arith, (omega arith, (omega arith, (omega arith, (omega arith, (omega arith, (omega arith, (omega arith, (omega arith, (omega arith, tt)))))))))))

in_stretches : ThreeStretches by_account opening (begin ∷ mixed) (begin ∷ transfers 2)
in_stretches = demand_3_from-begin by_account opening mixed worked.is_sound worked.is_accepted before_the_end refl

-- Demand 3, said of the ledger's own functions, `ledger::deposit` and the rest and `closing::close`. A link of a chain is a call of its event's function, with a
-- result that the function's own contract permits: were one of these contracts to promise less, the theorems would no longer follow. Assumes nothing.
use Rattle.std.specs.Prelude.{◌≡◌, List, [], ◌∷◌, true, ℤ, pos}
use Rattle.std.proofs.Common.{sym, ap}
use Rattle.contracts.specs.Says.{World, CallOf, means}
use Rattle.places.specs.ByAccount.{by_account}
use Rattle.places.specs.Act.{shape_of}
use Rattle.soundness.specs.Sound.{sound}
use Rattle.soundness.specs.Perform.{replies}
use Rattle.ledger.proofs.LedgerContracts.{deposits, withdrawals, guarantees, questions, trades, begins, steps}
use Rattle.ledger.proofs.LedgerContracts.{deposit-says, withdraw_says, guarantee-says, question-says, trade-says, begin-says, step-says}
use Rattle.closing.proofs.CloseContract.{closes, close-says}
use Rattle.stretches.specs.Stretch.{early, late}
use Rattle.stretches.specs.History.{Answer, said, told, deposit, withdrawal, guarantee, question, Event, asks, trade, transfer, begin, close, hears}
use Rattle.stretches.specs.History.{happens, phase_of, events_of, Until, transfers, transfers_in}
use Rattle.stretches.proofs.CallChains.{Called, none, call, Same, demand_3_called, demand_3_called_from-begin}

module _ (w : World) where
  -- a call of an event's function: the words at its entry, the event, its answer, the words at its exit. Its parameters are those of the source, in their order
  pub data Made : List ℤ → Event → Answer → List ℤ → Type 1 where
    by_deposit : (c : CallOf deposits w) → Made c.entry.0.now (asks c.entry.1.0 (deposit c.entry.1.1.0)) (said c.result) c.exit.0.now
    by_withdraw : (c : CallOf withdrawals w) → Made c.entry.0.now (asks c.entry.1.0 (withdrawal c.entry.1.1.0)) (said c.result) c.exit.0.now
    by_guarantee : (c : CallOf guarantees w)
        → Made c.entry.0.now (asks c.entry.1.0 (guarantee c.entry.1.1.0 c.entry.1.1.1.0)) (said c.result) c.exit.0.now
    -- a question only reads: it leaves the words that it was lent
    by_question : (c : CallOf questions w) → Made c.entry.0.now (asks c.entry.1.0 question) (told c.result) c.entry.0.now
    by_trade : (c : CallOf trades w)
        → Made c.entry.0.now (trade c.entry.1.0 c.entry.1.1.0 c.entry.1.1.1.0 c.entry.1.1.1.1.0 c.entry.1.1.1.1.1.0)
        (said c.result) c.exit.0.now
    by_begin : (c : CallOf begins w) → Made c.entry.0.now begin (said c.result) c.exit.0.now
    by_step : (c : CallOf steps w) → Made c.entry.0.now transfer (said c.result) c.exit.0.now
    by_close : (c : CallOf closes w)
        → Made c.entry.0.now (close c.entry.1.0.now c.entry.1.1.0.now c.entry.1.1.1.0.now c.entry.1.1.1.1.0.now)
        (said c.result) c.exit.0.now

  -- it is what happens
  made-happens : {W z : List ℤ} {e : Event} {a : Answer} → Made W e a z → (a, z) ≡ happens by_account W e
  made-happens (by_deposit c) = ap (hears said) (means deposit-says w c.permits)
  made-happens (by_withdraw c) = ap (hears said) (means withdraw_says w c.permits)
  made-happens (by_guarantee c) = ap (hears said) (means guarantee-says w c.permits)
  made-happens (by_question c) = ap (hears told) (means question-says w c.permits)
  made-happens (by_trade c) = ap (hears said) (means trade-says w c.permits)
  made-happens (by_begin c) = ap (hears said) (means begin-says w c.permits)
  made-happens (by_step c) = ap (hears said) (means step-says w c.permits)
  made-happens (by_close c) = ap (hears said) (means close-says w c.permits)

  -- calls one after another, each on the words that the one before it left
  pub data AllMade : List ℤ → List Event → List Answer → List ℤ → Type 1 where
    no_call : {W : List ℤ} → AllMade W [] [] W
    then_call : {W W' z : List ℤ} {e : Event} {es : List Event} {a : Answer} {rs : List Answer}
        → Made W e a W' → AllMade W' es rs z → AllMade W (e ∷ es) (a ∷ rs) z

  all_called : {W z : List ℤ} {es : List Event} {rs : List Answer} → AllMade W es rs z → Called by_account W es rs z
  all_called no_call = none
  all_called (then_call m ms) = call (made-happens m) (all_called ms)

  first-answer : {W z : List ℤ} {e : Event} {es : List Event} {a : Answer} {rs : List Answer} → AllMade W (e ∷ es) (a ∷ rs) z → a ≡ (happens by_account W e).0
  first-answer (then_call m ms) = ap (λ p. p.0) (made-happens m)

  -- both forms of the demand, of calls of the functions
  pub demand_3_made : (W : List ℤ) (history : List Event)
      → sound by_account W ≡ true
      → phase_of by_account W ≡ 1
      → Until (shape_of W).n history
      → transfers_in history ≡ (shape_of W).n
      → {mixed first runs last : List Answer} {z W₁ W₂ z' : List ℤ}
      → AllMade W history mixed z
      → AllMade W (events_of by_account early W history) first W₁
      → AllMade W₁ (transfers (shape_of W).n) runs W₂
      → AllMade W₂ (events_of by_account late W history) last z'
      → Same by_account W history mixed first runs last z z'
  demand_3_made W history ok one u all m a b c = demand_3_called by_account W history ok one u all (all_called m) (all_called a) (all_called b) (all_called c)

  -- begin is the run's first call, and answered 0
  pub demand_3_made-from-begin : (W : List ℤ) (history : List Event)
      → sound by_account W ≡ true
      → Until (shape_of W).n history
      → transfers_in history ≡ (shape_of W).n
      → {mixed first runs last : List Answer} {z W₁ W₂ z' : List ℤ}
      → AllMade W (begin ∷ history) (said (replies 0 (pos 0)) ∷ mixed) z
      → AllMade W (events_of by_account early W (begin ∷ history)) first W₁
      → AllMade W₁ (begin ∷ transfers (shape_of W).n) runs W₂
      → AllMade W₂ (events_of by_account late W (begin ∷ history)) last z'
      → Same by_account W (begin ∷ history) (said (replies 0 (pos 0)) ∷ mixed) first runs last z z'
  demand_3_made-from-begin W history ok u all m a b c =
      demand_3_called_from-begin by_account W history ok (sym (first-answer m)) u all (all_called m) (all_called a) (all_called b) (all_called c)

-- 01, "How tight a contract has to be", its four empty programs: refuse everything, one constant reply, leave the ledger alone, move all dues at the
-- first step and idle after. No function that meets a call's contract is one of them: the contract is the entry point's own, read off its clauses.
-- Assumes nothing.
use Rattle.std.specs.Prelude.{◌≡◌, List, [], ◌∷◌, ◌++◌, false, ℕ, ◌≤◌, eqb, ℤ, pos, negsuc, nat_abs, length, get_or, drop}
use Rattle.std.proofs.Math.Path.{refl}
use Rattle.std.proofs.Common.{sym, ap, ◌∙◌, arith, eq-eqb, le-ltb}
use contract.Lifetimes.{Lfts}
use denote.Ref.{MutBor, at_last}
use Rattle.std.specs.Borrow.{Bor}
use denote.Triple.Entry.{Args}
use Rattle.contracts.specs.Says.{World, Permits, means, permitted}
use Rattle.whole.specs.Number.{min_z, max_z, takes_away, floor_div}
use Rattle.whole.specs.Tests.{clash}
use Rattle.rules.specs.declared.Account.{Account}
use Rattle.rules.specs.Account.{account_ok, lg_value, deposit_of, required_of, excess_one, excess_two, limit_of}
use Rattle.rules.specs.AccountCalls.{Taken, reply_of, deposited, withdrawn, teller_deposit, teller_withdrawal}
use Rattle.rules.specs.declared.Reply.{Reply}
use Rattle.rules.specs.declared.Standing.{Standing}
use Rattle.places.specs.ByAccount.{by_account}
use Rattle.places.specs.Act.{Rule, sound_by, perform_by}
use Rattle.soundness.specs.Perform.{perform, ask}
use Rattle.acts.specs.Requests.{question_rule}
use Rattle.acts.specs.Run.{begin_rule, step_rule}
use Rattle.shares.specs.Loss.{loss_shared}
use Rattle.shares.specs.LossExamples.{deposits as member-deposits, differences, marks, blank, worked, refused}
use Rattle.rates.specs.MarginRate.{sum_of, squares_of, spread_of, enough, window_rate, refusal, governs, part_of, rated}
use Rattle.lines.specs.Bytes.{bytes}
use Rattle.day.specs.Sheet.{answer_of, sheet_of}
use Rattle.calls.specs.Ledger.{the_ledger}
use Rattle.ledger.proofs.LedgerContracts.{deposits, withdrawals, guarantees, questions, trades, begins, steps}
use Rattle.ledger.proofs.LedgerContracts.{deposit-says, withdraw_says, guarantee-says, question-says, trade-says, begin-says, step-says}
use Rattle.closing.specs.contracts.close as close-fn
use Rattle.closing.proofs.CloseContract.{closes, close-says}
use Rattle.shares.specs.contracts.share_loss as loss-fn
use Rattle.shares.proofs.LossContract.{losses, share_loss_says}
use Rattle.rates.specs.JudgedLaws.{rated-taken, governs-eight, governs-other}
use Rattle.rates.specs.RateTheorems.{by_two_tests}
use Rattle.rates.specs.contracts.governing as rate-fn
use Rattle.rates.proofs.RateContract.{ratings, governing_says}
use Rattle.day.proofs.SheetContract.{sheets, sheet_says}
use Rattle.teller.proofs.TellerContracts.{window_deposits, window_withdrawals, teller_deposit-says, teller_withdraw_says}
use Rattle.tight.specs.Small.{opening, short}
use Rattle.tight.specs.Numbers.{Refuses, Accepts, acceptances}
use Rattle.tight.specs.PaperSheet.{input, output, the_sheet, no_text}

-- a function from the words at entry to its reply and the words at exit
abbrev pub Program : Type 0
Program = List ℤ → Reply × List ℤ

-- what a contract permits, of words lent for change, a reply, and the words at exit
abbrev pub Permitted : Type 2
Permitted = MutBor (List ℤ) → Reply → MutBor (List ℤ) → Type 1

-- the function meets it
abbrev pub Meets : Permitted → Program → Type 1
Meets permits f = (l : MutBor (List ℤ)) → permits l (f l.now).0 (at_last l (f l.now).1)

-- what it permits is what a rule gives
abbrev pub ByRule : Permitted → Rule Reply → Type 1
ByRule permits rule = (l : MutBor (List ℤ)) (r : Reply) (z : MutBor (List ℤ)) → permits l r z → (r, z.now) ≡ perform by_account l.now rule

-- a value, lent from some place for change, or to be read
abbrev lent : {X : Type 0} → X → MutBor X
lent x = record { ref_ptr = (0, 0); ghost_name = 0; now = x }

abbrev shown : {X : Type 0} → X → Bor X
shown x = record { ref_ptr = (0, 0); now = x }

-- then so does the function
pub met : {permits : Permitted} (rule : Rule Reply) → ByRule permits rule → (f : Program) → Meets permits f → (W : List ℤ) → f W ≡ perform by_account W rule
met rule by f m W = by (lent W) _ _ (m (lent W))

-- the size of the word i
abbrev pub size_at : List ℤ → ℕ → ℕ
size_at W i = nat_abs (get_or W i (pos 0))

-- three of the four, of any function f that meets the contract
pub record NotEmpty (permits : Permitted) : Type 1 where
  pub not_refusing : (f : Program) → Meets permits f → ((Y : List ℤ) → (f Y).0.number ≡ 0 → ⊥) → ⊥
  pub not_constant : (f : Program) → Meets permits f → (r : Reply) → ((Y : List ℤ) → (f Y).0 ≡ r) → ⊥
  pub not_idle : (f : Program) → Meets permits f → ((Y : List ℤ) → (f Y).1 ≡ Y) → ⊥

-- no words at all are refused with 1, whatever the rule
pub no_words : (rule : Rule Reply) → Refuses [] rule 1 (pos 0)
unfolding sound_by perform_by
no_words rule = refl

-- it is enough that the rule is accepted once, and changes the word i
pub not_empty : {permits : Permitted} (rule : Rule Reply) (W X : List ℤ) (z : ℤ) → ByRule permits rule → Accepts W rule z X
    → (i : ℕ) → eqb (size_at X i) (size_at W i) ≡ false → NotEmpty permits
not_empty rule W X z by a i d = record {
  not_refusing = λ f m never. never W (ap (λ p. p.0.number) (met rule by f m W ∙ a));
  not_constant = λ f m r same.
      let h : r.number ≡ 0 = sym (ap (λ q. q.number) (same W)) ∙ ap (λ p. p.0.number) (met rule by f m W ∙ a) in
      let k : r.number ≡ 1 = sym (ap (λ q. q.number) (same [])) ∙ ap (λ p. p.0.number) (met rule by f m [] ∙ no_words rule) in
      absurd (omega arith);
  not_idle = λ f m stays.
      let e : X ≡ W = sym (ap (λ p. p.1) (met rule by f m W ∙ a)) ∙ stays W in
      clash (eq-eqb (size_at X i) (size_at W i) (ap (λ Y. size_at Y i) e)) d;
}

-- ---- each call that changes the ledger, with the parameters of its line of `acceptances` and the word that changes there

module _ (w : World) (κs : Lfts 1) where
  -- the broker's cash
  pub deposit : NotEmpty (λ l r z. Permits deposits w κs (l, (pos 0, (pos 10, tt))) r (z, (pos 0, (pos 10, tt))))
  deposit = not_empty _ _ _ _ (λ l r z. means deposit-says w) acceptances.deposit 10 refl

  pub withdrawal : NotEmpty (λ l r z. Permits withdrawals w κs (l, (pos 0, (pos 50000, tt))) r (z, (pos 0, (pos 50000, tt))))
  withdrawal = not_empty _ _ _ _ (λ l r z. means withdraw_says w) acceptances.withdrawal 10 refl

  -- its guarantee
  pub guarantee : NotEmpty (λ l r z. Permits guarantees w κs (l, (pos 0, (pos 1000001, (pos 1000001, tt)))) r (z, (pos 0, (pos 1000001, (pos 1000001, tt)))))
  guarantee = not_empty _ _ _ _ (λ l r z. means guarantee-says w) acceptances.guarantee 11 refl

  -- its lots
  pub trade : NotEmpty
      (λ l r z. Permits trades w κs (l, (pos 0, (pos 1, (pos 0, (pos 2, (pos 1502500, tt)))))) r (z, (pos 0, (pos 1, (pos 0, (pos 2, (pos 1502500, tt)))))))
  trade = not_empty _ _ _ _ (λ l r z. means trade-says w) acceptances.trade 17 refl

  -- the phase
  pub begin : NotEmpty (λ l r z. Permits begins w κs (l, tt) r (z, tt))
  begin = not_empty _ _ _ _ (λ l r z. means begin-says w) acceptances.begin 2 refl

  -- and something meets it: the rule itself
  pub begin_met : Meets (λ l r z. Permits begins w κs (l, tt) r (z, tt)) (λ W. perform by_account W begin_rule)
  begin_met l = permitted begin-says w refl

  -- the broker's due 0
  abbrev Stepped : Permitted
  Stepped l r z = Permits steps w κs (l, tt) r (z, tt)

  by_step : ByRule Stepped step_rule
  by_step l r z = means step-says w

  pub step : NotEmpty Stepped
  step = not_empty _ _ _ _ by_step acceptances.step 14 refl

  -- ---- the fourth: all dues at the first step, and idle after

  -- the first step leaves the provider's due 0, the word 24, as it was: 200,000 to pay
  pub not-all-at-once : (f : Program) → Meets Stepped f → size_at (f (opening (pos 1))).1 24 ≡ 200000
  not-all-at-once f m = ap (λ p. size_at p.1 24) (met step_rule by_step f m (opening (pos 1)) ∙ acceptances.step)

  -- the second is the one that settles it
  pub not-idle-after : (f : Program) → Meets Stepped f → size_at (f (f (opening (pos 1))).1).1 24 ≡ 0
  not-idle-after f m =
      ap (λ p. size_at (f p.1).1 24) (met step_rule by_step f m (opening (pos 1)) ∙ acceptances.step)
      ∙ ap (λ p. size_at p.1 24) (met step_rule by_step f m _ ∙ acceptances.last_step)

-- the broker's due 0; the lists are those of `close_at`
abbrev close_args : (κs : Lfts 5) → MutBor (List ℤ) → Args close-fn.signature κs
close_args κs l = (l, (shown (pos 1502600 ∷ []), (shown (pos 400 ∷ []), (shown (pos 400 ∷ []), (shown (pos 0 ∷ []), tt)))))

pub close : (w : World) (κs : Lfts 5) → NotEmpty (λ l r z. Permits closes w κs (close_args κs l) r (close_args κs z))
close w κs = not_empty _ _ _ _ (λ l r z. means close-says w) acceptances.close 14 refl

-- ---- what leaves the ledger alone by right, and what has no ledger

-- a question about the account 0: limits 0 and 50,000 on two ledgers
module _ (w : World) (κs : Lfts 1) (f : List ℤ → Standing)
    (meets : (l : Bor (List ℤ)) → Permits questions w κs (l, (pos 0, tt)) (f l.now) (l, (pos 0, tt))) where
  question_met : (W : List ℤ) → (f W, W) ≡ ask by_account W (question_rule (pos 0))
  question_met W = means question-says w (meets (shown W))

  pub question-not_refusing : ((Y : List ℤ) → (f Y).number ≡ 0 → ⊥) → ⊥
  question-not_refusing never = never short (ap (λ p. p.0.number) (question_met short ∙ acceptances.question))

  pub question-not_constant : (r : Standing) → ((Y : List ℤ) → f Y ≡ r) → ⊥
  question-not_constant r same =
      let h : nat_abs r.limit ≡ 0 = sym (ap (λ q. nat_abs q.limit) (same short)) ∙ ap (λ p. nat_abs p.0.limit) (question_met short ∙ acceptances.question) in
      let k : nat_abs r.limit ≡ 50000 = sym (ap (λ q. nat_abs q.limit) (same (opening (pos 0)))) ∙ ap (λ p. nat_abs p.0.limit) (question_met (opening (pos 0)) ∙ acceptances.question_limit) in
      absurd (omega arith)

-- the loss of 01, and one below 0: the parameters, with the lists lent for the shares
abbrev sharing : (κs : Lfts 5) → ℤ → List ℤ → List ℤ → Args loss-fn.signature κs
sharing κs loss first second = (loss, (shown member-deposits, (shown differences, (shown marks, (lent first, (lent second, tt))))))

module _ (w : World) (κs : Lfts 5) (f : ℤ → Reply × List ℤ × List ℤ)
    (meets : (loss : ℤ) → Permits losses w κs (sharing κs loss blank blank) (f loss).0 (sharing κs loss (f loss).1 (f loss).2)) where
  loss_met : (loss : ℤ) → f loss ≡ loss_shared loss member-deposits differences marks blank blank
  loss_met loss = means share_loss_says w (meets loss)

  pub loss_not_refusing : ((loss : ℤ) → (f loss).0.number ≡ 0 → ⊥) → ⊥
  loss_not_refusing never = never (pos 12000000) (ap (λ p. p.0.number) (loss_met (pos 12000000) ∙ worked))

  pub loss_not_constant : (r : Reply) → ((loss : ℤ) → (f loss).0 ≡ r) → ⊥
  loss_not_constant r same =
      let h : r.number ≡ 0 = sym (ap (λ q. q.number) (same (pos 12000000))) ∙ ap (λ p. p.0.number) (loss_met (pos 12000000) ∙ worked) in
      let k : r.number ≡ 5 = sym (ap (λ q. q.number) (same (negsuc 0))) ∙ ap (λ p. p.0.number) (loss_met (negsuc 0) ∙ refused) in
      absurd (omega arith)

  pub loss_not-idle : ((loss : ℤ) → (f loss).1 ≡ blank) → ⊥
  loss_not-idle same =
      let h : ◌≡◌ {A = ℕ} 7 5000000 = sym (ap (λ l. size_at l 0) (same (pos 12000000))) ∙ ap (λ p. size_at p.1 0) (loss_met (pos 12000000) ∙ worked) in
      absurd (omega arith)

-- the rate of two windows of two figures, 17 and 33: the parameters, with the numbers lent for the answer
abbrev narrow : List ℤ
narrow = pos 0 ∷ pos 100 ∷ []

abbrev wide : List ℤ
wide = pos 0 ∷ pos 200 ∷ []

abbrev rating : (κs : Lfts 3) → List ℤ → List ℤ → ℕ → ℤ → Args rate-fn.signature κs
rating κs weeks8 weeks104 number rate = (shown weeks8, (shown weeks104, (lent number, (lent rate, tt))))

narrow_rate : window_rate narrow ≡ 17
unfolding enough spread_of sum_of squares_of
narrow_rate = by_two_tests narrow refl refl 17 (omega arith) refl refl

wide_rate : window_rate wide ≡ 33
unfolding enough spread_of sum_of squares_of
wide_rate = by_two_tests wide refl refl 33 (omega arith) refl refl

-- what is answered of a narrow window and another, of which the one with the rate r governs
answered : (weeks104 : List ℤ) (r : ℕ) (g : Bor (List ℤ)) → refusal narrow weeks104 ≡ 0 → governs (shown narrow) (shown weeks104) ≡ g → window_rate g.now ≡ r
    → rated (shown narrow) (shown weeks104) ≡ (0, pos r, part_of g)
answered weeks104 r g t q e =
    rated-taken (shown narrow) (shown weeks104) (eq-eqb _ _ t) ∙ ap (λ z. (0, pos (window_rate z.now), part_of z)) q ∙ ap (λ k. (0, pos k, part_of g)) e

wide-governs : rated (shown narrow) (shown wide) ≡ (0, pos 33, part_of (shown wide))
unfolding refusal
wide-governs = answered wide 33 (shown wide) refl (governs-other (shown narrow) (shown wide) (rw (narrow_rate, wide_rate))) wide_rate

narrow_alone : rated (shown narrow) (shown narrow) ≡ (0, pos 17, part_of (shown narrow))
unfolding refusal
narrow_alone = answered narrow 17 (shown narrow) refl (governs-eight (shown narrow) (shown narrow) (rw narrow_rate)) narrow_rate

module _ (w : World) (κs : Lfts 3) (f : List ℤ → List ℤ → ℕ × ℤ × Bor (List ℤ))
    (meets : (a b : List ℤ) → Permits ratings w κs (rating κs a b 0 (pos 0)) (f a b).2 (rating κs a b (f a b).0 (f a b).1)) where
  rate_met : (a b : List ℤ) → ((f a b).0, (f a b).1, part_of (f a b).2) ≡ rated (shown a) (shown b)
  rate_met a b = means governing_says w (meets a b)

  pub rate_not_refusing : ((a b : List ℤ) → (f a b).0 ≡ 0 → ⊥) → ⊥
  rate_not_refusing never = never narrow wide (ap (λ o. o.0) (rate_met narrow wide ∙ wide-governs))

  pub rate_not_constant : (x : ℤ) → ((a b : List ℤ) → (f a b).1 ≡ x) → ⊥
  rate_not_constant x same =
      let h : nat_abs x ≡ 33 = sym (ap nat_abs (same narrow wide)) ∙ ap (λ o. nat_abs o.1) (rate_met narrow wide ∙ wide-governs) in
      let k : nat_abs x ≡ 17 = sym (ap nat_abs (same narrow narrow)) ∙ ap (λ o. nat_abs o.1) (rate_met narrow narrow ∙ narrow_alone) in
      absurd (omega arith)

  -- nor one that hands back the 8-week list whatever it was lent
  pub rate_not-idle : ((a b : List ℤ) → (f a b).2.now ≡ a) → ⊥
  rate_not-idle same =
      let h : ◌≡◌ {A = ℕ} 100 200 = sym (ap (λ l. size_at l 1) (same narrow wide)) ∙ ap (λ o. size_at o.2.1 1) (rate_met narrow wide ∙ wide-governs) in
      absurd (omega arith)

-- ---- the teller's two, on a record: a call that is taken and moves the cash, and a record that is not sound
abbrev pub Window : Type 0
Window = Account → Reply × Account

-- what a window's contract permits, of a record lent for change, a reply, and the record at exit
abbrev pub WindowPermits : Type 2
WindowPermits = MutBor Account → Reply → MutBor Account → Type 1

abbrev pub WindowMeets : WindowPermits → Window → Type 1
WindowMeets permits f = (l : MutBor Account) → permits l (f l.now).0 (at_last l (f l.now).1)

pub record WindowNotEmpty (permits : WindowPermits) : Type 1 where
  pub not_refusing : (f : Window) → WindowMeets permits f → ((a : Account) → (f a).0.number ≡ 0 → ⊥) → ⊥
  pub not_constant : (f : Window) → WindowMeets permits f → (r : Reply) → ((a : Account) → (f a).0 ≡ r) → ⊥
  pub not_idle : (f : Window) → WindowMeets permits f → ((a : Account) → (f a).1 ≡ a) → ⊥

pub window_not_empty : {permits : WindowPermits} (call : Account → Taken)
    → ((l : MutBor Account) (r : Reply) (z : MutBor Account) → permits l r z → (r ≡ reply_of (call l.now)) × (z.now ≡ (call l.now).account))
    → (good bad : Account) → (call good).number ≡ 0 → (call bad).number ≡ 1 → eqb (nat_abs (call good).account.cash) (nat_abs good.cash) ≡ false
    → WindowNotEmpty permits
window_not_empty call by good bad t u d = record {
  not_refusing = λ f m never. never good (ap (λ q. q.number) (by (lent good) _ _ (m (lent good))).0 ∙ t);
  not_constant = λ f m r same.
      let h : r.number ≡ 0 = sym (ap (λ q. q.number) (same good)) ∙ ap (λ q. q.number) (by (lent good) _ _ (m (lent good))).0 ∙ t in
      let k : r.number ≡ 1 = sym (ap (λ q. q.number) (same bad)) ∙ ap (λ q. q.number) (by (lent bad) _ _ (m (lent bad))).0 ∙ u in
      absurd (omega arith);
  not_idle = λ f m stays.
      let e : nat_abs (call good).account.cash ≡ nat_abs good.cash =
      sym (ap (λ a. nat_abs a.cash) (by (lent good) _ _ (m (lent good))).1) ∙ ap (λ a. nat_abs a.cash) (stays good) in
      clash (eq-eqb _ _ e) d;
}

-- a broker with 50,000 in cash; a record of no kind
abbrev record_of : ℤ → Account
record_of kind = record { kind = kind; cash = pos 50000; guarantee = pos 0; cap = pos 0; margin = pos 0; due0 = pos 0; due1 = pos 0; due2 = pos 0 }

module _ (w : World) (κs : Lfts 1) where
  pub teller-deposit : WindowNotEmpty (λ l r z. Permits window_deposits w κs (l, (pos 10, tt)) r (z, (pos 10, tt)))
  unfolding teller_deposit deposited account_ok
  teller-deposit =
      window_not_empty (λ a. teller_deposit a (pos 10)) (λ l r z. means teller_deposit-says w) (record_of (pos 0)) (record_of (pos 2)) refl refl refl

  pub teller-withdrawal : WindowNotEmpty (λ l r z. Permits window_withdrawals w κs (l, (pos 10, tt)) r (z, (pos 10, tt)))
  unfolding teller_withdrawal withdrawn account_ok limit_of excess_one excess_two deposit_of lg_value required_of min_z max_z floor_div takes_away
  teller-withdrawal =
      window_not_empty (λ a. teller_withdrawal a (pos 10)) (λ l r z. means teller_withdraw_says w) (record_of (pos 0)) (record_of (pos 2)) refl refl refl

-- ---- the sheet: the paper's text and no text at all, in any list that has room
module _ (w : World) (κs : Lfts 2) (f : List ℕ → List ℕ → ℕ × List ℕ)
    (meets : (text out : List ℕ) → Permits sheets w κs (shown text, (lent out, tt)) (f text out).0 (shown text, (lent (f text out).1, tt)))
    (out : List ℕ) (fits : 65536 ≤ length out) where
  sheet_met : (text out : List ℕ) → f text out ≡ answer_of (sheet_of the_ledger text) out
  sheet_met text out = means sheet_says w (meets text out)

  sheet_written : (text sheet : List ℕ) → sheet_of the_ledger text ≡ sheet → f text out ≡ (length sheet, sheet ++ drop (length sheet) out)
  sheet_written text sheet e = sheet_met text out ∙ rw (e, le-ltb (length out) 65536 fits) refl

  pub sheet_not_constant : (r : ℕ) → ((text : List ℕ) → (f text out).0 ≡ r) → ⊥
  sheet_not_constant r same =
      let h : r ≡ 108 = sym (same input) ∙ ap (λ p. p.0) (sheet_written input output the_sheet) in
      let k : r ≡ 6 = sym (same []) ∙ ap (λ p. p.0) (sheet_written [] (bytes "BAD 1\n") no_text) in
      absurd (omega arith)

  -- the first byte is an F, and a B
  pub sheet_not-idle : ((text : List ℕ) → (f text out).1 ≡ out) → ⊥
  sheet_not-idle stays =
      let h : get_or out 0 0 ≡ 70 = sym (ap (λ l. get_or l 0 0) (stays input)) ∙ ap (λ p. get_or p.1 0 0) (sheet_written input output the_sheet) in
      let k : get_or out 0 0 ≡ 66 = sym (ap (λ l. get_or l 0 0) (stays [])) ∙ ap (λ p. get_or p.1 0 0) (sheet_written [] (bytes "BAD 1\n") no_text) in
      absurd (omega arith)

-- Assumes nothing.
use Rattle.std.specs.Prelude.{◌≡◌, refl, [], ◌∷◌, ◌++◌, cond, ℕ, ◌-◌, eqb, ℤ, pos, Result, Ok, Err, get_or}
use Rattle.std.proofs.Common.{sym, ap, ap₂, ◌∙◌, ne_eqb, arith}
use Rattle.rules.specs.Refusal.{number_of, figure_of, answer_of}
use Rattle.rules.specs.AccountCalls.{Taken, outcome}
use Rattle.rules.specs.declared.Account.{Account}
use Rattle.rules.specs.declared.Accepted.{Accepted}
use Rattle.rules.specs.declared.refusal.Refusal.{Refusal}
use Rattle.rules.specs.declared.refusal.Refusal.TheVariants.{Unsound, Lists, NoSuchAccount, NoSuchProduct, Amount, WrongKind, WrongPhase, OutOfRange, PositionTooLarge, GrossTooLarge, AboveLimit, AccountTooLarge, HouseTooLarge}

-- every refusal has a number
pub number-some : (r : Refusal) → number_of r ≡ 0 → ⊥
number-some Unsound e = absurd (omega arith)
number-some Lists e = absurd (omega arith)
number-some NoSuchAccount e = absurd (omega arith)
number-some NoSuchProduct e = absurd (omega arith)
number-some Amount e = absurd (omega arith)
number-some WrongKind e = absurd (omega arith)
number-some WrongPhase e = absurd (omega arith)
number-some OutOfRange e = absurd (omega arith)
number-some PositionTooLarge e = absurd (omega arith)
number-some GrossTooLarge e = absurd (omega arith)
number-some (AboveLimit limit) e = absurd (omega arith)
number-some (AccountTooLarge account) e = absurd (omega arith)
number-some HouseTooLarge e = absurd (omega arith)

-- ---- What is answered tells the outcome: two outcomes that are answered alike are one. So a contract that is an equation of what its result
-- answers permits one result alone.

-- the refusal of a number, from 1 on, and of a figure
abbrev refusal_by : ℕ → ℤ → Refusal
refusal_by k z =
    let low = Unsound ∷ Lists ∷ NoSuchAccount ∷ NoSuchProduct ∷ Amount ∷ WrongKind ∷ WrongPhase ∷ [] in
    let high = OutOfRange ∷ PositionTooLarge ∷ GrossTooLarge ∷ AboveLimit z ∷ AccountTooLarge z ∷ HouseTooLarge ∷ [] in
    get_or (low ++ high) (k - 1) Unsound

refusal_by-number_of : (r : Refusal) → refusal_by (number_of r) (figure_of r) ≡ r
refusal_by-number_of Unsound = refl
refusal_by-number_of Lists = refl
refusal_by-number_of NoSuchAccount = refl
refusal_by-number_of NoSuchProduct = refl
refusal_by-number_of Amount = refl
refusal_by-number_of WrongKind = refl
refusal_by-number_of WrongPhase = refl
refusal_by-number_of OutOfRange = refl
refusal_by-number_of PositionTooLarge = refl
refusal_by-number_of GrossTooLarge = refl
refusal_by-number_of (AboveLimit limit) = refl
refusal_by-number_of (AccountTooLarge account) = refl
refusal_by-number_of HouseTooLarge = refl

-- the outcome of a call that answers a number and a figure: 0 is the number of no refusal
abbrev outcome_by : {A : Type 0} → ℕ → ℤ → A → Result A Refusal
outcome_by k z accepted = cond (eqb k 0) (Ok accepted) (Err (refusal_by k z))

refused-again : {A : Type 0} (accepted : A) (r : Refusal) → outcome_by (number_of r) (figure_of r) accepted ≡ Err r
refused-again accepted r = rw (ne_eqb (number_of r) 0 (number-some r)) (ap Err (refusal_by-number_of r))

-- the outcome, of what it is answered with
outcome_of-answer_of : (r : Result ℤ Refusal) → outcome_by (answer_of r).number (answer_of r).figure (answer_of r).figure ≡ r
outcome_of-answer_of (Ok figure) = refl
outcome_of-answer_of (Err refusal) = refused-again (figure_of refusal) refusal

abbrev accepted_by : Taken → Accepted
accepted_by t = record { figure = t.figure; account = t.account }

outcome_of-outcome : (account : Account) (r : Result Accepted Refusal)
    → outcome_by (outcome account r).number (outcome account r).figure (accepted_by (outcome account r)) ≡ r
outcome_of-outcome account (Ok accepted) = refl
outcome_of-outcome account (Err refusal) = refused-again (accepted_by (outcome account (Err refusal))) refusal

-- a call answers alike with one outcome alone: its figure, or its refusal with the limit or the account that it names
pub one-answer_of : (r q : Result ℤ Refusal) → answer_of r ≡ answer_of q → r ≡ q
one-answer_of r q e = sym (outcome_of-answer_of r) ∙ ap (λ a. outcome_by a.number a.figure a.figure) e ∙ outcome_of-answer_of q

-- the same of a call on one account, whose outcome has the account after it too
pub one-outcome : (account : Account) (r q : Result Accepted Refusal) → outcome account r ≡ outcome account q → r ≡ q
one-outcome account r q e = sym (outcome_of-outcome account r) ∙ ap (λ t. outcome_by t.number t.figure (accepted_by t)) e ∙ outcome_of-outcome account q

-- where the number is neither of the two that name a limit or an account, it tells the refusal by itself
figure_of-none : (r : Refusal) → (number_of r ≡ 11 → ⊥) → (number_of r ≡ 12 → ⊥) → figure_of r ≡ pos 0
figure_of-none Unsound h i = refl
figure_of-none Lists h i = refl
figure_of-none NoSuchAccount h i = refl
figure_of-none NoSuchProduct h i = refl
figure_of-none Amount h i = refl
figure_of-none WrongKind h i = refl
figure_of-none WrongPhase h i = refl
figure_of-none OutOfRange h i = refl
figure_of-none PositionTooLarge h i = refl
figure_of-none GrossTooLarge h i = refl
figure_of-none (AboveLimit limit) h i = absurd (h refl)
figure_of-none (AccountTooLarge account) h i = absurd (i refl)
figure_of-none HouseTooLarge h i = refl

pub one-number_of : (r q : Refusal) → number_of r ≡ number_of q → (number_of r ≡ 11 → ⊥) → (number_of r ≡ 12 → ⊥) → r ≡ q
one-number_of r q e h i =
    let f : figure_of r ≡ figure_of q = figure_of-none r h i ∙ sym (figure_of-none q (λ k. h (e ∙ k)) (λ k. i (e ∙ k))) in
    sym (refusal_by-number_of r) ∙ ap₂ refusal_by e f ∙ refusal_by-number_of q

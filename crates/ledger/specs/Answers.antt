-- How the functions behind the gate come by what their contracts say: a question puts nothing; a call on a record is its reply and its puts.
-- Assumes nothing.
use Rattle.std.specs.Prelude.{◌≡◌, refl, Bool, true, false, cond, ◌||◌, List, ℤ, nat_abs, ℕ, ◌<◌, Option, Some, None, Result, Ok, Err, IsErr, IsErrAnd}
use Rattle.std.proofs.Common.{sym, ap, ◌∙◌, arith, rules, eq-eqb, ne_eqb}
use Rattle.std.proofs.lemmas.List.{set-get_or}
use Rattle.std.proofs.lemmas.Option.{none-some, same_Some}
use Rattle.whole.specs.Number.{is, is_one_of, unless}
use Rattle.whole.specs.Tests.{in-range, is-one-of}
use Rattle.acts.specs.Trade.{one_of_each}
use Rattle.rules.specs.declared.Standing.{Standing}
use Rattle.places.specs.declared.Shape.{Shape}
use Rattle.places.specs.Place.{Layout, Put, get, puts}
use Rattle.places.specs.Act.{Act, finish}
use Rattle.soundness.specs.Sound.{account_at}
use Rattle.soundness.specs.Perform.{refuse, refuse_question}
use Rattle.rules.specs.AccountCalls.{Taken, taken, reply_of, outcome}
use Rattle.rules.specs.Refusal.{answer_of}
use Rattle.rules.specs.declared.refusal.Refusal.{Refusal}
use Rattle.rules.specs.declared.Accepted.{Accepted}
use Rattle.rules.proofs.RefusalLaws.{number-some}
use Rattle.rules.specs.declared.Reply.{Reply}
use Rattle.acts.specs.Requests.{at_account, when_taken, question_act, question_rule}
use Rattle.rules.specs.declared.Account.{Account}

-- the words stay
pub question-finish : (L : Layout) (s : Shape) (W : List ℤ) (a : ℤ) → ◌≡◌ {A = Standing × List ℤ} ((question_rule a s (get L s W)).answer, W) (finish L s W (question_rule a s (get L s W)))
question-finish L s W a = go (is_one_of s.n a)
  where
    o : Act Standing
    o = question_act (nat_abs a) (account_at (get L s W) (nat_abs a))

    go : (t : Bool) → ◌≡◌ {A = Standing × List ℤ} ((unless t (refuse_question 3) o).answer, W) (finish L s W (unless t (refuse_question 3) o))
    go true = refl
    go false = refl

-- what is left after a call, X, is what was there, W, whatever was written between: a word that is put where it stood changes nothing
pub words-left : {A : Type 0} (r : A) (W X : List ℤ) {z : A × List ℤ} → X ≡ W → (r, W) ≡ z → (r, X) ≡ z
words-left r W X e h = ap (λ x. (r, x)) e ∙ h

pub ruleset same_words = (rules, set-get_or)

-- a call on a record that was taken, and one that was not
module _ (L : Layout) (s : Shape) (W : List ℤ) (t : Taken) (us : List Put) (r : Reply) (e : r ≡ reply_of t) where
  pub taken_as : t.number ≡ 0 → (X : List ℤ) → X ≡ puts L s W us → ◌≡◌ {A = Reply × List ℤ} (r, X) (finish L s W (when_taken t us))
  taken_as z X q = (λ i. (e i, q i)) ∙ rw (eq-eqb t.number 0 z) refl

  pub not-taken_as : (t.number ≡ 0 → ⊥) → ◌≡◌ {A = Reply × List ℤ} (r, W) (finish L s W (when_taken t us))
  not-taken_as z = (λ i. (e i, W)) ∙ rw (ne_eqb t.number 0 z) refl

-- a request that names the account k of the ledger, and one that names none
module _ {A : Type 0} (L : Layout) (s : Shape) (W : List ℤ) (nay : Act A) (a : ℤ) (f : ℕ → Account → Act A) where
  pub at-account : (k : ℕ) → k ≡ nat_abs a → is_one_of s.n a ≡ true → finish L s W (f k (account_at (get L s W) k)) ≡ finish L s W (at_account nay a f s (get L s W))
  at-account k e t = rw t (ap (λ z. finish L s W (f z (account_at (get L s W) z))) e)

  pub no-account : is_one_of s.n a ≡ false → at_account nay a f s (get L s W) ≡ nay
  no-account t = rw t

-- ---- a request that names an account

-- z names a, one of n
pub record Named (n : ℕ) (z : ℤ) (a : ℕ) : Type 0 where
  pub yes : is_one_of n z ≡ true
  pub same : a ≡ nat_abs z
  pub below : a < n

index-given : (t : Bool) (k a : ℕ) → cond t (Some k) None ≡ Some a → (t ≡ true) × (a ≡ k)
index-given true k a e = (refl, sym (same_Some k a e))
index-given false k a e = absurd (none-some a e)

-- what was found is named; w is the word that holds z
pub named : (n : ℕ) (z w : ℤ) (a : ℕ) {o : Option ℕ} → w ≡ z → o ≡ cond (is_one_of n w) (Some (nat_abs w)) None → o ≡ Some a → Named n z a
named n z w a q e h =
    let g = index-given (is_one_of n w) (nat_abs w) a (sym e ∙ h) in
    let y : is_one_of n z ≡ true = ap (is_one_of n) (sym q) ∙ g.0 in let m : a ≡ nat_abs z = g.1 ∙ ap nat_abs q in
    record { yes = y; same = m; below = omega (arith, (is-one-of n z y).high) }

none-given : (t : Bool) (k : ℕ) → cond t (Some k) None ≡ None → t ≡ false
none-given true k e = absurd (none-some k (sym e))
none-given false k e = refl

-- where nothing was found, none of n is named
pub unnamed : (n : ℕ) (z w : ℤ) {o : Option ℕ} → w ≡ z → o ≡ cond (is_one_of n w) (Some (nat_abs w)) None → o ≡ None → is_one_of n z ≡ false
unnamed n z w q e h = ap (is_one_of n) (sym q) ∙ none-given (is_one_of n w) (nat_abs w) (sym e ∙ h)

-- a call by `rule` on the record of the account that z names, which puts `put`
module _ (L : Layout) (s : Shape) (W : List ℤ) (rule : Account → Taken) (put : ℕ → Taken → List Put) (z : ℤ) (a : ℕ) (n : Named s.n z a)
    (account : Account) (is : account ≡ account_at (get L s W) a) (o : Result Accepted Refusal) (e : outcome account o ≡ rule account) where
  abbrev act : ℕ → Account → Act Reply
  act k whose = when_taken (rule whose) (put k (rule whose))

  of_account : finish L s W (act a account) ≡ finish L s W (at_account (refuse 3) z act s (get L s W))
  of_account = ap (λ whose. finish L s W (act a whose)) is ∙ at-account L s W (refuse 3) z act a n.same n.yes

  -- refused: the words stay
  pub refusal : (r : Refusal) → o ≡ Err r → ◌≡◌ {A = Reply × List ℤ} (answer_of (Err r), W) (finish L s W (at_account (refuse 3) z act s (get L s W)))
  refusal r h =
      let t = ap (outcome account) (sym h) ∙ e in
      not-taken_as L s W (outcome account (Err r)) (put a (outcome account (Err r))) (answer_of (Err r)) refl (number-some r)
      ∙ ap (λ k. finish L s W (when_taken k (put a k))) t
      ∙ of_account

  -- accepted: its figure, and what it puts
  pub acceptance : (k : Accepted) → o ≡ Ok k → (X : List ℤ) → X ≡ puts L s W (put a (taken k.figure k.account))
      → ◌≡◌ {A = Reply × List ℤ} (answer_of (Ok k.figure), X) (finish L s W (at_account (refuse 3) z act s (get L s W)))
  acceptance k h X x =
      let t = ap (outcome account) (sym h) ∙ e in
      taken_as L s W (taken k.figure k.account) (put a (taken k.figure k.account)) (answer_of (Ok k.figure)) refl refl X x
      ∙ ap (λ y. finish L s W (when_taken y (put a y))) t
      ∙ of_account

-- the error that `?` hands on
pub handed_on : {o : Result ℤ Refusal} {r : Refusal} → IsErr o → IsErrAnd o (λ x. x ≡ r) → o ≡ Err r
handed_on {o = Ok x} h e = absurd e
handed_on {o = Err x} h e = ap Err e

-- one F and one L, by the buyer's kind
pub an_f : (k l : ℤ) → is 0 k ≡ true → one_of_each k l ≡ is 1 l
an_f k l e = let r = in-range 0 0 k e in let z : nat_abs k ≡ 0 = omega arith in rw (r.nat, z) (go (is 1 l))
  where
    go : (t : Bool) → (t || false) ≡ t
    go true = refl
    go false = refl

pub an_l : (k l : ℤ) → is 0 k ≡ false → is 1 k ≡ true → one_of_each k l ≡ is 0 l
an_l k l e h = rw (e, h)

pub neither : (k l : ℤ) → is 0 k ≡ false → is 1 k ≡ false → one_of_each k l ≡ false
neither k l e h = rw (e, h)

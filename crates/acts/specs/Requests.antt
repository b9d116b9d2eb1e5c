-- The requests that name one account (01, "The day"): deposit, withdrawal, guarantee call, question. What each does to the account's record is
-- crate `rules`'; here the record is read off the ledger, and what changed is put back. Refusals: 3 no such account, then the rule's own.
use Rattle.std.specs.Prelude.{List, [], ◌∷◌, cond, ℕ, eqb, ℤ, nat_abs}
use Rattle.whole.specs.Number.{is_one_of, unless}
use Rattle.rules.specs.AccountCalls.{Taken, deposited, withdrawn, guaranteed, standing_of, reply_of}
use Rattle.rules.specs.declared.Account.{Account}
use Rattle.rules.specs.declared.Reply.{Reply}
use Rattle.rules.specs.declared.Standing.{Standing}
use Rattle.places.specs.Place.{Put, ◌≔◌, cash, guarantee, cap}
use Rattle.places.specs.Act.{Act, Rule}
use Rattle.soundness.specs.Sound.{account_at}
use Rattle.soundness.specs.Perform.{refuse, refuse_question}

-- a request about the account a is an act on its record, with the account's number for the puts
abbrev pub at_account : {A : Type 0} → Act A → ℤ → (ℕ → Account → Act A) → Rule A
at_account refusal a f s g = unless (is_one_of s.n a) refusal (f (nat_abs a) (account_at g (nat_abs a)))

-- the reply of a call on the record; the puts where it was taken
abbrev pub when_taken : Taken → List Put → Act Reply
when_taken t us = record { answer = reply_of t; puts = cond (eqb t.number 0) us [] }

abbrev pub deposit_act : ℤ → ℕ → Account → Act Reply
deposit_act x a account = when_taken (deposited account x) ((cash a ≔ (deposited account x).account.cash) ∷ [])

abbrev pub withdraw_act : ℤ → ℕ → Account → Act Reply
withdraw_act x a account = when_taken (withdrawn account x) ((cash a ≔ (withdrawn account x).account.cash) ∷ [])

abbrev pub guarantee_act : ℤ → ℤ → ℕ → Account → Act Reply
guarantee_act x y a account =
    when_taken (guaranteed account x y)
    ((guarantee a ≔ (guaranteed account x y).account.guarantee) ∷ (cap a ≔ (guaranteed account x y).account.cap) ∷ [])

abbrev pub question_act : ℕ → Account → Act Standing
question_act a account = record { answer = standing_of account; puts = [] }

-- deposit 1 3 5 10, withdrawal 1 3 5 11, guarantee 1 3 5 6, question 1 3
abbrev pub deposit_rule : ℤ → ℤ → Rule Reply
deposit_rule a x = at_account (refuse 3) a (deposit_act x)

abbrev pub withdraw_rule : ℤ → ℤ → Rule Reply
withdraw_rule a x = at_account (refuse 3) a (withdraw_act x)

abbrev pub guarantee_rule : ℤ → ℤ → ℤ → Rule Reply
guarantee_rule a x y = at_account (refuse 3) a (guarantee_act x y)

abbrev pub question_rule : ℤ → Rule Standing
question_rule a = at_account (refuse_question 3) a question_act

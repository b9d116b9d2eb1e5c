-- `share_loss` meets its contract: a refusal is answered with nothing written, and an accepted loss is shared. Assumes nothing.
use mathlib.Core.Path.{◌≡◌, refl, sym, ap, ◌∙◌}
use Prim.Native.Nat.{◌≤◌}
use native.Mathlib.Omega.{arith}
use lib.IntN.{nat_abs}
use lib.ListN.{length}
use borrow.Author.Tests.{eq-eqb, ne_eqb}
use mir.Syntax.{w64}
use mir.ValLaws.{to_z_pos}
use Rattle.whole.specs.Signs.{arg}
use Rattle.shares.specs.Loss.{refusal, loss_shared, most_loss}
use Rattle.shares.specs.LossLaws.{covered}
use Rattle.rules.specs.Refusal.{number_of}
use Rattle.rules.proofs.RefusalLaws.{number-some}
use Rattle.shares.specs.Refused.{number}
use Rattle.shares.specs.Accepted.{Accepted, accepted}
use Rattle.shares.proofs.share_loss.Goals.{After-refusal, After-shared-rest, After-unsigned_abs, In-None}
use Rattle.shares.proofs.share_loss.Goals as goal

-- what `refusal` gave
refusal_is : (c : After-refusal) →
    let a = c.args in
    number c.refusal.result ≡ refusal a.loss a.deposits.now a.differences.now a.marks.now (length a.first.now) (length a.second.now)
refusal_is c = c.refusal.ensures ∙ rw (arg c.ranges.loss) refl

pub returns-in-Some : goal.returns-in-Some
unfolding loss_shared
returns-in-Some c =
    let r = c.in-Some.refusal in
    let e = sym (ap number c.in-Some.is) ∙ refusal_is (goal.at.returns-in-Some c).After-refusal in
    rw (← e, ne_eqb (number_of r) 0 (number-some r), c.number.ensures) refl

-- the call was not refused
fine : (c : In-None) →
    let a = c.args in
    Accepted a.loss a.deposits.now a.differences.now a.marks.now (length a.first.now) (length a.second.now)
fine c =
    let a = c.args in
    accepted a.loss a.deposits.now a.differences.now a.marks.now (length a.first.now) (length a.second.now)
    (sym (refusal_is (goal.at.In-None c).After-refusal) ∙ ap number c.in-None.is)

-- the loss as an unsigned number
loss_is : (c : After-unsigned_abs) → c.unsigned_abs.result ≡ nat_abs c.args.loss
loss_is c = c.unsigned_abs.ensures.value ∙ rw (arg c.ranges.loss) refl

pub shared-rest-requires : goal.shared-rest-requires
shared-rest-requires c =
    let f = fine (goal.at.shared-rest-requires c).In-None in
    record {
      lengths = f.lengths;
      each_1 = f.deposits_in;
      each_2 = f.differences_in;
      each_3 = omega (arith, loss_is (goal.at.shared-rest-requires c).After-unsigned_abs, f.loss_high);
    }

remains-most : (c : After-shared-rest) → c.shared-rest.result ≤ most_loss
remains-most c =
    let a = c.args in
    omega (
      arith,
      c.shared-rest.ensures.value,
      loss_is (goal.at.After-shared-rest c).After-unsigned_abs,
      (fine (goal.at.After-shared-rest c).In-None).loss_high,
      covered c.unsigned_abs.result a.deposits.now a.differences.now a.marks.now,
    )

pub overflow_cast-result : goal.overflow_cast-result
overflow_cast-result c = omega (arith, remains-most (goal.at.overflow_cast-result c).After-shared-rest)

pub returns-in-None : goal.returns-in-None
unfolding loss_shared
returns-in-None c =
    let e = c.shared-rest.ensures in
    let none = sym (refusal_is (goal.at.returns-in-None c).After-refusal) ∙ ap number c.in-None.is in
    rw (
      eq-eqb _ 0 none,
      to_z_pos w64 c.shared-rest.result (omega (arith, remains-most (goal.at.returns-in-None c).After-shared-rest)),
      e.value,
      e.first_after,
      e.second_after,
      loss_is (goal.at.returns-in-None c).After-unsigned_abs,
    )
    refl

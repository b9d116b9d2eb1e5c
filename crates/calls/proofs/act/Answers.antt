-- Each letter is one call, with the figures that it has. Assumes nothing.
use Rattle.std.specs.Prelude.{◌≡◌}
use Rattle.std.proofs.Common.{rules, refl, sym, ap, ◌∙◌}
use Rattle.whole.specs.Counting.{figure_at}
use Rattle.whole.specs.Signs.{came}
use Rattle.places.specs.Place.{get}
use Rattle.places.specs.Act.{finish}
use Rattle.places.specs.ByAccount.{by_account}
use Rattle.acts.specs.Requests.{deposit_rule, withdraw_rule}
use Rattle.dayfile.specs.CallLines.{Call, deposit, withdrawal, begin, step, none, call_of}
use Rattle.calls.specs.InsideCalls.{guarantee_by, trade_by, close_by}
use Rattle.calls.specs.Ledger.{the_ledger}
use Rattle.calls.specs.LedgerLaws.{acted}
use Rattle.calls.proofs.act.Goals as goal

pub returns-in-68 : goal.returns-in-68
unfolding call_of
returns-in-68 c =
    let W = c.args.words.now in let v = c.args.figures.now in let p = c.args.s.p in
    let is : deposit (figure_at v 0) (figure_at v 1) ≡ call_of p c.args.letter v = sym (ap (λ l. call_of p l v) c.in-68.is) in
    let x = came c.figure_at.result c.figure_at.type_inv c.figure_at.ensures in
    let y = came c.figure_at-in-68.result c.figure_at-in-68.type_inv c.figure_at-in-68.ensures in
    acted c.args.s W c.requires (deposit (figure_at v 0) (figure_at v 1)) is
    (c.deposit_in.ensures ∙ (λ i. finish by_account c.args.s W (deposit_rule (x i) (y i) c.args.s (get by_account c.args.s W))))

pub returns-in-87 : goal.returns-in-87
unfolding call_of
returns-in-87 c =
    let W = c.args.words.now in let v = c.args.figures.now in let p = c.args.s.p in
    let is : withdrawal (figure_at v 0) (figure_at v 1) ≡ call_of p c.args.letter v = sym (ap (λ l. call_of p l v) c.in-87.is) in
    let x = came c.figure_at-in-87.result c.figure_at-in-87.type_inv c.figure_at-in-87.ensures in
    let y = came c.figure_at-in-87-2.result c.figure_at-in-87-2.type_inv c.figure_at-in-87-2.ensures in
    acted c.args.s W c.requires (withdrawal (figure_at v 0) (figure_at v 1)) is
    (c.withdraw_in.ensures ∙ (λ i. finish by_account c.args.s W (withdraw_rule (x i) (y i) c.args.s (get by_account c.args.s W))))

pub returns-in-71 : goal.returns-in-71
unfolding call_of
returns-in-71 c =
    let W = c.args.words.now in let v = c.args.figures.now in let p = c.args.s.p in
    let is : guarantee_by v ≡ call_of p c.args.letter v = sym (ap (λ l. call_of p l v) c.in-71.is) in
    c.guarantee.ensures ∙ ap (λ (k : Call). the_ledger.perform k W) is

pub returns-in-66 : goal.returns-in-66
unfolding call_of
returns-in-66 c =
    let W = c.args.words.now in let v = c.args.figures.now in let p = c.args.s.p in
    let is : begin ≡ call_of p c.args.letter v = sym (ap (λ l. call_of p l v) c.in-66.is) in
    acted c.args.s W c.requires begin is c.begin_in.ensures

pub returns-in-83 : goal.returns-in-83
unfolding call_of
returns-in-83 c =
    let W = c.args.words.now in let v = c.args.figures.now in let p = c.args.s.p in
    let is : step ≡ call_of p c.args.letter v = sym (ap (λ l. call_of p l v) c.in-83.is) in
    acted c.args.s W c.requires step is c.step_in.ensures

pub returns-in-84 : goal.returns-in-84
unfolding call_of
returns-in-84 c =
    let W = c.args.words.now in let v = c.args.figures.now in let p = c.args.s.p in
    let is : trade_by v ≡ call_of p c.args.letter v = sym (ap (λ l. call_of p l v) c.in-84.is) in
    c.trade.ensures ∙ ap (λ (k : Call). the_ledger.perform k W) is

pub returns-in-67 : goal.returns-in-67
unfolding call_of
returns-in-67 c =
    let W = c.args.words.now in let v = c.args.figures.now in let p = c.args.s.p in
    let is : close_by p v ≡ call_of p c.args.letter v = sym (ap (λ l. call_of p l v) c.in-67.is) in
    c.close.ensures ∙ ap (λ (k : Call). the_ledger.perform k W) is

pub returns-in_default : goal.returns-in_default
unfolding call_of
returns-in_default c =
    let W = c.args.words.now in let v = c.args.figures.now in let p = c.args.s.p in
    let is : none ≡ call_of p c.args.letter v = search rules in
    acted c.args.s W c.requires none is refl

-- Each line is written at its account's place; one law serves every section of lines.
use mathlib.Core.Path.{◌≡◌, ◌∙◌, ap}
use mathlib.Core.List.{List}
use Prim.Native.Nat.{ℕ}
use native.Mathlib.Omega.{arith}
use lib.IntN.{ℤ}
use lib.Seq.{sets}
use Rattle.places.specs.PlaceLaws.{account-inside}
use Rattle.places.specs.ByAccount.{by_account}
use Rattle.lines.specs.Lines.{Line, Stand, line_start_of}
use Rattle.lines.proofs.LineLaws.{onward-more, onward_bad, onward-done, line_by}
use Rattle.dayfile.specs.Sections.{account_figures, account_line, accounts_from}
use Rattle.dayfile.proofs.sections.accounts.Goals as goal

pub account-next-requires : goal.account-next-requires
account-next-requires c =
    let l = c.loop-a in
    omega (arith, c.requires.fact_2.sized, l.invariant.1, c.acct_at-base.ensures.0, account-inside by_account c.args.s l.a (omega arith))

pub returns-then-next-eq-LOST : goal.returns-then-next-eq-LOST
unfolding accounts_from
returns-then-next-eq-LOST c =
    let l = c.loop-a in
    let u = c.args in
    let k = c.account-next in
    let read : ◌≡◌ {A = Line (List ℤ)} (record { next = k.result; held = k.new.words }) (account_line u.text.now u.s l.a l.at l.words) =
    line_by k.ensures.0 (k.ensures.1 ∙ ap (λ (b : ℕ). sets l.words b (account_figures u.text.now l.at).values) c.acct_at-base.ensures.0) in
    let e = onward_bad (account_line u.text.now u.s) l.invariant.0 (omega arith) (record { next = k.result; held = k.new.words }) read c.if-next-eq-LOST.true in
    (ap line_start_of e, ap (λ (s : Stand (List ℤ)). s.held) e)

pub loop-a-preserved : goal.loop-a-preserved
loop-a-preserved c =
    let l = c.loop-a in
    let u = c.args in
    let k = c.account-next in
    let read : ◌≡◌ {A = Line (List ℤ)} (record { next = k.result; held = k.new.words }) (account_line u.text.now u.s l.a l.at l.words) =
    line_by k.ensures.0 (k.ensures.1 ∙ ap (λ (b : ℕ). sets l.words b (account_figures u.text.now l.at).values) c.acct_at-base.ensures.0) in
    (onward-more (account_line u.text.now u.s) l.invariant.0 (omega arith) (record { next = k.result; held = k.new.words }) read c.if-next-eq-LOST.false, k.auto.words ∙ l.invariant.1)

pub returns : goal.returns
unfolding accounts_from
returns c =
    let l = c.loop-a in
    let u = c.args in
    let e = onward-done (account_line u.text.now u.s) l.invariant.0 (omega arith) in
    (ap line_start_of e, ap (λ (s : Stand (List ℤ)). s.held) e)

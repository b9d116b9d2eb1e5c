-- The capped value passes and fails the same tests as the value itself.
use mathlib.Core.Path.{sym, ◌∙◌}
use Prim.Native.Nat.{◌-◌}
use Rattle.lines.specs.Text.{plain_of}
use Rattle.lines.proofs.TextLaws.{numeral_none, numeral_minus, numeral_plain, one_digit}
use Rattle.lines.proofs.number_at.Goals as goal

pub returns-in_err-first : goal.returns-in_err-first
returns-in_err-first c = c.from_residual.ensures ∙ numeral_none c.args.text.now c.args.at c.in_err-first.ensures.lookup.3

pub returns-then-first-eq45 : goal.returns-then-first-eq45
returns-then-first-eq45 c =
    let a = c.args in
    let first = c.in_ok-first.ensures.lookup.3.1 0 in
    c.minus_of.ensures ∙ numeral_minus a.text.now a.at c.byte_at-lead.result c.digits.result (sym first ∙ c.if-first-eq45.true) c.byte_at-lead.ensures c.digits.ensures

pub plain_of-requires-clause-fact_2 : goal.plain_of-requires-clause-fact_2
plain_of-requires-clause-fact_2 c =
    let a = c.args in
    let here = c.in_ok-first.ensures.lookup.3 in
    λ e. one_digit a.text.now a.at c.digits-2.result here.0 c.digits-2.ensures e ∙ (λ i. sym (here.1 0) i - 48)

pub returns : goal.returns
returns c =
    let a = c.args in
    let first = c.in_ok-first.ensures.lookup.3.1 0 in
    c.plain_of.ensures ∙ (λ i. plain_of (first i) a.at c.digits-2.result.end c.digits-2.result.value)
    ∙ numeral_plain a.text.now a.at c.digits-2.result (λ q. c.if-first-eq45.false (first ∙ q)) c.digits-2.ensures

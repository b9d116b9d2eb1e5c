-- The line's eight numbers are the words' and the question's; each is read back from its machine word. Assumes nothing.
use mir.Facts.{to_z_pos}
use Rattle.std.proofs.Common.{rules, of_z}
use mathlib.Core.Path.{◌≡◌, ◌∙◌, ap}
use mathlib.Core.List.{[], ◌∷◌}
use Prim.Native.Nat.{◌+◌}
use native.Mathlib.Omega.{arith}
use lib.IntN.{ℤ, pos}
use lib.ListN.{length}
use lib.Seq.{sets}
use mir.Syntax.{w64}
use mir.Val.{to_z}
use Rattle.whole.specs.Signs.{came}
use Rattle.lines.specs.Print.{numbers_line}
use Rattle.calls.specs.Ledger.{the_ledger}
use Rattle.rules.specs.declared.Standing.{Standing}
use Rattle.day.proofs.put_account.Goals as goal

pub returns : goal.returns
returns c =
    let s = c in
    let a = s.args in
    let k = c.put_line in
    let q = c.question-standing in
    let w1 = c.acct_word-cash in
    let w2 = c.acct_word-due0 in
    let w3 = c.acct_word-due1 in
    let w4 = c.acct_word-due2 in
    let e0 : to_z w64 a.a ≡ pos a.a = to_z_pos w64 (omega (arith, s.requires.fact_1, s.requires.fact_2.sized.few)) in
    let e1 = came w1.result w1.type_inv w1.ensures in
    let e2 = came w2.result w2.type_inv w2.ensures in
    let e3 = came w3.result w3.type_inv w3.ensures in
    let e4 = came w4.result w4.type_inv w4.ensures in
    let q-is = q.ensures ∙ ap (λ (z : ℤ). the_ledger.question z a.words.now) e0 in
    let re5 : to_z w64 (of_z w64 q.result.limit) ≡ q.result.limit = search rules in
    let e5 = re5 ∙ ap (λ (s : Standing). s.limit) q-is in
    let re6 : to_z w64 (of_z w64 q.result.first) ≡ q.result.first = search rules in
    let e6 = re6 ∙ ap (λ (s : Standing). s.first) q-is in
    let re7 : to_z w64 (of_z w64 q.result.second) ≡ q.result.second = search rules in
    let e7 = re7 ∙ ap (λ (s : Standing). s.second) q-is in (
      k.ensures.0 ∙ (λ i. a.at + length (numbers_line (e0 i ∷ e1 i ∷ e2 i ∷ e3 i ∷ e4 i ∷ e5 i ∷ e6 i ∷ e7 i ∷ []))),
      k.ensures.1 ∙ (λ i. sets a.out.now a.at (numbers_line (e0 i ∷ e1 i ∷ e2 i ∷ e3 i ∷ e4 i ∷ e5 i ∷ e6 i ∷ e7 i ∷ []))),
    )

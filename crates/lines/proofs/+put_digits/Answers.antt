-- The digits of n / 10, then the last digit, are the digits of n; one digit more than a number can have changes nothing.
use mathlib.Core.List.{List, [], ◌∷◌}
use Prim.Native.Nat.{ℕ, ◌+◌, ◌/◌, ◌%◌}
use mathlib.Core.Path.{◌∙◌, ap, ap₂}
use native.Mathlib.Omega.{arith}
use lib.ListN.{length, set, length-append}
use lib.Seq.{sets}
use Rattle.lines.specs.Print.{natural}
use Rattle.lines.proofs.PrintLaws.{digits-length, small-digits, large-digits, tenth}
use Rattle.lines.proofs.WriteLaws.{sets_append}
use Rattle.lines.proofs.+put_digits.Goals as goal

pub returns-then-n-lt10 : goal.returns-then-n-lt10
returns-then-n-lt10 t c =
    let a = c.args in
    let e = small-digits 19 a.n (omega arith) in
    (ap (λ (l : List ℕ). a.at + length l) e, ap (λ (l : List ℕ). sets a.out.now a.at l) e)

pub bounds-out-e : goal.bounds-out-e
bounds-out-e t c =
    let a = c.args in
    let d = c.put_digits-e in
    omega (arith, d.ensures.0, d.auto.out, tenth a.n (omega arith))

pub overflow_add-result-2 : goal.overflow_add-result-2
overflow_add-result-2 t c =
    let a = c.args in
    let d = c.put_digits-e in
    omega (arith, d.ensures.0, d.auto.out, digits-length 20 (a.n / 10))

pub returns : goal.returns
returns t c =
    let a = c.args in
    let d = c.put_digits-e in
    let e = large-digits 18 a.n (omega arith) (omega arith) in (
      ap (λ (k : ℕ). k + 1) d.ensures.0 ∙ rw (← e) (omega (arith, length-append (natural (a.n / 10)) ((48 + a.n % 10) ∷ []))),
      ap₂ (λ (l : List ℕ) (k : ℕ). set l k (48 + a.n % 10)) d.ensures.1 d.ensures.0
          ∙ sets_append a.out.now a.at (natural (a.n / 10)) ((48 + a.n % 10) ∷ []) ∙ ap (λ (l : List ℕ). sets a.out.now a.at l) e,
    )

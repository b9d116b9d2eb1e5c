-- A number below 10 is its one digit; any other is written by `put_digits`.
use mathlib.Core.Path.{ap}
use mathlib.Core.List.{List}
use Prim.Native.Nat.{ℕ, ◌+◌}
use native.Mathlib.Omega.{arith}
use lib.ListN.{length}
use lib.Seq.{sets}
use Rattle.lines.proofs.PrintLaws.{small-digits}
use Rattle.lines.proofs.put_natural.Goals as goal

pub returns-then-n-lt10 : goal.returns-then-n-lt10
returns-then-n-lt10 c =
    let a = c.args in
    let e = small-digits 19 a.n (omega arith) in
    (ap (λ (l : List ℕ). a.at + length l) e, ap (λ (l : List ℕ). sets a.out.now a.at l) e)

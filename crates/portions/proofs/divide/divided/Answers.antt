-- `divided` meets its contract. Assumes nothing.
use mathlib.Core.Path.{◌≡◌, sym, ap}
use Prim.Native.Nat.{◌+◌, ◌*◌, ◌/◌, ◌%◌, ◌^◌, ◌<◌}
use native.Mathlib.Nat.{div-add-mod', mod-lt}
use native.Mathlib.Omega.{arith}
use lib.Arith.{digits_div, digits_mod}
use Rattle.portions.proofs.divide.divided.Goals.{Start}
use Rattle.portions.proofs.divide.divided.Goals as goal

-- 2^30 times the amount is the second division on top of the first
both : (c : Start) →
    let a = c.args in
    let second = a.amount * 32768 % a.sum * 32768 in
    a.amount * 2 ^ 30 ≡ (a.amount * 32768 / a.sum * 32768 + second / a.sum) * a.sum + second % a.sum
both c =
    let a = c.args in
    let first = a.amount * 32768 in
    let second = first % a.sum * 32768 in
    omega (arith, div-add-mod' second a.sum, ap (λ x. x * 32768) (div-add-mod' first a.sum))

pub returns : goal.returns
returns c =
    let a = c.args in
    let first = a.amount * 32768 in
    let second = first % a.sum * 32768 in
    let q = first / a.sum * 32768 + second / a.sum in
    let less : second % a.sum < a.sum = mod-lt second (omega arith) in
    let e = both c in
    let quotient : q ≡ a.amount * 2 ^ 30 / a.sum = rw e (sym (digits_div q less)) in
    let remainder : second % a.sum ≡ a.amount * 2 ^ 30 % a.sum = rw e (sym (digits_mod q less)) in
    λ i. record { quotient15 = first / a.sum; remainder15 = first % a.sum; quotient30 = quotient i; remainder30 = remainder i }

-- `members_ok` meets its contract: every member is asked. Assumes nothing.
use Rattle.std.proofs.Common.{ℕ, Bool, true, false, List, ℤ, pos, ◌≡◌, ◌&&◌, ◌+◌, ◌-◌, add-one, add-zero, refl, sym, ap, ◌∙◌, length, get_or, zero, suc, arith, rules, tests}
use Rattle.std.specs.List.{list_all, range_with_len}
use Rattle.std.proofs.lemmas.Iterator.{YieldsList-from_range}
use Rattle.std.proofs.lemmas.Iterator.Search.{all_from_yields_List}
use Rattle.whole.specs.Counting.{all}
use Rattle.shares.specs.Loss.{member_ok}
use Rattle.shares.proofs.refusals.members_ok.Goals as goal

abbrev member : List ℤ → List ℤ → List ℤ → ℕ → Bool
member deposits differences marks i = member_ok (get_or deposits i (pos 0)) (get_or differences i (pos 0)) (get_or marks i (pos 0))

-- a test of the numbers from a on, one after the other
and-assoc : (s t u : Bool) → ((s && t) && u) ≡ (s && (t && u))
and-assoc true t u = refl
and-assoc false t u = refl

and-true : (s : Bool) → s ≡ (s && true)
and-true true = refl
and-true false = refl

next : (test : ℕ → Bool) (a : ℕ) → all (a + 1) test ≡ (all a test && test a)
next test a = rw add-one refl

all-from : (test : ℕ → Bool) (a n : ℕ) → all (a + n) test ≡ (all a test && list_all test (range_with_len a n))
all-from test a zero = ap (λ m. all m test) (add-zero a) ∙ and-true (all a test)
all-from test a (suc n) =
    let e : a + suc n ≡ a + 1 + n = omega arith in
    ap (λ m. all m test) e
    ∙ all-from test (a + 1) n
    ∙ ap (λ t. t && list_all test (range_with_len (a + 1) n)) (next test a)
    ∙ and-assoc (all a test) (test a) (list_all test (range_with_len (a + 1) n))

pub returns : goal.returns
returns c =
    let a = c.args in
    let n = length a.deposits.now in
    let test = member a.deposits.now a.differences.now a.marks.now in
    let whole : n - 0 ≡ n = omega arith in
    let first : 0 + n ≡ n = omega arith in
    all_from_yields_List test _ _ _ c.all.ensures.ran (YieldsList-from_range 0 n n refl whole) (λ x b q k. search (rules, tests))
    ∙ sym (all-from test 0 n)
    ∙ ap (λ m. all m test) first

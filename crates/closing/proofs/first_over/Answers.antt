-- `first_over` meets its contract: no account before a is over, by the bound on what a close adds (`gross_in`) or by its new dues; the inner loop has the
-- gross of the cash and the first d new dues, still in range. Assumes nothing.
use mathlib.Core.List.{List}
use mathlib.Core.Path.{◌≡◌, ap, subst, ◌∙◌}
use Prim.Native.Nat.{ℕ, ◌+◌, ◌≤◌, ◌<◌}
use native.Mathlib.Numerals.{add-one}
use native.Mathlib.Omega.{arith}
use lib.IntN.{ℤ, pos, nat_abs}
use lib.ListN.{length, get_or}
use borrow.Author.Count.{below_more}
use borrow.Author.Tests.{lt-ltb, le-ltb}
use Rattle.whole.specs.Counting.{total, listed}
use Rattle.whole.specs.CountingLaws.{total-part}
use Rattle.std.proofs.Common.{rules}
use Rattle.closing.specs.First.{first-found, first-none}
use Rattle.whole.specs.Listed.{length-listed, get_or-listed}
use Rattle.rules.specs.Sizes.{most_gross}
use Rattle.places.specs.declared.Shape.{Shape}
use Rattle.places.specs.Act.{most_products}
use Rattle.places.specs.Place.{get, dues, cash}
use Rattle.places.specs.ByAccount.{by_account}
use Rattle.daily.specs.DailyFigures.{new_due, new_gross, over_gross}
use Rattle.daily.specs.Ranges.{Ready, due_in, next_in}
use Rattle.daily.specs.DueLaws.{gross_in}
use Rattle.closing.proofs.first_over.Invariants.{due-abs}
use Rattle.closing.proofs.first_over.Goals as goal

-- the new due d of the account a, which the call left in N: its size, and the range of that
got : (s : Shape) (P L W : List ℤ) (a : ℕ) → Ready P s (get by_account s W) → s.p ≤ most_products → a < s.n → (N : List ℤ) → N ≡ listed dues (new_due P L s (get by_account s W) a) → (d v : ℕ) → d < dues
    → v ≡ nat_abs (get_or N d (pos 0))
    → (v ≡ due-abs W s P L a d) × (due-abs W s P L a d ≤ 1480000000000000)
got s P L W a r few h N n d v l e =
    let g = get by_account s W in (
      e ∙ ap nat_abs (ap (λ x. get_or x d (pos 0)) n ∙ get_or-listed dues (new_due P L s g a) (pos 0) d l),
      due_in P s g a (r.row a h) L d few (next_in g a d (r.dues_in.at a h)),
    )

length-new_dues : (P L : List ℤ) (s : Shape) (W : List ℤ) (a : ℕ) (N : List ℤ) → N ≡ listed dues (new_due P L s (get by_account s W) a) → length N ≡ dues
length-new_dues P L s W a N n = ap length n ∙ length-listed dues (new_due P L s (get by_account s W) a)

-- the size of the gross with the due d more
more-gross : (f : ℕ → ℕ) (cash d gross v : ℕ) → gross ≡ cash + total d f → v ≡ f d → gross + v ≡ cash + total (d + 1) f
more-gross f cash d gross v e q = rw (add-one d) (omega (arith, e, q))

-- what is over with the first dues is over
over-then : (f : ℕ → ℕ) (cash d gross v : ℕ) → gross ≡ cash + total d f → v ≡ f d → d < dues → most_gross < gross + v → most_gross < cash + total dues f
over-then f cash d gross v e q l h = omega (arith, more-gross f cash d gross v e q, total-part (d + 1) dues f (omega arith))

pub search-preserved-then-moved_gross-le-FAR_GROSS : goal.search-preserved-then-moved_gross-le-FAR_GROSS
search-preserved-then-moved_gross-le-FAR_GROSS c =
    let x = c.args in let s = x.s in let P = x.figures.prices.now in let L = x.figures.lags.now in let a = c.search.a in let g = get by_account s x.words.now in
    let most = gross_in P L s g a (c.requires.ready.row a (omega arith)) c.requires.sized.few' in (
      c.search.invariant.0,
      below_more _ _ c.search.invariant.1 (le-ltb most_gross (new_gross P L s g a) (omega (arith, most, c.moved_gross.ensures, c.if-moved_gross-le-FAR_GROSS.true))),
    )

pub loop-due-preserved : goal.loop-due-preserved
loop-due-preserved c =
    let x = c.args in let s = x.s in let W = x.words.now in let P = x.figures.prices.now in let L = x.figures.lags.now in
    let a = c.search.a in let d = c.loop-due.due-index in let v = c.unsigned_abs-gross-in-loop-due in
    let long = length-new_dues P L s W a _ c.new_dues-new.ensures in
    let k = got s P L W a c.requires.ready c.requires.sized.few' (omega arith) c.new_dues-new.result c.new_dues-new.ensures d v.result (omega arith) (search rules) in (
      c.loop-due.invariant.0,
      more-gross (due-abs W s P L a) (nat_abs (get by_account s W (cash a))) d c.loop-due.gross v.result c.loop-due.invariant.1 k.0,
      omega arith,
    )

pub search-preserved : goal.search-preserved
search-preserved c =
    let x = c.args in let s = x.s in let W = x.words.now in let P = x.figures.prices.now in let L = x.figures.lags.now in
    let d = c.loop-due.due-index in let long = length-new_dues P L s W c.search.a _ c.new_dues-new.ensures in
    let e : d ≡ dues = omega arith in
    let most : new_gross P L s (get by_account s W) c.search.a ≤ most_gross =
    subst (λ z. nat_abs (get by_account s W (cash c.search.a)) + total z (due-abs W s P L c.search.a) ≤ most_gross) e (omega (arith, c.loop-due.invariant.1)) in (
      c.loop-due.invariant.0,
      below_more _ _ c.search.invariant.1 (le-ltb most_gross (new_gross P L s (get by_account s W) c.search.a) most),
    )

pub returns-after-search : goal.returns-after-search
returns-after-search c =
    c.search.invariant.0 ∙ first-none _ _ (λ k h. c.search.invariant.1 k (omega arith))

pub returns-then-over : goal.returns-then-over
returns-then-over c =
    let x = c.args in let s = x.s in let W = x.words.now in let P = x.figures.prices.now in let L = x.figures.lags.now in let g = get by_account s W in
    let a = c.search.a in let d = c.loop-due.due-index in let v = c.unsigned_abs-gross-in-loop-due in
    let long = length-new_dues P L s W a _ c.new_dues-new.ensures in
    let k = got s P L W a c.requires.ready c.requires.sized.few' (omega arith) c.new_dues-new.result c.new_dues-new.ensures d v.result (omega arith) (search rules) in
    first-found s.n (over_gross P L s g) a (omega arith) c.search.invariant.1
    (lt-ltb most_gross (new_gross P L s g a) (over-then (due-abs W s P L a) (nat_abs (g (cash a))) d c.loop-due.gross v.result c.loop-due.invariant.1 k.0 (omega arith) c.if-over.true))

-- `larger` meets its contract: the root of the larger square is the larger rate. Assumes nothing.
use mathlib.Core.List.{List}
use mathlib.Core.Path.{◌≡◌, sym, ap, subst, ◌∙◌}
use Prim.Native.Nat.{ℕ, ◌*◌, ◌-◌, ◌≤◌, ◌<◌, max}
use native.Mathlib.Nat.{le-max_left, le_trans, max-le, mul-le-mul}
use native.Mathlib.Omega.{arith}
use lib.Dec.{leb, ltb}
use lib.IntN.{ℤ, pos}
use mir.Syntax.{w64}
use mir.Val.{to_z}
use Rattle.std.proofs.Common.{lt-ltb, le-ltb}
use Rattle.whole.specs.Whole.{whole, facts, by}
use Rattle.rates.specs.MarginRate.{part_of, window_rate}
use Rattle.rates.specs.RateLaws.{square_of, square_of-some, square_of-most, root_of, root_one, root_most, root_covers, root_least}
use Rattle.rates.specs.JudgedLaws.{larger-is, governs-is, governs-eight, governs-other, larger_rate}
use Rattle.rates.proofs.larger.Goals.{Start, After-max, After-root-rate, then-eight, else-eight}
use Rattle.rates.proofs.larger.Goals as goal

-- the larger square, with a root in reach
module _ (s : Start) where
  abbrev a : List ℤ
  a = s.args.weeks8.figures.now

  abbrev b : List ℤ
  b = s.args.weeks104.figures.now

  abbrev q : ℕ
  q = max (square_of a) (square_of b)

  some : 1 ≤ q
  some = le_trans (square_of-some a) (le-max_left (square_of a) (square_of b))

  most : q ≤ 6591 * 6591
  most = le_trans (max-le (square_of-most a s.args.weeks8.accepted) (square_of-most b s.args.weeks104.accepted)) (omega arith)

-- what `max` gave
got : (c : After-max) → c.max.result ≡ q (goal.at.After-max c).Start
got c = omega (arith, c.max.ensures, c.square-square8.ensures, c.square-square104.ensures)

pub root-rate-requires : goal.root-rate-requires
root-rate-requires c =
    let s = (goal.at.root-rate-requires c).Start in
    rw (got (goal.at.root-rate-requires c).After-max) (record { fact_1 = some s; fact_2 = most s })

-- what `root` gave
module _ (c : After-root-rate) where
  abbrev s : Start
  s = (goal.at.After-root-rate c).Start

  abbrev r : ℕ
  r = c.root-rate.result

  is : r ≡ root_of (q s)
  is = c.root-rate.ensures ∙ ap root_of (got (goal.at.After-root-rate c).After-max)

  one : 1 ≤ r
  one = rw is (root_one (q s) (some s) (most s))

  small : r ≤ 6591
  small = rw is (root_most (q s) (some s) (most s))

  covers : q s ≤ r * r
  covers = subst (λ z. q s ≤ z * z) (sym is) (root_covers (q s) (some s) (most s))

  least : (r - 1) * (r - 1) < q s
  least = subst (λ z. (z - 1) * (z - 1) < q s) (sym is) (root_least (q s) (some s) (most s))

  larger : max (window_rate (a s)) (window_rate (b s)) ≡ r
  larger = larger-is (a s) (b s) c.args.weeks8.accepted c.args.weeks104.accepted r one small covers least

  eight : leb (window_rate (b s)) (window_rate (a s)) ≡ ltb ((r - 1) * (r - 1)) (square_of (a s))
  eight = governs-is (a s) (b s) c.args.weeks8.accepted c.args.weeks104.accepted r one small covers least

pub overflow_sub-less : goal.overflow_sub-less
overflow_sub-less c = one (goal.at.overflow_sub-less c).After-root-rate

pub overflow_cast-result : goal.overflow_cast-result
overflow_cast-result c = omega (arith, small (goal.at.overflow_cast-result c).After-root-rate)

pub overflow_mul-eight : goal.overflow_mul-eight
overflow_mul-eight c =
    let d = (goal.at.overflow_mul-eight c).After-root-rate in
    let m : r d - 1 ≤ 6591 = omega (arith, small d) in omega (arith, mul-le-mul m m)

pub returns : goal.returns
returns c =
    let d = (goal.at.returns c).After-root-rate in
    let x = c.args.weeks8.figures in
    let y = c.args.weeks104.figures in
    let m = small d in
    let word : to_z w64 (r d) ≡ pos (r d) = by (search whole depth 20) (omega facts) in
    record {
      rate = word ∙ ap pos (sym (larger_rate x y ∙ larger d));
      figures = elim c.if-eight.branch [
        | then-eight w ↦
            ap part_of (w.result-is ∙ sym (governs-eight x y (eight d ∙ lt-ltb _ (square_of x.now) (omega (arith, c.square-square8.ensures, w.if-eight.true)))))
        | else-eight w ↦
            ap part_of (w.result-is ∙ sym (governs-other x y (eight d ∙ le-ltb _ (square_of x.now) (omega (arith, c.square-square8.ensures, w.if-eight.false)))))
      ];
    }

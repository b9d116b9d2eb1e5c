-- `add_differences` meets its contract: the loop has the dues with what the first j products add (`part-more`), within range by `part_in`. Assumes nothing.
use mathlib.Core.Path.{◌≡◌, ap, ap₂, ◌∙◌}
use Prim.Native.Nat.{ℕ, ◌+◌, ◌<◌, ◌≤◌}
use native.Mathlib.Omega.{arith}
use mathlib.Core.List.{List}
use lib.IntN.{ℤ, pos, nat_abs, ◌+ℤ◌}
use lib.ListN.{length, get_or, set}
use mir.Syntax.{w64}
use mir.Val.{SFits, to_z, of_z}
use Rattle.whole.specs.Counting.{listed, figure_at}
use Rattle.whole.specs.Listed.{length-listed, get_or-listed}
use Rattle.whole.specs.Reps.{small}
use Rattle.whole.specs.Signs.{arg, came}
use Rattle.std.proofs.Common.{rules}
use Rattle.places.specs.declared.Shape.{Shape}
use Rattle.places.specs.Place.{View, get, dues}
use Rattle.places.specs.ByAccount.{by_account}
use Rattle.daily.specs.DailyFigures.{difference, next_due, new_due}
use Rattle.daily.specs.Ranges.{Row, EachDueIn, part_in, next_in}
use Rattle.daily.specs.DueLaws.{part, named, part-more}
use Rattle.daily.proofs.add_differences.Goals.{After-difference}
use Rattle.daily.proofs.add_differences.Goals as goal

-- of the words prices and lags, the view g and the account a, after j products
module _ (P L : List ℤ) (g : View) (a j : ℕ) where
  -- the due that the lag names
  abbrev named_due : ℕ
  named_due = nat_abs (figure_at L j)

  -- its word
  due-is : (N : List ℤ) (d : ℕ) → N ≡ listed dues (part P L g a j) → d ≡ named_due → named_due < dues → get_or N d (pos 0) ≡ part P L g a j named_due
  due-is N d n e h = (λ i. get_or (n i) (e i) (pos 0)) ∙ get_or-listed dues (part P L g a j) (pos 0) named_due h

  fits : (s : Shape) → Row P s g a → EachDueIn g a → s.p ≤ 16 → j + 1 ≤ s.p → SFits w64 (part P L g a j named_due +ℤ difference P g a j)
  fits s r e few h =
      rw (named P L g a j)
      (small (part P L g a (j + 1) named_due) 1480000000000000
      (part_in P s g a r L named_due (j + 1) (next_due g a named_due) few h (next_in g a named_due e)) (omega arith))

lag-is : (c : After-difference) → c.unsigned_abs-d.result ≡ nat_abs (figure_at c.args.figures.lags.now c.loop-j.j)
lag-is c = search rules

sum-is : (c : After-difference) → let j = c.loop-j.j in let f = c.args.figures in let g = get by_account c.args.s c.args.words.now in let v = get_or c.loop-j.new c.unsigned_abs-d.result (pos 0) in
    to_z w64 (of_z w64 v) ≡ v
    → to_z w64 (of_z w64 v) +ℤ to_z w64 (of_z w64 c.difference.result)
    ≡ part f.prices.now f.lags.now g c.args.a j (nat_abs (figure_at f.lags.now j)) +ℤ difference f.prices.now g c.args.a j
sum-is c e =
    let j = c.loop-j.j in let f = c.args.figures in let g = get by_account c.args.s c.args.words.now in let w = c.difference in
    ap₂ (λ x y. x +ℤ y)
    (e ∙ due-is f.prices.now f.lags.now g c.args.a j c.loop-j.new c.unsigned_abs-d.result c.loop-j.invariant (lag-is c) (c.requires.lags.names j (omega arith)))
    (came w.result w.type_inv w.ensures)

pub slice_copy_out-new : goal.slice_copy_out-new
slice_copy_out-new c =
    let j = c.loop-j.j in let f = c.args.figures in let g = get by_account c.args.s c.args.words.now in
    omega (arith, lag-is (goal.at.slice_copy_out-new c).After-difference, c.requires.lags.names j (omega arith), ap length c.loop-j.invariant, length-listed dues (part f.prices.now f.lags.now g c.args.a j))

pub overflow_add-new : goal.overflow_add-new
overflow_add-new c =
    let j = c.loop-j.j in let f = c.args.figures in let g = get by_account c.args.s c.args.words.now in
    rw (sum-is (goal.at.overflow_add-new c).After-difference (search rules))
    (fits f.prices.now f.lags.now g c.args.a j c.args.s c.requires.named.1 c.requires.each_due_in c.requires.sized.few' (omega arith))

pub bounds-new-d : goal.bounds-new-d
bounds-new-d c =
    let j = c.loop-j.j in let f = c.args.figures in let g = get by_account c.args.s c.args.words.now in
    omega (arith, lag-is (goal.at.bounds-new-d c).After-difference, c.requires.lags.names j (omega arith), ap length c.loop-j.invariant, length-listed dues (part f.prices.now f.lags.now g c.args.a j))

pub loop-j-preserved : goal.loop-j-preserved
loop-j-preserved c =
    let j = c.loop-j.j in let f = c.args.figures in let s = c.args.s in let a = c.args.a in let g = get by_account s c.args.words.now in
    let d = (goal.at.loop-j-preserved c).After-difference in
    let fit = fits f.prices.now f.lags.now g a j s c.requires.named.1 c.requires.each_due_in c.requires.sized.few' (omega arith) in
    (λ i. set (c.loop-j.invariant i) (lag-is d i) ((ap (λ x. to_z w64 (of_z w64 x)) (sum-is d (search rules)) ∙ arg fit) i))
    ∙ part-more f.prices.now f.lags.now g a j (c.requires.lags.names j (omega arith))

pub returns : goal.returns
unfolding new_due
returns c =
    let e : c.loop-j.j ≡ c.args.s.p = omega arith in
    rw e at c.loop-j.invariant

-- `rules::products::difference_of` meets its contract: each product on the way fits 64 bits, by `ProductLaws`. Assumes nothing.
use mathlib.Core.Path.{◌≡◌, sym, ap, ◌∙◌}
use Prim.Native.Nat.{◌≤◌}
use native.Mathlib.Omega.{arith}
use lib.IntN.{ℤ, nat_abs, ◌-ℤ◌, ◌*ℤ◌}
use mir.Syntax.{w64}
use mir.Val.{SFits, to_z, of_z}
use Rattle.whole.specs.Number.{floor_div}
use Rattle.whole.specs.Reps.{small}
use Rattle.whole.specs.Signs.{arg, came}
use Rattle.rules.specs.Sizes.{is_yen}
use Rattle.rules.specs.Product.{raw_difference, difference_of}
use Rattle.rules.specs.ProductLaws.{times_in, raw_in, quoted_cross, price-most}
use Rattle.rules.proofs.products.difference_of.Goals.{After-is_yen, Else-is_yen, Start}
use Rattle.rules.proofs.products.difference_of.Goals as goal

abbrev raw : Start → ℤ
raw s = raw_difference s.args.lots s.args.book s.args.price

times-fits : (s : Start) → SFits w64 (s.args.lots *ℤ s.args.price)
times-fits s = small (s.args.lots *ℤ s.args.price) 5000000000000 (times_in s.args.lots s.args.price s.requires.lots_in (omega (arith, s.requires.price_in, price-most s.args.kind))) (omega arith)

raw-fits : (s : Start) → SFits w64 (raw s)
raw-fits s = small (raw s) 15000000000000 (raw_in s.args.kind s.args.lots s.args.book s.args.price s.args.quoted s.requires) (omega arith)

raw-is : (s : Start) → to_z w64 (of_z w64 (to_z w64 (of_z w64 (to_z w64 (of_z w64 s.args.lots) *ℤ to_z w64 (of_z w64 s.args.price))) -ℤ to_z w64 (of_z w64 s.args.book))) ≡ raw s
raw-is s = rw (arg s.ranges.lots, arg s.ranges.price, arg (times-fits s), arg s.ranges.book) (arg (raw-fits s))

test : (c : After-is_yen) → is_yen c.args.kind ≡ c.is_yen.result
test c = sym (c.is_yen.ensures ∙ ap is_yen (arg c.ranges.kind))

quoted-most : (c : Else-is_yen) → let s = c in nat_abs (raw s.before.before *ℤ s.args.quoted) ≤ 3000000000000000000
quoted-most c = let s = c in let a = s.args in quoted_cross a.kind a.lots a.book a.price a.quoted s.requires (test c.before ∙ c.if-is_yen.false)

quoted-fits : (c : Else-is_yen) → let s = c in SFits w64 (raw s.before.before *ℤ s.args.quoted)
quoted-fits c = let s = c in small (raw s.before.before *ℤ s.args.quoted) 3000000000000000000 (quoted-most c) (omega arith)

pub overflow_sub-raw : goal.overflow_sub-raw
overflow_sub-raw c = rw (arg c.ranges.lots, arg c.ranges.price, arg (times-fits c), arg c.ranges.book) (raw-fits c)

pub floor_div-requires-clause-size : goal.floor_div-requires-clause-size
floor_div-requires-clause-size c = let s = c in rw (raw-is (goal.at.floor_div-requires-clause-size s).Start) (omega (arith, raw_in s.args.kind s.args.lots s.args.book s.args.price s.args.quoted s.requires))

pub returns-then-is_yen : goal.returns-then-is_yen
unfolding difference_of
returns-then-is_yen c =
    let s = c in
    rw (test (goal.at.returns-then-is_yen c).After-is_yen ∙ c.if-is_yen.true) (came c.floor_div.result c.floor_div.type_inv (c.floor_div.ensures ∙ ap (λ z. floor_div z 10) (raw-is (goal.at.returns-then-is_yen s).Start)))

pub overflow_mul-raw-2 : goal.overflow_mul-raw-2
overflow_mul-raw-2 c = let s = c in rw (raw-is (goal.at.overflow_mul-raw-2 s).Start, arg s.ranges.quoted) (quoted-fits c)

pub floor_div-requires-2-clause-size : goal.floor_div-requires-2-clause-size
floor_div-requires-2-clause-size c = let s = c in rw (raw-is (goal.at.floor_div-requires-2-clause-size s).Start, arg s.ranges.quoted, arg (quoted-fits c)) (omega (arith, quoted-most c))

pub returns : goal.returns
unfolding difference_of
returns c =
    let s = c in
    rw (test (goal.at.returns c).After-is_yen ∙ c.if-is_yen.false)
    (came c.floor_div-2.result c.floor_div-2.type_inv (c.floor_div-2.ensures ∙ ap (λ z. floor_div z 100000) (rw (raw-is (goal.at.returns s).Start, arg s.ranges.quoted) (arg (quoted-fits (goal.at.returns c).Else-is_yen)))))

-- `close_position` meets its contract: the words are read before any is put, and each sum has room. Assumes nothing.
use mathlib.Core.Path.{◌≡◌, ap, ap₂, ◌∙◌}
use Prim.Native.Nat.{ℕ, ◌≤◌}
use native.Mathlib.Omega.{arith}
use lib.IntN.{ℤ, pos, nat_abs, ◌+ℤ◌, ◌*ℤ◌}
use mir.Syntax.{w64}
use mir.Val.{SFits, to_z, of_z}
use Rattle.std.proofs.Common.{rules}
use Rattle.whole.specs.Reps.{small}
use Rattle.whole.specs.Signs.{arg}
use Rattle.whole.specs.Tests.{abs_add}
use Rattle.rules.specs.Product.{difference_of}
use Rattle.rules.specs.ProductLaws.{Fair, most_lot_margin, margin_at, margin-at_in, fair_in, times_in, price-most}
use Rattle.places.specs.Place.{View, get, put, margin, due, lots, book}
use Rattle.places.specs.ByAccount.{by_account}
use Rattle.closing.specs.declared.Terms.{Terms}
use Rattle.closing.specs.WholeWalk.{Roomy}
use Rattle.closing.proofs.close_position.Goals.{After-margin_at-charge}
use Rattle.closing.proofs.close_position.Goals as goal

-- the figures of a position, and what is made of them
module _ (g : View) (a j : ℕ) (t : Terms) (f : Fair t.kind (g (lots a j)) (g (book a j)) t.price t.quoted) (r : Roomy g a t.due) (s : t.single ≤ most_lot_margin) where
  abbrev held : ℤ
  held = g (lots a j)

  abbrev more : ℤ
  more = difference_of t.kind held (g (book a j)) t.price t.quoted

  abbrev charged : ℕ
  charged = margin_at held t.single

  more-in : nat_abs more ≤ 30000000000000
  more-in = fair_in t.kind held (g (book a j)) t.price t.quoted f

  charged-in : charged ≤ 500000000000
  charged-in = margin-at_in held t.single f.lots_in s

  due-fits : SFits w64 (g (due a t.due) +ℤ more)
  due-fits = small (g (due a t.due) +ℤ more) 1510000000000000 (omega (arith, abs_add (g (due a t.due)) more, more-in, r.due_in)) (omega arith)

  margin-fits : SFits w64 (g (margin a) +ℤ pos charged)
  margin-fits = small (g (margin a) +ℤ pos charged) 9000000000000 (omega (arith, abs_add (g (margin a)) (pos charged), charged-in, r.margin_in)) (omega arith)

  book-fits : SFits w64 (held *ℤ t.price)
  book-fits = small (held *ℤ t.price) 5000000000000 (times_in held t.price f.lots_in (omega (arith, f.price_in, price-most t.kind))) (omega arith)

-- the sums and the product, as the code has them
module _ (c : After-margin_at-charge) where
  abbrev g' : View
  g' = get by_account c.args.s c.args.words.now

  due-read : to_z w64 (of_z w64 c.acct_word-due.result) ≡ g' (due c.args.a c.args.day.due)
  due-read = search rules

  more-is : to_z w64 (of_z w64 c.difference_of-difference.result)
      ≡ difference_of c.args.day.kind (g' (lots c.args.a c.args.j)) (g' (book c.args.a c.args.j)) c.args.day.price c.args.day.quoted
  more-is = search rules

  margin-read : to_z w64 (of_z w64 c.acct_word-margin.result) ≡ g' (margin c.args.a)
  margin-read = search rules

  charge-is : to_z w64 c.margin_at-charge.result ≡ pos (margin_at (g' (lots c.args.a c.args.j)) c.args.day.single)
  charge-is = search rules

  lots-read : to_z w64 (of_z w64 c.held_word-lots.result) ≡ g' (lots c.args.a c.args.j)
  lots-read = search rules

  price-is : to_z w64 (of_z w64 c.args.day.price) ≡ c.args.day.price
  price-is = search rules

  due-is : to_z w64 (of_z w64 c.acct_word-due.result) +ℤ to_z w64 (of_z w64 c.difference_of-difference.result)
      ≡ g' (due c.args.a c.args.day.due) +ℤ difference_of c.args.day.kind (g' (lots c.args.a c.args.j)) (g' (book c.args.a c.args.j)) c.args.day.price c.args.day.quoted
  due-is = ap₂ (λ y z. y +ℤ z) due-read more-is

  margin-is : to_z w64 (of_z w64 c.acct_word-margin.result) +ℤ to_z w64 c.margin_at-charge.result
      ≡ g' (margin c.args.a) +ℤ pos (margin_at (g' (lots c.args.a c.args.j)) c.args.day.single)
  margin-is = ap₂ (λ y z. y +ℤ z) margin-read charge-is

  book-is : to_z w64 (of_z w64 c.held_word-lots.result) *ℤ to_z w64 (of_z w64 c.args.day.price) ≡ g' (lots c.args.a c.args.j) *ℤ c.args.day.price
  book-is = ap₂ (λ y z. y *ℤ z) lots-read price-is

pub overflow_add-due : goal.overflow_add-due
overflow_add-due c =
    let x = c.args in let r = c.requires in
    rw (due-is (goal.at.overflow_add-due c).After-margin_at-charge) (due-fits (get by_account x.s x.words.now) x.a x.j x.day r.fair r.roomy r.a_lt_n.3)

pub overflow_add-margin : goal.overflow_add-margin
overflow_add-margin c =
    let x = c.args in let r = c.requires in
    rw (margin-is (goal.at.overflow_add-margin c).After-margin_at-charge) (margin-fits (get by_account x.s x.words.now) x.a x.j x.day r.fair r.roomy r.a_lt_n.3)

pub overflow_mul-lots : goal.overflow_mul-lots
overflow_mul-lots c =
    let x = c.args in let r = c.requires in
    rw (book-is (goal.at.overflow_mul-lots c).After-margin_at-charge) (book-fits (get by_account x.s x.words.now) x.a x.j x.day r.fair r.roomy r.a_lt_n.3)

pub returns : goal.returns
returns c =
    let x = c.args in let s = x.s in let g = get by_account s x.words.now in let r = c.requires in
    let d = (goal.at.returns c).After-margin_at-charge in let single : x.day.single ≤ most_lot_margin = r.a_lt_n.3 in
    c.put_held.ensures
    ∙ ap₂ (λ X v. put by_account s X (book x.a x.j) v)
    (c.put_acct-2.ensures
    ∙ ap₂ (λ X v. put by_account s X (margin x.a) v)
    (c.put_acct.ensures ∙ ap (put by_account s x.words.now (due x.a x.day.due)) (ap (λ z. to_z w64 (of_z w64 z)) (due-is d) ∙ arg (due-fits g x.a x.j x.day r.fair r.roomy single)))
    (ap (λ z. to_z w64 (of_z w64 z)) (margin-is d) ∙ arg (margin-fits g x.a x.j x.day r.fair r.roomy single)))
    (ap (λ z. to_z w64 (of_z w64 z)) (book-is d) ∙ arg (book-fits g x.a x.j x.day r.fair r.roomy single))

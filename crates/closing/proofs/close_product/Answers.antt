-- `close_product` meets its contract: the accounts before a have had their turn, and a's own words are as they were (`turns_unseen`). Assumes nothing.
use mathlib.Core.Path.{◌≡◌, refl, ap, ◌∙◌}
use mathlib.Core.List.{List}
use Prim.Native.Nat.{ℕ, ◌<◌}
use native.Mathlib.Numerals.{add-one}
use native.Mathlib.Omega.{arith}
use lib.IntN.{ℤ, pos, nat_abs}
use lib.ListN.{get_or}
use mir.Syntax.{w64}
use mir.Val.{to_z, of_z}
use borrow.Author.Tests.{eq-eqb}
use Rattle.whole.specs.Counting.{figure_at}
use Rattle.rules.specs.ProductLaws.{Fair}
use mathlib.Core.Bool.{true}
use lib.Dec.{eqb}
use Rattle.places.specs.declared.Shape.{Shape}
use Rattle.places.specs.Place.{View, get, puts, dues, product_kind, quote, price, margin, due, lots, book}
use Rattle.places.specs.ByAccount.{by_account}
use Rattle.places.specs.Passes.{Agree, turns, turns_unseen}
use Rattle.daily.specs.Once.{single_of, single_in}
use Rattle.daily.specs.declared.Figures.{Figures}
use Rattle.closing.specs.Walk.{position_puts}
use Rattle.closing.specs.Written.{account_sees}
use Rattle.closing.specs.WholeWalk.{Column, Roomy, turn_off}
use Rattle.closing.proofs.close_product.Invariants.{turnsOf}
use Rattle.std.proofs.Common.{rules}
use Rattle.closing.proofs.close_product.Goals.{After-unsigned_abs}
use Rattle.closing.proofs.close_product.Goals as goal

-- the words X at the account a's turn: a's own are as they were in W
module _ (s : Shape) (f : Figures) (W : List ℤ) (j a : ℕ) (hj : j < s.p) (hd : nat_abs (figure_at f.lags.now j) < dues) (X : List ℤ)
    (e : X ≡ turns by_account s (turnsOf f s j W) a W) (ha : a < s.n) where
  abbrev g : View
  g = get by_account s W

  agree : Agree s (account_sees a) (get by_account s X) g
  agree q hq t =
      ap (λ Z. get by_account s Z q) e
      ∙ turns_unseen by_account s (turnsOf f s j W) W (account_sees a) a
      (λ i h v. turn_off s (g (product_kind j)) (figure_at f.prices.now j) (figure_at f.prices.now (nat_abs (g (quote j)))) (single_of f.prices.now f.rates8.now f.rates104.now g j) (nat_abs (figure_at f.lags.now j)) j hd hj a i (omega arith) (λ q. omega arith) v)
      q hq t

  own : eqb a a ≡ true
  own = eq-eqb a a refl

  column-fair : (kind price quoted : ℤ) → kind ≡ g (product_kind j) → price ≡ figure_at f.prices.now j → quoted ≡ figure_at f.prices.now (nat_abs (g (quote j))) → Column f.prices.now f.lags.now s g j
      → Fair kind (get by_account s X (lots a j)) (get by_account s X (book a j)) price quoted
  column-fair kind price quoted k p q c = rw (k, p, q, agree (lots a j) (ha, hj, omega arith) own, agree (book a j) (ha, hj, omega arith) own) (c.fair a ha)

  column-roomy : (d : ℕ) → d ≡ nat_abs (figure_at f.lags.now j) → Column f.prices.now f.lags.now s g j → Roomy (get by_account s X) a d
  column-roomy d k c =
      let room = c.roomy a ha in
      record {
        due_in = rw (k, agree (due a (nat_abs (figure_at f.lags.now j))) (ha, omega (arith, hd)) own) room.due_in;
        margin_in = rw (agree (margin a) (ha, omega arith) own) room.margin_in;
      }

module _ (c : After-unsigned_abs) where
  abbrev g' : View
  g' = get by_account c.args.s c.args.words.now

  kind-is : to_z w64 (of_z w64 c.prod_word.result) ≡ g' (product_kind c.args.j)
  kind-is = search rules

  price-is : to_z w64 (of_z w64 (get_or c.args.figures.prices.now c.args.j (pos 0))) ≡ figure_at c.args.figures.prices.now c.args.j
  price-is = search rules

  quoted-is : to_z w64 (of_z w64 c.quoted_at.result) ≡ figure_at c.args.figures.prices.now (nat_abs (g' (quote c.args.j)))
  quoted-is = search rules

  lag-is : c.unsigned_abs.result ≡ nat_abs (figure_at c.args.figures.lags.now c.args.j)
  lag-is = search rules

pub close_position-requires-clause-fair : goal.close_position-requires-clause-fair
close_position-requires-clause-fair c =
    let x = c.args in let j = x.j in let r = c.requires in let b = (goal.at.close_position-requires-clause-fair c).After-unsigned_abs in
    column-fair x.s x.figures x.words.now j c.loop-a.a r.j_lt_p (r.lags.names j r.j_lt_p) c.loop-a.words c.loop-a.invariant (omega arith)
    (to_z w64 (of_z w64 c.prod_word.result)) (to_z w64 (of_z w64 (get_or x.figures.prices.now j (pos 0)))) (to_z w64 (of_z w64 c.quoted_at.result))
    (kind-is b) (price-is b) (quoted-is b) r.column

pub close_position-requires-clause-roomy : goal.close_position-requires-clause-roomy
close_position-requires-clause-roomy c =
    let x = c.args in let j = x.j in let r = c.requires in
    column-roomy x.s x.figures x.words.now j c.loop-a.a r.j_lt_p (r.lags.names j r.j_lt_p) c.loop-a.words c.loop-a.invariant (omega arith)
    c.unsigned_abs.result (lag-is (goal.at.close_position-requires-clause-roomy c).After-unsigned_abs) r.column

pub close_position-requires-clause-a_lt_n : goal.close_position-requires-clause-a_lt_n
close_position-requires-clause-a_lt_n c =
    let x = c.args in let f = x.figures in let j = x.j in let r = c.requires in
    let e = lag-is (goal.at.close_position-requires-clause-a_lt_n c).After-unsigned_abs in (
      omega arith,
      r.j_lt_p,
      rw e (r.lags.names j r.j_lt_p),
      rw c.single_at.ensures (single_in f.prices.now f.rates8.now f.rates104.now x.s (get by_account x.s x.words.now) r.named r.rates j r.j_lt_p),
    )

pub loop-a-preserved : goal.loop-a-preserved
loop-a-preserved c =
    let x = c.args in let s = x.s in let j = x.j in let a = c.loop-a.a in let X = c.loop-a.words in
    let b = (goal.at.loop-a-preserved c).After-unsigned_abs in
    rw (add-one a)
    (c.close_position.ensures
    ∙ (λ i. puts by_account s X (position_puts (kind-is b i) (price-is b i) (quoted-is b i) (c.single_at.ensures i) (lag-is b i) j (get by_account s X) a))
    ∙ ap (λ Z. puts by_account s Z (turnsOf x.figures s j x.words.now (get by_account s Z) a)) c.loop-a.invariant)

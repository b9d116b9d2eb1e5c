-- Four tests of a product, in a row. The price is held against what its kind allows.
use Rattle.std.proofs.Common.{rules, ◌≡◌, true, false, ap, ◌∙◌, pos}
use Rattle.whole.specs.Number.{between}
use Rattle.whole.specs.Signs.{came}
use Rattle.rules.specs.Sizes.{most_price}
use Rattle.places.specs.Place.{get, product_kind, floor_mark, price}
use Rattle.places.specs.ByAccount.{by_account}
use Rattle.clauses.specs.declared.Clause.TheVariants.{Price}
use Rattle.clauses.specs.Clauses.{fails}
use Rattle.clauses.proofs.ClauseLaws.{stops, passes}
use Rattle.clauses.proofs.of_product.Goals as goal

pub returns-then-not-contains-3 : goal.returns-then-not-contains-3
returns-then-not-contains-3 c =
    let g = get by_account c.args.s c.args.words.now in let j = c.args.j in
    let x = c.prod_word-kind in let m = c.most_price in
    let most = came m.result m.type_inv (m.ensures ∙ ap (λ k. pos (most_price k)) (came x.result x.type_inv x.ensures)) in
    let kind : between (pos 0) (pos 1) (g (product_kind j)) ≡ true = search rules in
    let mark : between (pos 0) (pos 1) (g (floor_mark j)) ≡ true = search rules in
    let priced : between (pos 1) (pos (most_price (g (product_kind j)))) (g (price j)) ≡ false = search (rules, most) in
    let said : c.fails-then-not-contains-3.result ≡ fails Price 0 j (g (price j)) = search rules in
    rw (kind, mark, priced) said

pub returns-then-not-pair_ok : goal.returns-then-not-pair_ok
returns-then-not-pair_ok c = search (rules, stops, passes)

pub returns : goal.returns
returns c =
    let g = get by_account c.args.s c.args.words.now in let j = c.args.j in
    let x = c.prod_word-kind in let m = c.most_price in
    let most = came m.result m.type_inv (m.ensures ∙ ap (λ k. pos (most_price k)) (came x.result x.type_inv x.ensures)) in
    let priced : between (pos 1) (pos (most_price (g (product_kind j)))) (g (price j)) ≡ true = search (rules, most) in
    search (rules, priced, stops, passes)

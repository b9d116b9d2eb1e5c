-- `close_words` meets its contract: accounts started, products walked, phase 0: the words of the close (`walked-is`). Assumes nothing.
use mathlib.Core.Path.{sym, ap, subst, ◌∙◌}
use lib.IntN.{pos}
use Rattle.places.specs.Place.{get, put, phase}
use Rattle.places.specs.ByAccount.{by_account}
use Rattle.daily.specs.Given.{of_lists}
use Rattle.closing.specs.Walk.{walked}
use Rattle.closing.specs.WholeWalk.{Started, started_ready, walked-is}
use Rattle.closing.proofs.close_words.Goals as goal

pub close_products-requires-clause-started : goal.close_products-requires-clause-started
close_products-requires-clause-started c =
    let x = c.args in let s = x.s in let f = x.figures in
    subst (λ X. Started f.prices.now s (get by_account s X)) (sym c.start_accounts.ensures)
    (started_ready by_account f.prices.now f.rates8.now f.rates104.now f.lags.now s x.words.now c.requires.sized.sized c.requires.ready)

pub returns : goal.returns
returns c =
    let x = c.args in let s = x.s in let f = x.figures in
    c.put_head.ensures
    ∙ ap (λ X. put by_account s X phase (pos 0)) (c.close_products.ensures ∙ ap (of_lists f (walked by_account s) s.p) c.start_accounts.ensures)
    ∙ walked-is by_account f.prices.now f.rates8.now f.rates104.now f.lags.now s x.words.now c.requires.sized.sized c.requires.lags.names

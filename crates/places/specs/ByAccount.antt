-- The layout by account: 01's words (`ByAccountWords`), with the laws that every layout has. What a reader believes of it is `at`.
use Rattle.std.specs.Prelude.{refl}
use Rattle.places.specs.Place.{Layout}
use Rattle.places.specs.ByAccountWords.{at}
use Rattle.places.specs.ByAccountLaws.{product_row, row, inside, same, which, reached}

-- shut: what stands above the functions `.._at` knows its laws alone
unfoldable pub by_account : Layout
by_account = record { at = at; first = λ s k. refl; product_row = product_row; row = row; inside = inside; same = same; which = which; reached = reached }

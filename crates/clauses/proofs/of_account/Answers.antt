-- Five tests of a record, in a row.
use Rattle.std.proofs.Common.{rules}
use Rattle.clauses.proofs.ClauseLaws.{stops, passes}
use Rattle.clauses.proofs.of_account.Goals as goal

pub returns-then-not-contains : goal.returns-then-not-contains
returns-then-not-contains c = search (rules, stops, passes)

pub returns-then-not-contains-2 : goal.returns-then-not-contains-2
returns-then-not-contains-2 c = search (rules, stops, passes)

pub returns-then-not-contains-3 : goal.returns-then-not-contains-3
returns-then-not-contains-3 c = search (rules, stops, passes)

pub returns-then-not-contains-4 : goal.returns-then-not-contains-4
returns-then-not-contains-4 c = search (rules, stops, passes)

pub returns-then-not-gross_ok : goal.returns-then-not-gross_ok
returns-then-not-gross_ok c = search (rules, stops, passes)

pub returns : goal.returns
returns c = search (rules, stops, passes)

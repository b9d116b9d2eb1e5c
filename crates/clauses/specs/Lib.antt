-- Which clause of soundness fails first: `Clauses` says it. In proofs/: `ClauseLaws`, that none does exactly where the words are sound; `ClauseExamples`, each by a
-- spoiled word.
pub mod Clauses

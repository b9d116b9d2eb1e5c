-- `close_all` meets its contract: what a sound ledger and lists in range give, to the search and to the walk. Assumes nothing.
use Rattle.places.specs.Place.{View, get}
use Rattle.places.specs.ByAccount.{by_account}
use Rattle.soundness.specs.SoundLaws.{Facts, ledger_facts}
use Rattle.daily.specs.Ranges as R
use Rattle.closing.proofs.close_all.Goals.{Start}
use Rattle.closing.proofs.close_all.Goals as goal

module _ (c : Start) where
  abbrev g : View
  g = get by_account c.args.s c.args.words.now

  sound : Facts c.args.s g
  sound = ledger_facts by_account c.args.s c.args.words.now c.requires.ledger

  ready : R.Ready c.args.figures.prices.now c.args.s g
  ready = R.ready _ _ _ _ c.args.s g sound c.requires.words_value c.requires.lengths.prices_long

  rates : R.Rates c.args.s.p c.args.figures.rates8.now c.args.figures.rates104.now
  rates = R.rates_of _ _ _ _ c.args.s g sound c.requires.words_value c.requires.lengths.rates8_long c.requires.lengths.rates104_long

  lags : R.Lags c.args.s.p c.args.figures.lags.now
  lags = R.lags-of _ _ _ _ c.args.s g sound c.requires.words_value c.requires.lengths.lags_long

pub first_over-requires-clause-ready : goal.first_over-requires-clause-ready
first_over-requires-clause-ready c = ready (goal.at.first_over-requires-clause-ready c).Start

pub first_over-requires-clause-lags : goal.first_over-requires-clause-lags
first_over-requires-clause-lags c = lags (goal.at.first_over-requires-clause-lags c).Start

pub close_words-requires-clause-ready : goal.close_words-requires-clause-ready
close_words-requires-clause-ready c = ready (goal.at.close_words-requires-clause-ready c).Start

pub close_words-requires-clause-rates : goal.close_words-requires-clause-rates
close_words-requires-clause-rates c = rates (goal.at.close_words-requires-clause-rates c).Start

pub close_words-requires-clause-lags : goal.close_words-requires-clause-lags
close_words-requires-clause-lags c = lags (goal.at.close_words-requires-clause-lags c).Start

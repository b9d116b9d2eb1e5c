pub mod ClauseLaws
pub mod ClauseExamples

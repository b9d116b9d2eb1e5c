-- What the contract of `governing` says (`RateContract`), for whoever states a theorem about it.
pub mod RateContract

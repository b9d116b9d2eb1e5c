-- What the contract of `close` says (`CloseContract`), for whoever states a theorem about it; and the laws that rest on the rule's putting nothing where
-- an account's gross would pass its range (`CloseLaws`).
pub mod CloseContract
pub mod CloseLaws

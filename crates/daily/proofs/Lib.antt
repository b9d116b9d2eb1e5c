-- What `all` over the numbers below n gives (`AllOf`).
pub mod AllOf

-- What the contract of `share_loss` says (`LossContract`), for whoever states a theorem about it; that the number of a refusal tells it (`RefusedLaws`).
pub mod LossContract
pub mod RefusedLaws

-- Sharing a default loss. Believed: `Loss` (the layers, the shares, what is refused). `LossTheorems` has what a member will ask, `LossExamples` the
-- figures worked by hand in document 01. `Refused` has the numbers of the refusals; `Accepted` and `LossLaws` are laws.
pub mod Loss
pub mod Refused
pub mod Accepted
pub mod LossLaws
pub mod LossTheorems
pub mod LossExamples

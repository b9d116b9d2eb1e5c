-- What a sound ledger is. Believed: `Sound` (01, "The ledger's words", clause by clause) and `Perform` (a call on words: 1 where they are not
-- sound). Laws: `SoundLaws` (soundness as facts, both ways), `PerformLaws` (what a refusal says) and `Keep` (what a change of some places leaves
-- as it was, and what keeps a ledger sound).
pub mod Sound
pub mod Perform
pub mod SoundLaws
pub mod PerformLaws
pub mod Keep

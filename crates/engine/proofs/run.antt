-- The laws of the run. The theorems on it are in `rounds`.
pub mod ByteLaws
pub mod GrowingLaws
pub mod ExtendLaws
pub mod ClearingLaws
pub mod HalfLaws
pub mod LoopLaws
pub mod TableClaim
pub mod CountingLaws
pub mod RoundCounts
pub mod ByRounds
pub mod OpeningLaws
pub mod FirstBlockLaws
pub mod OutcomeLaws

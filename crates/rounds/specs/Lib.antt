-- The definition of 01's 'The run', and the statements of what holds of it.
pub mod Run
pub mod Opening
pub mod Verdict
pub mod Claim
pub mod Counts
pub mod GivenUp
pub mod Worked
pub mod Cleared
pub mod Counted

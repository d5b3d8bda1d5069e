-- The theorems on the run: the runs worked by hand, cleared ones too, and their counts; the verdict, the opening, how often a row came back, and the claim
-- about the whole run.
pub mod AllWorked
pub mod Worked
pub mod Cleared
pub mod Counted
pub mod Blocks
pub mod TableLaws
pub mod GrowthLaws
pub mod RoundLaws
pub mod RunLaws
pub mod Bounds
pub mod Highest
pub mod GivenUp
pub mod CountsLaws
pub mod Verdict
pub mod Opening
pub mod Claim

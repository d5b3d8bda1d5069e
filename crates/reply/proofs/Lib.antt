-- The laws of rows and their bits (BitLaws), of the rows that fit the moves (FitLaws), of copying them (CopyLaws, FittedLaws), of the judge over them
-- (JudgeLaws), of the causes (CauseLaws), and of what is returned (NextLaws), with the theorem over a game (NextRight).
pub mod BitLaws
pub mod FitLaws
pub mod CopyLaws
pub mod FittedLaws
pub mod JudgeLaws
pub mod CauseLaws
pub mod NextLaws
pub mod NextRight

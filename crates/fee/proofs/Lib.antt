-- The laws behind the functions' proofs, and the proofs of the statements.
pub mod ChangeLaws
pub mod SumLaws
pub mod AnswerLaws
pub mod LoadLaws
pub mod RisingLaws
pub mod BandLaws
pub mod BandsRight
pub mod Halves
pub mod Worked
pub mod BandCases
pub mod Study
pub mod FeesRight

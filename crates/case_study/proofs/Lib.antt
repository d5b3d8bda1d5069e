-- The laws of the study by cases.
pub mod AcceptedLaws
pub mod ReplyLaws
pub mod ToldLaws
pub mod CasesRight
pub mod PathLaws
pub mod NameLaws
pub mod LaidLaws
pub mod ByteLaws
pub mod MakeLaws
pub mod AskLaws
pub mod WalkLaws

-- The laws behind the contracts, and what the printed line says.
pub mod FindingLaws
pub mod NumberLaws
pub mod JudgementRight

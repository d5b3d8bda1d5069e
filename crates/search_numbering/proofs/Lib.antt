-- The laws of the definitions in `specs/`, and the steps of the functions by them (FillSteps).
pub mod NewOnes
pub mod FillSteps
pub mod WantsFill
pub mod WantsLaws

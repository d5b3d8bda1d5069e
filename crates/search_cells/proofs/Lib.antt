-- The laws of the definitions in `specs/`.
pub mod CellLaws
pub mod OwnedLaws
pub mod StepLaws
pub mod SetLaws
pub mod OpenLaws
pub mod DifferenceLaws
pub mod PackLaws
pub mod FillLaws

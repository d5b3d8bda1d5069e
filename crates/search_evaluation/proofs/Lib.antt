-- The laws of the definitions in `specs/`.
pub mod CellReads
pub mod ReadingLaws
pub mod LiteralLaws
pub mod LookLaws
pub mod MatrixLaws

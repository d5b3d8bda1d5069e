-- The laws of the definitions in `specs/`.
pub mod MaskLaws
pub mod TestLaws
pub mod LoopLaws
pub mod LengthLaws
pub mod SetLaws

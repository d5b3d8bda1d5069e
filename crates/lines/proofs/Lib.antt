-- The laws that the proofs of the functions cite, callees first.
pub mod Spans
pub mod Pieces
pub mod Words
pub mod LineLaws
pub mod ShapeLaws

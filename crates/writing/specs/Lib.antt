-- The text of a formula, and that it is read as that formula.
pub mod Writing
pub mod WritingRight

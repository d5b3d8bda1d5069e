-- The lines of a decision, and what they say of the text.
pub mod Lines
pub mod LinesRight

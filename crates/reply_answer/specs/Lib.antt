-- The answer to a text, a witness file and moves, and its line.
pub mod Answer

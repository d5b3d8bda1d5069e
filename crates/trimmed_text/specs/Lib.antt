-- The trimmed text of a text, and what it says.
pub mod TrimmedText
pub mod TrimmedTextRight

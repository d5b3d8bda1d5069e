-- The definitions of 01's 'Text' below the reader, in the order of reading: bytes, lines, words, places of words, numbers, shapes of lines.
-- Private has only what private functions promise.
pub mod Lines
pub mod Places
pub mod Numbers
pub mod Shapes
pub mod Private

-- What is written of what was read (Written); Private has only what private functions promise.
pub mod Written
pub mod Private

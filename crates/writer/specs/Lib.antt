-- What is written of a formula; Private has only what private functions promise.
pub mod Output
pub mod Private

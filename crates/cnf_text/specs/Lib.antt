-- What is written of the expansion, for all that is lent; Private has only what private functions promise.
pub mod Output
pub mod Private

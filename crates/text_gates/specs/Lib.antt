-- What a gate line's words say, and what is put of them (GateLine); Private has only what private functions promise.
pub mod GateLine
pub mod Private

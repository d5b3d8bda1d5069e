-- What `first_model` and `run` return and leave, and all that they promise; below Private what the private functions promise each other.
pub mod Search
pub mod Outcome
pub mod Ended
pub mod Numbers
pub mod Private

-- For contracts of private functions and for proofs. No public contract reaches it.
pub mod Path

-- The worked verdicts; the laws behind the functions' proofs, and what holds of an accepted formula.
pub mod Verdicts
pub mod Places
pub mod Any
pub mod Quantifiers
pub mod Opposite
pub mod Entries
pub mod Clauses
pub mod Order
pub mod Accepted

-- The laws that the proofs of the functions cite, callees first.
pub mod InsertLaws
pub mod Positions
pub mod ClosingLaws

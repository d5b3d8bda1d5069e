-- The theorem, and what the proofs of the functions cite.
pub mod TrimmedTextRight
pub mod CallLaws

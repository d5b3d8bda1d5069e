-- The examples; the laws behind the functions' proofs, and the proofs of the statements.
pub mod Examples
pub mod StartLaws
pub mod ToldLaws
pub mod FewCopies
pub mod Spared
pub mod OutcomeLaws

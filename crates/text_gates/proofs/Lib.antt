-- The shape of a gate line; then the laws that the proofs of the functions cite.
pub mod GateShape
pub mod GateLineLaws
pub mod ReturnedLaws

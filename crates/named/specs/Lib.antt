-- A formula by its names, names that no block binds, and gate lists.
pub mod Named
pub mod Names
pub mod Closing
pub mod ClosingRight
pub mod Gates
pub mod CircuitRight

-- The clauses of a gate, and the table after they were put into it. Private has only what private functions promise.
pub mod Clauses
pub mod Put
pub mod Private

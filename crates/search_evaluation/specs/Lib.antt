-- What clauses are worth in one row (Evaluation). Private has what a look at a clause means.
pub mod Evaluation
pub mod Private

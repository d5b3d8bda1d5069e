-- What the functions of `search_sets` make of a table (Sets). Private has what users' proofs say of the sets.
pub mod Sets
pub mod Private

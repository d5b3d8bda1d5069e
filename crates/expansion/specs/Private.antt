-- The search's own notions, for contracts of private functions and for proofs: the matrix by position, the problem over a table of values, a node of
-- the tree that is searched. No public contract reaches them.
pub mod Matrix
pub mod Problem
pub mod Node
pub mod Memory

-- What the private functions of the search and of the run promise each other. No public contract cites any of it.
pub mod TermTables
pub mod Terms
pub mod TermSteps
pub mod Satisfied
pub mod Reasons
pub mod Held
pub mod Prepared
pub mod FirstBlock
pub mod Steps
pub mod Whole
pub mod Growing
pub mod Counting

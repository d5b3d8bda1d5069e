-- Return counts: what the functions make of a table of them.
pub mod Counts

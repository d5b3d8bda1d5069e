-- Which clauses a code has (Occurrences), the index of a table of entries (Index), what holds of it (Proved), which clauses the search
-- has to look up (Searched). Private has what the passes that make an index leave.
pub mod Occurrences
pub mod Index
pub mod Proved
pub mod Searched
pub mod Private

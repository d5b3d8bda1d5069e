-- The expansion over rows as clauses, the text of it, how such a text is read, and what is proved of them.
pub mod Clauses
pub mod Text
pub mod Dimacs
pub mod Right
pub mod Worked

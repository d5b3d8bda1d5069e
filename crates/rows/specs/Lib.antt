-- The definitions of 01's 'Rows', in the order of reading: one row as values and as bytes, then the tables, then what the code does with them.
pub mod Row
pub mod Table
pub mod Stray
pub mod Access

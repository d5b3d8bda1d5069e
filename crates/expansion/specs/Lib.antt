-- The definitions of 01's 'Copies and models' and 'The judge', in the order of reading: sides, rows and their plays, copies, models and
-- the first one, the order that makes it the first, the judge; and, for the crates of the search, the table that it keeps.
-- Private has the search's own notions.
pub mod Side
pub mod OtherSide
pub mod Play
pub mod Copies
pub mod CopyCases
pub mod Model
pub mod Order
pub mod Judge
pub mod Right
pub mod Cells
pub mod Private

-- What `fill` makes of the table of cells (Numbering). Private has the numbers of the copies and the steps to them as relations.
pub mod Numbering
pub mod Private

-- The table of cells in the work area (Cells), what the functions make of it (Steps). Private has how such tables differ.
pub mod Cells
pub mod Steps
pub mod Private

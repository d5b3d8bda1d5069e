-- The definitions of the C functions, and what holds of the numbers that they return.
pub mod Door
pub mod Numbers
pub mod Witness
pub mod Study

-- How the rows that still fit are found and copied.
pub mod Fitting

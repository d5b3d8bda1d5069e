-- The literals of a formula as codes (Codes). Private has what codes mean.
pub mod Codes
pub mod Private

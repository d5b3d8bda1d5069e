-- What the two functions return.
pub mod Start

-- What `trim` returns and leaves (Outcome). Private has the table that it works in, for contracts of private functions alone.
pub mod Outcome
pub mod Private

-- The definitions of 01's 'The judge'.
pub mod Judge

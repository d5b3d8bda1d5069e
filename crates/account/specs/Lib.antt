-- The account of a decision: its lines, and what they say.
pub mod Account
pub mod AccountRight
pub mod Private

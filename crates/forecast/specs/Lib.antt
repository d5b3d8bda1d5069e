-- What the coming round will need, in the order of reading: what is returned, the statements of what holds of it, cases worked by hand; then what
-- private functions promise each other (Private).
pub mod Outcome
pub mod Forecast
pub mod Examples
pub mod Private

-- The definition of 02's witness file (C-18), the statement of its round trip, and files worked by hand. Private has only what private functions
-- promise.
pub mod File
pub mod RoundTrip
pub mod Worked
pub mod Private

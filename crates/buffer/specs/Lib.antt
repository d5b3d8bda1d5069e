-- The definition of a part put into a lent buffer.
pub mod Buffer

-- Groups of sorted rows and what is read from them (Groups). Private has the same as relations.
pub mod Groups
pub mod Private

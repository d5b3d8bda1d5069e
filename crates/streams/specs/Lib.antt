-- What a buffer holds of what a reader had left (Filled).
pub mod Filled

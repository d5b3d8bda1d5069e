-- The record of a decision, and that the sheet takes it.
pub mod Recorded
pub mod RecordedRight

-- Two records by hand; the laws of a line and of the whole text.
pub mod Examples
pub mod RecordLaws
pub mod RecordsRight

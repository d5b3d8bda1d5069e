-- The text of a season's records, and what the sheet makes of it.
pub mod Records
pub mod RecordsRight
pub mod Worked

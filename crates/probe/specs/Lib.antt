-- What the exported functions return, as numbers.
pub mod Numbers
pub mod TextReader
pub mod WitnessFile
pub mod Outlook
pub mod Restrictions

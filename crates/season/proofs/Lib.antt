-- The laws that the proofs of the functions cite: adding up first, then reading, then printing.
pub mod Closing
pub mod Fits
pub mod Folding
pub mod SummaryLaws
pub mod RecordLaws
pub mod Printing
pub mod SeasonRight

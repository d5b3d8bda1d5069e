-- How large a fee is at most within the programs' limit; the record of a decision; the lines that are put.
pub mod FeeLaws
pub mod RecordedRight
pub mod PutLaws
pub mod WithinLaws

pub mod Examples
pub mod TestLaws
pub mod RowsLaws
pub mod NumberLaws
pub mod PutLaws
pub mod RecordLaws
pub mod RoundTrip

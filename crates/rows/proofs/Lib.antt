-- The laws of the definitions in `specs/`: bits of numbers, lists of values, one row, tables, equal rows and their places.
pub mod BitLaws
pub mod ValueLaws
pub mod RowLaws
pub mod TableLaws
pub mod FindLaws
pub mod WriteLaws
pub mod ZeroedLaws

-- The laws of the definitions in `specs/`.
pub mod CodeLaws
pub mod EncodeLaws
pub mod EachLaws
pub mod Words
pub mod ReadLaws

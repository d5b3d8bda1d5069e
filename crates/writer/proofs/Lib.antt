-- Bytes put one behind the other, and what is left to put; the definition's bytes, part by part.
pub mod PutLaws
pub mod PartLaws
pub mod OutputLaws

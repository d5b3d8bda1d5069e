-- A text written by hand; the reading of a written text; the names that are read of
-- any text.
pub mod ByHand
pub mod Lengths
pub mod ReadLaws
pub mod PrefixRead
pub mod ClausesRead
pub mod RangeLaws
pub mod WritingRight

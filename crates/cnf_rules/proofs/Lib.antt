-- The worked expansions, the theorems on the clauses (Right) and on their text, and the laws of both, each file about one notion.
pub mod AllWorked
pub mod LeftOver
pub mod Breaks
pub mod Extended
pub mod NamedLaws
pub mod Numbering
pub mod FirstRow
pub mod Right
pub mod TextLaws

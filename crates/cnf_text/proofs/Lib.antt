-- The definition's bytes as the code tests and reads them (EntryLaws, KeptLaws), the places of a row (PlaceLaws), that they make the rules' lines
-- (RowLaws, PartLaws), and the causes and the buffer (OutputLaws).
pub mod EntryLaws
pub mod KeptLaws
pub mod PlaceLaws
pub mod RowLaws
pub mod PartLaws
pub mod OutputLaws

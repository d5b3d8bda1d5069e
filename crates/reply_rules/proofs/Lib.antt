-- The theorems on replies: rows behind one unknown (RowLaws), a position and the next one (PositionLaws), what `specs/` states (GameRight), and the games
-- worked by hand (Worked).
pub mod RowLaws
pub mod PositionLaws
pub mod GameRight
pub mod Worked

-- The laws of the walk over the entries, of one entry, of a clause read entry by entry, of the entries written, and of what is returned and left;
-- causes worked by hand.
pub mod WalkLaws
pub mod EntryLaws
pub mod StandLaws
pub mod WriteLaws
pub mod OutcomeLaws
pub mod CauseCases

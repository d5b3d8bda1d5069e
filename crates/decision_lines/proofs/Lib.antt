-- How lines begin and how long they are, and what they say.
pub mod PrintedLaws
pub mod LinesRight

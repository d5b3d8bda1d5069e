-- The season sheet (02, C-24), in the order of reading: the page over a table of studies, then the same from a text to the bytes printed, and
-- that these always fit. Private has only what private functions promise.
pub mod Season
pub mod Text
pub mod SeasonRight
pub mod Private

-- The definitions of what the programs print: a formula's result and a refusal (01's 'Text', last paragraph), a study's result and its
-- record, and the page over a season.
pub mod Report
pub mod Studied
pub mod Record
pub mod Page

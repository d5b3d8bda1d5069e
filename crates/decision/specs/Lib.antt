-- What is decided of a text (Deciding), what that says (DecisionRight), and the settings of the commands (Settings); 01's run with 256 rows a side (Decision).
pub mod Decision
pub mod Settings
pub mod Deciding
pub mod DecisionRight
pub mod Private

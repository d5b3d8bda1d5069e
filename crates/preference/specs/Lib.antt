-- The definitions of 01's 'Preferences', and the statement that the house rule is 01's entry.
pub mod Preference
pub mod HouseRule

-- What a run reports, from what it returned.
pub mod Reports

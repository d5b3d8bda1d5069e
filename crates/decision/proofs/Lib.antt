-- Laws of a study's outcome, the theorem on decisions, what `decide` makes of its callees' promises; 01's run as a study of one setting, and work areas.
pub mod DecisionLaws
pub mod StudyLaws
pub mod DecisionRight
pub mod DecidingLaws
pub mod OneRun
pub mod WorkLaws

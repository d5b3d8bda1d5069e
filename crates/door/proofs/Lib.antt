-- What holds of every number that the door returns.
pub mod NumberLaws
pub mod DoorLaws
pub mod Numbers
pub mod WitnessLaws
pub mod StudyLaws

-- The laws behind a study.
pub mod SettingLaws
pub mod CauseLaws
pub mod SizeLaws
pub mod StudyRight
pub mod TurnLaws

-- What holds of every study by the house list, and of every text's study.
pub mod HouseLaws
pub mod PrintedLaws
pub mod AnswerLaws
pub mod AnswerRight

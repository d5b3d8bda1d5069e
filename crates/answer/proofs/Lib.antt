-- What holds of every printed text and gate list, 01's full output, and that of a gate list.
pub mod PrintedLaws
pub mod AnswerLaws
pub mod WithinLaws
pub mod AnswerRight
pub mod GatesAnswerRight
pub mod Example
pub mod GatesExample

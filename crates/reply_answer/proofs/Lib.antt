-- From what the readers and the reply promise to the answer and its line.
pub mod AnswerLaws

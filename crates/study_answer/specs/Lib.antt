-- A study of a text or of a gate list: the house list of settings, what is printed, and what that says.
pub mod House
pub mod Printed
pub mod AnswerRight

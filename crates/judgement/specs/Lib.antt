-- What is found of a text and a witness file, its numbers, the line that is printed of it, and what an accepted claim says of the formula.
pub mod Finding
pub mod Numbers
pub mod JudgementRight

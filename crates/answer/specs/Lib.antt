-- What the programs print for a text or a gate list, and what the printed lines say.
pub mod Printed
pub mod Within
pub mod AnswerRight
pub mod GatesAnswerRight
pub mod Private

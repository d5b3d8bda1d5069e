-- The definitions of 01's 'Text' and of causes 9 to 14: the reading, over the lines, words and numbers of the crate `lines` and the names of the
-- crate `named`; the form of a text, told or found out; a text in a program's buffer; the numbers with which a text is refused; what holds of the
-- names bound nowhere, of gate lists, and of the form that is found out.
-- Private has only what private functions promise.
pub mod Reading
pub mod Form
pub mod Offered
pub mod CausesRight
pub mod ClosedRight
pub mod GatesRight
pub mod FormRight
pub mod Private

-- The definitions of 01's 'Formula', in the order of reading: what is lent, what it means, with verdicts that fix it, what is refused; then
-- how the code reads a literal, and where a run starts; and words for any list, which other crates' definitions share.
-- Private has what proofs and private functions say of an accepted formula.
pub mod Formula
pub mod Meaning
pub mod Verdicts
pub mod Causes
pub mod FirstCause
pub mod Literal
pub mod Progress
pub mod Lists
pub mod Private

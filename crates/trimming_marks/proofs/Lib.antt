-- What the functions' proofs cite: a walk over a clause, the table of codes that it has, kinds by name.
pub mod Walks
pub mod Noted
pub mod KindLaws

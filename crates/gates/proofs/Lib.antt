-- Laws of the entries of a gate's clauses, and worked ones.
pub mod Examples
pub mod SetLaws
pub mod EntryLaws
pub mod FunctionLaws

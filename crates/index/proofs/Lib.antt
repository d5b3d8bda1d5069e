-- The laws of the definitions in `specs/`: what is listed (OccurrenceLaws), the layout and what is read of it (LayoutLaws, TallyLaws,
-- IndexLaws), the index through what is dropped (KeptLaws), the search's clauses (SearchedLaws), and what the functions do (the others).
pub mod OccurrenceLaws
pub mod LayoutLaws
pub mod TallyLaws
pub mod IndexLaws
pub mod KeptLaws
pub mod SearchedLaws
pub mod PassLaws
pub mod ListLaws
pub mod FitLaws
pub mod EditLaws

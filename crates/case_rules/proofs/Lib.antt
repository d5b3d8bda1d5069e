-- The theorems on cases: those that `specs/` states, in Proved and RunStudy, and their laws, each file about one notion; any run as a finding; the cases
-- worked by hand.
pub mod RestrictedLaws
pub mod RestrictedTwice
pub mod AcceptedLaws
pub mod ByCasesLaws
pub mod UnnamedLaws
pub mod BudgetLaws
pub mod RowLaws
pub mod CasebookLaws
pub mod SizedLaws
pub mod EvidenceLaws
pub mod RunStudy
pub mod RunEnds
pub mod RunFinding
pub mod Worked
pub mod Proved

-- Cases, in the order of reading: a formula with its first unknowns set to values (Restricted), and what holds of it (RestrictedRight); the decision by
-- cases (ByCases), with a bound on the studies made (Budget), and that it is the verdict (ByCasesRight); any run as such a study (RunStudy); the
-- casebook, its check and its rows (Casebook), the decision with a casebook (Evidence), and what holds of them (CasebookRight); cases worked by hand
-- (Worked).
pub mod Restricted
pub mod RestrictedRight
pub mod ByCases
pub mod Budget
pub mod ByCasesRight
pub mod RunStudy
pub mod Casebook
pub mod Evidence
pub mod CasebookRight
pub mod Worked

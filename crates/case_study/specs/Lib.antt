-- What the study by cases returns and leaves (Cases, Decided), and what holds of it (CasesRight). Private has what its private functions promise each
-- other.
pub mod Cases
pub mod Decided
pub mod CasesRight
pub mod Private

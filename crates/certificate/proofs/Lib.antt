-- The laws behind the contracts: the rows that settle a run, a file that is written, and that the judge accepts it, for any run (AnyRun) and for the
-- program's.
pub mod Settled
pub mod Judged
pub mod FileLaws
pub mod AnyRun
pub mod CertificateLaws
pub mod CertificateRight

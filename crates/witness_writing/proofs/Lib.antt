-- The rows that settle a run, a file that is written, and that the judge accepts it: for any run (AnyRun), and for any study that does not trim.
pub mod Settled
pub mod Judged
pub mod FileLaws
pub mod AnyRun
pub mod LentRun
pub mod WriteLaws
pub mod WitnessRight

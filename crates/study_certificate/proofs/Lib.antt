-- The laws behind the contracts: the run that ended a study of untrimmed settings, what is delivered of it, and that the judge accepts the file.
pub mod LentRun
pub mod DeliveryLaws
pub mod StudyCertificateRight

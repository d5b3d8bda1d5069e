-- What is written of a text or of a gate list by a study: the settings, the witness file or the lines, and that the judge accepts the file.
pub mod WitnessList
pub mod StudyCertificate
pub mod StudyCertificateRight
pub mod Private

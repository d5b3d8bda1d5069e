-- What is written of a text: the witness file of the side that settled it, or 01's lines; and that the judge accepts the file.
pub mod Certificate
pub mod CertificateRight
pub mod Private

-- The witness file of the side that settled a formula, and that the judge accepts it.
pub mod WitnessFile
pub mod WitnessRight
pub mod Private

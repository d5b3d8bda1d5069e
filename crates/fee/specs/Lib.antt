-- What a study costs: the rounding, the fee, a chain's own bands, who pays, what the new rounding changes, figures worked by hand; then what
-- private functions promise each other, what holds of the bands, and all that the fee calls promise of every fee.
pub mod Rounding
pub mod Fee
pub mod Bands
pub mod Study
pub mod HalfUp
pub mod Halves
pub mod Worked
pub mod BandCases
pub mod ByBands
pub mod BandsRight
pub mod FeesRight

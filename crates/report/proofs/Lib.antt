pub mod Decimal
pub mod Laws
pub mod Example
pub mod Lengths

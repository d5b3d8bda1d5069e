-- A number's digits, then words and lines.
pub mod DigitLaws
pub mod LineLaws
pub mod NumeralsRight

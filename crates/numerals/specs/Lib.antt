-- That a number's decimal form is read as the number.
pub mod NumeralsRight

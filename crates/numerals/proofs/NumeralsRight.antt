-- A number that is written in decimal is read as that number. Assumes nothing.
use Rattle.numerals.specs.NumeralsRight.{NumeralsRight}
use Rattle.numerals.proofs.DigitLaws.{number_decimal_within}

pub numerals_right : NumeralsRight
numerals_right = record { read_again = number_decimal_within }

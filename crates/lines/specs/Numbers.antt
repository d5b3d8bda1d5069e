-- Words as numbers, names and literals. Assumes nothing.
use Rattle.std.specs.Prelude.{ℕ, ◌+◌, ◌-◌, ◌*◌, min, Bool, true, cond, not, ◌&&◌, ◌||◌, [], ◌∷◌, leb, ltb, eqb, length, get_or, drop}
use Rattle.lines.specs.Lines.{Bytes}

-- Bytes 48 to 57 are the digits.
abbrev pub is_digit : ℕ → Bool
is_digit b = leb 48 b && leb b 57

abbrev pub all_digits : Bytes → Bool
all_digits [] = true
all_digits (d ∷ ds) = is_digit d && all_digits ds

-- 'Numbers have no leading zero (0 itself stands)', and no more digits than a text allows, which is never over nine.
unfoldable pub number_shape : ℕ → Bytes → Bool
number_shape most w = leb 1 (length w) && leb (length w) (min most 9) && (eqb (length w) 1 || not (eqb (get_or w 0 0) 48)) && all_digits w

-- The decimal value of digits, after digits of the value v.
abbrev pub value : ℕ → Bytes → ℕ
value v [] = v
value v (d ∷ ds) = value (v * 10 + (d - 48)) ds

-- What stands for the value of a word that is no number: more than nine digits make.
abbrev pub no_number : ℕ
no_number = 1000000000

unfoldable pub number_within : ℕ → Bytes → ℕ
number_within most w = cond (number_shape most w) (value 0 w) no_number

-- 'At most 5 digits', in 01's texts.
abbrev pub max_digits : ℕ
max_digits = 5

abbrev pub number : Bytes → ℕ
number w = number_within max_digits w

abbrev pub is_number : Bytes → Bool
is_number w = ltb (number w) no_number

-- 'The end of a line' is the number 0.
abbrev pub is_zero : Bytes → Bool
is_zero w = eqb (number w) 0

-- A name has the shape of a number other than 0. Whether it is at most V is not a question of shape.
abbrev pub is_name : Bytes → Bool
is_name w = leb 1 (number w) && ltb (number w) no_number

-- 'A literal is a name, or a minus sign and a name'; byte 45 is the minus sign.
abbrev pub negative : Bytes → Bool
negative w = eqb (get_or w 0 0) 45

unfoldable pub unsigned : Bytes → Bytes
unsigned w = cond (negative w) (drop 1 w) w

abbrev pub is_literal : Bytes → Bool
is_literal w = is_name (unsigned w)

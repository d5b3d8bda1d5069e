-- What the program prints, byte by byte: the two lines of a result and the line of a refusal; and what a lent buffer holds after one was
-- put into it. Assumes nothing.
use Rattle.std.specs.Prelude.{ℕ, zero, suc, ◌+◌, ◌/◌, ◌%◌, cond, List, [], ◌∷◌, ◌++◌, leb, ltb, length, drop}
use Prim.Native.Char.{code}
use Prim.Native.String.{String, [] as empty, ◌∷◌ as ◌then◌}

-- The bytes of a text in ASCII.
abbrev pub ascii : String → List ℕ
ascii empty = []
ascii (c then s) = code c ∷ ascii s

-- The decimal form of a number that has at most `places` digits: no leading zero, but 0 itself is one digit. Byte 48 is the digit 0.
abbrev pub decimal_within : ℕ → ℕ → List ℕ
decimal_within zero n = []
decimal_within (suc places) n =
    let front = decimal_within places (n / 10) in
    cond (ltb n 10) [] front ++ ((48 + n % 10) ∷ [])

-- The decimal form of an unsigned 64-bit number, which has at most twenty digits.
unfoldable pub decimal : ℕ → List ℕ
decimal n = decimal_within 20 n

-- 'T being 1, 0, or -1 for answers 2 to 4.'
abbrev pub truth : ℕ → String
truth zero = "0"
truth (suc zero) = "1"
truth (suc (suc answer)) = "-1"

-- 'Line one is `s cnf T V C`.'
unfoldable pub line_one : ℕ → ℕ → ℕ → List ℕ
line_one answer variables clauses =
    ascii "s cnf " ++ ascii (truth answer) ++ ascii " " ++ decimal variables ++ ascii " " ++ decimal clauses ++ ascii "\n"

-- 'Line two is `c rounds`, the rounds, `universal`, the count of A, `existential`, the count of S, parted by one space.'
unfoldable pub line_two : ℕ → ℕ → ℕ → List ℕ
line_two rounds universal existential =
    ascii "c rounds " ++ decimal rounds ++ ascii " universal " ++ decimal universal ++ ascii " existential " ++ decimal existential
    ++ ascii "\n"

-- Both lines, each with its LF.
unfoldable pub result_lines : ℕ → ℕ → ℕ → ℕ → ℕ → ℕ → List ℕ
result_lines answer variables clauses rounds universal existential =
    line_one answer variables clauses ++ line_two rounds universal existential

-- A label and two numbers, parted by one space, with an LF.
unfoldable pub pair_line : List ℕ → ℕ → ℕ → List ℕ
pair_line label first second = label ++ decimal first ++ ascii " " ++ decimal second ++ ascii "\n"

-- 'A refusal prints only `c refused N L`, number and line.'
unfoldable pub refusal_line : ℕ → ℕ → List ℕ
refusal_line number line = pair_line (ascii "c refused ") number line

-- A lent buffer after a text was put into it: the text, and the bytes past it as found; as found whole if the text is longer.
unfoldable pub put : List ℕ → List ℕ → List ℕ
put text buffer = cond (leb (length text) (length buffer)) (text ++ drop (length text) buffer) buffer

-- How many bytes were written then: all of the text or none.
unfoldable pub put_count : List ℕ → List ℕ → ℕ
put_count text buffer = cond (leb (length text) (length buffer)) (length text) 0

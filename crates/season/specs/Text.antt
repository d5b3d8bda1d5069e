-- The records as text, and the bytes that are printed for a text. Assumes nothing.
use Rattle.std.specs.Prelude.{ℕ, zero, suc, Bool, false, cond, ◌&&◌, List, [], ◌∷◌, eqb, ltb, length, Err, Ok, Result}
use Rattle.cause.specs.declared.Cause.{Cause}
use Rattle.cause.specs.Cause.{number as number_of}
use Rattle.season.specs.declared.Sheet.{Sheet}
use Rattle.lines.specs.Lines.{Bytes, Line, ended, unended, lines, pieces, first, second, third}
use Rattle.lines.specs.Numbers.{number_within, no_number}
use Rattle.report.specs.Report.{refusal_line}
use Rattle.report.specs.Page.{page_lines}
use Rattle.season.specs.declared.Study.{Study}
use Rattle.season.specs.Season.{summary}

-- 'Numbers of at most 9 digits, no leading zero.'
abbrev pub max_digits : ℕ
max_digits = 9

abbrev pub number : Bytes → ℕ
number w = number_within max_digits w

abbrev pub is_number : Bytes → Bool
is_number w = ltb (number w) no_number

-- 'A line each of three numbers .. parted by one space': what stands between single spaces is three numbers. Byte 32 is the space.
abbrev pub three_numbers : List Bytes → Bool
three_numbers ps = eqb (length ps) 3 && is_number (first ps) && is_number (second ps) && is_number (third ps)

-- 'Answer number, rounds, fee in cents.'
abbrev pub study : List Bytes → Study
study ps = record { answer = number (first ps); rounds = number (second ps); fee = number (third ps) }

-- 'And ended by LF.'
unfoldable pub is_record : Line → Bool
is_record (ended line) = three_numbers (pieces 32 line)
is_record (unended line) = false

-- The study of a line; that of a line without LF is never asked for, since the text is refused.
unfoldable pub record_of : Line → Study
record_of (ended line) = study (pieces 32 line)
record_of (unended line) = study (pieces 32 line)

abbrev pub records : List Line → List Study
records [] = []
records (l ∷ ls) = record_of l ∷ records ls

-- 'Then any other line 10 with its line number': the first line that is no record, line k being the first of these; 0 if all are.
abbrev pub other_line : ℕ → List Line → ℕ
other_line k [] = 0
other_line k (l ∷ ls) =
    let later = other_line (suc k) ls in
    cond (is_record l) later k

-- '23 to 25 print line 0, all in 01's refusal line.'
unfoldable pub summary_lines : Result Sheet Cause → Bytes
summary_lines (Ok s) =
    page_lines s.answer_0 s.answer_1 s.answer_2 s.answer_3 s.answer_4 s.rounds s.studies s.most s.first s.fees
summary_lines (Err cause) = refusal_line (number_of cause) 0

-- 'A text over 122,880 bytes gets 9 at line 0, then any other line 10 with its line number, before the rest.'
abbrev pub max_bytes : ℕ
max_bytes = 122880

abbrev pub unless_other : ℕ → Bytes → Bytes
unless_other zero page = page
unless_other (suc k) page = refusal_line 10 (suc k)

-- Room for whatever is printed.
abbrev pub longest : ℕ
longest = 256

unfoldable pub printed : Bytes → Bytes
printed text = cond (ltb max_bytes (length text)) (refusal_line 9 0) (unless_other (other_line 1 (lines text)) (summary_lines (summary (records (lines text)))))

-- A record's line is one line of three numbers, read as the study. Assumes nothing.
use Prim.Native.Nat.{ℕ, suc, ◌+◌, ◌*◌, ◌≤◌, ◌<◌}
use native.Mathlib.Omega.{arith}
use mathlib.Core.Path.{◌≡◌, refl, sym, ap, ◌∙◌}
use mathlib.Core.Bool.{Bool, true, cond, ◌&&◌}
use mathlib.Core.List.{List, [], ◌∷◌, ◌++◌, append_assoc}
use borrow.Author.Tests.{lt-ltb}
use lib.Dec.{ltb, eqb}
use lib.ListN.{length, length-append}
use Rattle.lines.specs.Lines.{Bytes, Line, ended, pieces, lines}
use Rattle.lines.specs.Numbers.{no_number}
use Rattle.numerals.proofs.DigitLaws.{decimal_most, number_decimal_within}
use Rattle.numerals.proofs.LineLaws.{No, no_append, Word, decimal_word, pieces_part, pieces_whole, lines_more}
use Rattle.report.specs.Report.{ascii, decimal, pair_line}
use Rattle.report.specs.Record.{record_line}
use Rattle.season.specs.declared.Study.{Study}
use Rattle.season.specs.Text.{number, is_number, three_numbers, study, is_record, record_of, records, other_line}
use Rattle.season_record.specs.Records.{line_of, text_of, Recordable, AllRecordable}

-- The line without its LF.
unfoldable front_of : Study → Bytes
front_of s = decimal s.answer ++ (32 ∷ decimal s.rounds ++ (32 ∷ decimal s.fee))

line_front : (s : Study) (more : Bytes) → line_of s ++ more ≡ front_of s ++ (10 ∷ more)
unfolding front_of record_line pair_line
line_front s more = simp append_assoc

front_no_end : (s : Study) → No 10 (front_of s)
unfolding front_of
front_no_end s =
    let a = decimal_word s.answer in
    let b = decimal_word s.rounds in
    let d = decimal_word s.fee in
    no_append 10 (decimal s.answer) _ a.no_end (refl, no_append 10 (decimal s.rounds) _ b.no_end (refl, d.no_end))

front_pieces : (s : Study) → pieces 32 (front_of s) ≡ decimal s.answer ∷ decimal s.rounds ∷ decimal s.fee ∷ []
unfolding front_of
front_pieces s =
    pieces_part 32 (decimal s.answer) (decimal s.rounds ++ (32 ∷ decimal s.fee)) (decimal_word s.answer).no_space
    ∙ ap (λ (ps : List Bytes). decimal s.answer ∷ ps) (pieces_part 32 (decimal s.rounds) (decimal s.fee) (decimal_word s.rounds).no_space
    ∙ ap (λ (ps : List Bytes). decimal s.rounds ∷ ps) (pieces_whole 32 (decimal s.fee) (decimal_word s.fee).no_space))

-- ---- the numbers

number_again : (n : ℕ) → n < 1000000000 → number (decimal n) ≡ n
number_again n small = number_decimal_within 8 n (omega arith) small

is_number_again : (n : ℕ) → n < 1000000000 → is_number (decimal n) ≡ true
is_number_again n small = rw (number_again n small) (lt-ltb n no_number (omega (arith, small)))

front_taken : (s : Study) → Recordable s → is_record (ended (front_of s)) ≡ true
unfolding is_record
front_taken s r =
    rw (front_pieces s, is_number_again s.answer r.answer_fits, is_number_again s.rounds r.rounds_fit, is_number_again s.fee r.fee_fits) refl

front_read : (s : Study) → Recordable s → record_of (ended (front_of s)) ≡ s
unfolding record_of
front_read s r =
    rw (front_pieces s, number_again s.answer r.answer_fits, number_again s.rounds r.rounds_fit, number_again s.fee r.fee_fits) refl

-- ---- the text

text_lines : (s : Study) (ss : List Study) → lines (text_of (s ∷ ss)) ≡ ended (front_of s) ∷ lines (text_of ss)
text_lines s ss = ap lines (line_front s (text_of ss)) ∙ lines_more (front_of s) (text_of ss) (front_no_end s)

pub all_taken : (k : ℕ) (ss : List Study) → AllRecordable ss → other_line k (lines (text_of ss)) ≡ 0
unfolding lines
all_taken k [] r = refl
all_taken k (s ∷ ss) r = rw (text_lines s ss, front_taken s r.0) (all_taken (suc k) ss r.1)

pub read_again : (ss : List Study) → AllRecordable ss → records (lines (text_of ss)) ≡ ss
unfolding lines
read_again [] r = refl
read_again (s ∷ ss) r = rw (text_lines s ss, front_read s r.0, read_again ss r.1) refl

-- Three numbers of nine digits, two spaces and an LF.
line_short : (s : Study) → Recordable s → length (line_of s) ≤ 30
unfolding record_line pair_line
line_short s r =
    let back = ascii " " ++ decimal s.rounds ++ ascii " " ++ decimal s.fee in
    omega (
      arith,
      decimal_most 8 s.answer r.answer_fits,
      decimal_most 8 s.rounds r.rounds_fit,
      decimal_most 8 s.fee r.fee_fits,
      length-append (decimal s.answer) (back ++ ascii "\n"),
      length-append back (ascii "\n"),
      length-append (ascii " " ++ decimal s.rounds ++ ascii " ") (decimal s.fee),
      length-append (ascii " " ++ decimal s.rounds) (ascii " "),
      length-append (ascii " ") (decimal s.rounds),
    )

pub text_short : (ss : List Study) → AllRecordable ss → length (text_of ss) ≤ 30 * length ss
text_short [] r = omega arith
text_short (s ∷ ss) r = omega (arith, length-append (line_of s) (text_of ss), line_short s r.0, text_short ss r.1)

-- What is printed fits: no number is printed with more than twenty digits. Assumes nothing.
use Prim.Native.Nat.{ℕ, zero, suc, ◌+◌, ◌/◌, ◌%◌, ◌≤◌}
use Rattle.std.specs.Prelude.{Err, Ok, Result}
use Rattle.cause.specs.declared.Cause.{Cause}
use Rattle.cause.specs.Cause.{number}
use Rattle.season.specs.declared.Sheet.{Sheet}
use native.Mathlib.Omega.{arith}
use mathlib.Core.Bool.{Bool, true, false, cond}
use mathlib.Core.List.{List, [], ◌∷◌, ◌++◌}
use lib.Dec.{ltb, eqb}
use lib.ListN.{length, length-append}
use Rattle.lines.specs.Lines.{Bytes, lines}
use Rattle.report.specs.Report.{ascii, decimal, decimal_within, pair_line, refusal_line}
use Rattle.report.specs.Page.{answers_line, most_line, fees_line, page_lines}
use Rattle.report.proofs.Lengths.{AtMost, fixed, behind}
use Rattle.season.specs.Season.{summary}
use Rattle.season.specs.Text.{records, other_line, summary_lines, unless_other, max_bytes, longest, printed}
use Rattle.season.specs.SeasonRight.{SeasonRight}

within_places : (places n : ℕ) → length (decimal_within places n) ≤ places
within_places zero n = omega arith
within_places (suc places) n = go (ltb n 10) (decimal_within places (n / 10)) (within_places places (n / 10))
  where
    go : (b : Bool) (front : List ℕ) → length front ≤ places → length (cond b [] front ++ ((48 + n % 10) ∷ [])) ≤ suc places
    go true front more = omega arith
    go false front more = omega (arith, more, length-append front ((48 + n % 10) ∷ []))

digits : (n : ℕ) → AtMost 20 (decimal n)
unfolding decimal
digits n = record { most = within_places 20 n }

pair_most : (label : List ℕ) (a b : ℕ) → AtMost (length label + 20 + 1 + 20 + 1) (pair_line label a b)
unfolding pair_line
pair_most label a b = behind (behind (behind (behind (fixed label) (digits a)) (fixed (ascii " "))) (digits b)) (fixed (ascii "\n"))

refusal_most : (n line : ℕ) → length (refusal_line n line) ≤ longest
unfolding refusal_line
refusal_most n line = omega (arith, (pair_most (ascii "c refused ") n line).most)

most_most : (studies most first : ℕ) → length (most_line studies most first) ≤ 47
unfolding most_line
most_most studies most first = go (eqb studies 0)
  where
    go : (b : Bool) → length (cond b (ascii "most none\n") (pair_line (ascii "most ") most first)) ≤ 47
    go true = omega arith
    go false = omega (arith, (pair_most (ascii "most ") most first).most)

answers_most : (a b c d e : ℕ) → AtMost 113 (answers_line a b c d e)
unfolding answers_line
answers_most a b c d e =
    let two = behind (behind (behind (fixed (ascii "answers ")) (digits a)) (fixed (ascii " "))) (digits b) in
    let four = behind (behind (behind (behind two (fixed (ascii " "))) (digits c)) (fixed (ascii " "))) (digits d) in
    behind (behind (behind four (fixed (ascii " "))) (digits e)) (fixed (ascii "\n"))

fees_most : (n : ℕ) → AtMost 26 (fees_line n)
unfolding fees_line
fees_most n = behind (behind (fixed (ascii "fees ")) (digits n)) (fixed (ascii "\n"))

summary_most : (s : Result Sheet Cause) → length (summary_lines s) ≤ longest
unfolding summary_lines page_lines
summary_most (Err cause) = refusal_most (number cause) 0
summary_most (Ok s) =
    let answers = answers_most s.answer_0 s.answer_1 s.answer_2 s.answer_3 s.answer_4 in
    let sums = behind answers (pair_most (ascii "rounds ") s.rounds s.studies) in
    let most : AtMost 47 (most_line s.studies s.most s.first) = record { most = most_most s.studies s.most s.first } in
    omega (arith, (behind (behind sums most) (fees_most s.fees)).most)

pub season_right : (text : Bytes) → SeasonRight text
unfolding printed
season_right text = record { short = long (ltb max_bytes (length text)) }
  where
    page : Bytes
    page = summary_lines (summary (records (lines text)))

    other : (k : ℕ) → length (unless_other k page) ≤ longest
    other zero = summary_most (summary (records (lines text)))
    other (suc k) = refusal_most 10 (suc k)

    long : (b : Bool) → length (cond b (refusal_line 9 0) (unless_other (other_line 1 (lines text)) page)) ≤ longest
    long true = refusal_most 9 0
    long false = other (other_line 1 (lines text))

-- The definitions' cases, as the code tests them. Assumes nothing.
use mathlib.Core.Path.{◌≡◌, refl}
use mathlib.Core.List.{List, ◌++◌, append_assoc}
use Prim.Native.Nat.{ℕ, zero, suc, ◌≤◌, ◌<◌}
use lib.ListN.{length, drop}
use borrow.Author.Tests.{le-leb, lt-leb}
use Rattle.report.specs.Report.{ascii, decimal, truth, line_two, pair_line, put, put_count}
use Rattle.report.specs.Studied.{setting_line}
use Rattle.report.specs.Page.{answers_line, most_line, fees_line, page_lines}

pub truth_other : (answer : ℕ) → (answer ≡ 0 → ⊥) → (answer ≡ 1 → ⊥) → truth answer ≡ "-1"
truth_other zero not_false not_true = absurd (not_false refl)
truth_other (suc zero) not_false not_true = absurd (not_true refl)
truth_other (suc (suc answer)) not_false not_true = refl

-- The parts of line two put one behind the other are the line.
pub line_two_behind : (front : List ℕ) (rounds universal existential : ℕ)
    → front ++ ascii "c rounds " ++ decimal rounds ++ ascii " universal " ++ decimal universal ++ ascii " existential " ++ decimal existential
    ++ ascii "\n" ≡ front ++ line_two rounds universal existential
unfolding line_two
line_two_behind front rounds universal existential = simp append_assoc

-- So are those of a setting's line, of a line of two numbers, and of a page.
pub setting_behind : (front : List ℕ) (setting : ℕ)
    → front ++ ascii "c setting " ++ decimal setting ++ ascii "\n" ≡ front ++ setting_line setting
unfolding setting_line
setting_behind front setting = simp append_assoc

pub pair_behind : (front label : List ℕ) (first second : ℕ)
    → front ++ label ++ decimal first ++ ascii " " ++ decimal second ++ ascii "\n" ≡ front ++ pair_line label first second
unfolding pair_line
pair_behind front label first second = simp append_assoc

pub page_behind : (answer_0 answer_1 answer_2 answer_3 answer_4 rounds studies most first fees : ℕ)
    → answers_line answer_0 answer_1 answer_2 answer_3 answer_4 ++ pair_line (ascii "rounds ") rounds studies ++ most_line studies most first
    ++ ascii "fees " ++ decimal fees ++ ascii "\n" ≡ page_lines answer_0 answer_1 answer_2 answer_3 answer_4 rounds studies most first fees
unfolding page_lines fees_line
page_behind answer_0 answer_1 answer_2 answer_3 answer_4 rounds studies most first fees = simp append_assoc

module _ (text buffer : List ℕ) (fits : length text ≤ length buffer) where
  pub put_fits : put text buffer ≡ text ++ drop (length text) buffer
  unfolding put
  put_fits = rw (le-leb (length text) (length buffer) fits)

  pub put_count_fits : put_count text buffer ≡ length text
  unfolding put_count
  put_count_fits = rw (le-leb (length text) (length buffer) fits)

module _ (text buffer : List ℕ) (short : length buffer < length text) where
  pub put_short : put text buffer ≡ buffer
  unfolding put
  put_short = rw (lt-leb (length text) (length buffer) short)

  pub put_count_short : put_count text buffer ≡ 0
  unfolding put_count
  put_count_short = rw (lt-leb (length text) (length buffer) short)

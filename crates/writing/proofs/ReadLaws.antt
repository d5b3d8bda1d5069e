-- A text that begins with a line, read from a state on; the states of a written text, in which no name is free. Assumes nothing.
use Prim.Native.Nat.{ℕ, suc, ◌≤◌, ◌<◌}
use native.Mathlib.Omega.{arith}
use mathlib.Core.Path.{◌≡◌, refl, ap, ◌∙◌}
use mathlib.Core.Bool.{true, false}
use mathlib.Core.List.{List, [], ◌∷◌, ◌++◌, map}
use borrow.Author.Tests.{lt-ltb, le-leb, ne_eqb}
use lib.Dec.{leb, ltb}
use lib.IntN.{ℤ}
use Rattle.lines.specs.Lines.{Bytes, lines}
use Rattle.lines.specs.Numbers.{number_shape, number_within, no_number, is_zero, is_number, is_name}
use Rattle.report.specs.Report.{decimal}
use Rattle.text.specs.Reading.{State, Step, went, body_line, whole, go_on, clause_list, body}
use Rattle.writing.specs.WritingRight.{Range}
use Rattle.numerals.proofs.DigitLaws.{and_so, number_decimal, zero_word}
use Rattle.numerals.proofs.LineLaws.{No, Words, lines_more, decimal_word}

-- V and C, kinds and names of the blocks so far, entries so far, and clauses so far.
abbrev pub at : ℕ → ℕ → List ℕ → List ℕ → List ℤ → ℕ → State
at variables clauses kinds names entries done =
    record { variables = variables; clauses = clauses; kinds = kinds; names = names; free = []; entries = entries; clauses_read = done; made = 0 }

-- The bytes behind the p line take the state s to t, whatever the number of the first line.
abbrev pub Reads : State → Bytes → State → Type 0
Reads s bytes t = (k : ℕ) → body clause_list s k (lines bytes) ≡ whole t

pub one_line : (s t u : State) (l more : Bytes) → No 10 l → body_line false s l ≡ went t → Reads t more u → Reads s (l ++ (10 ∷ more)) u
one_line s t u l more n e r k =
    ap (body clause_list s k) (lines_more l more n) ∙ ap (λ (x : Step). go_on x k (λ v. body clause_list v (suc k) (lines more))) e ∙ r (suc k)

-- ---- numbers

pub zero_is_zero : is_zero zero_word ≡ true
unfolding number_within number_shape
zero_is_zero = refl

pub decimal_number : (n : ℕ) → n < 100000 → is_number (decimal n) ≡ true
decimal_number n small = rw (number_decimal n small) (lt-ltb n no_number (omega arith))

pub decimal_name : (n : ℕ) → 1 ≤ n → n < 100000 → is_name (decimal n) ≡ true
decimal_name n some small = rw (number_decimal n small) (and_so (leb 1 n) (ltb n no_number) (le-leb 1 n some) (lt-ltb n no_number (omega arith)))

pub decimal_not_zero : (n : ℕ) → 1 ≤ n → n < 100000 → is_zero (decimal n) ≡ false
decimal_not_zero n some small = rw (number_decimal n small) (ne_eqb n 0 (λ e. omega arith))

-- ---- names

pub range_words : (variables : ℕ) (names : List ℕ) → variables < 100000 → Range variables names → Words (map decimal names)
range_words variables [] small r = tt
range_words variables (v ∷ vs) small r = (decimal_word v, range_words variables vs small r.2)

pub range_front : (variables : ℕ) (xs ys : List ℕ) → Range variables (xs ++ ys) → Range variables xs
range_front variables [] ys r = tt
range_front variables (x ∷ xs) ys r = (r.0, r.1, range_front variables xs ys r.2)

pub range_behind : (variables : ℕ) (xs ys : List ℕ) → Range variables (xs ++ ys) → Range variables ys
range_behind variables [] ys r = r
range_behind variables (x ∷ xs) ys r = range_behind variables xs ys r.2

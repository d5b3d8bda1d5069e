-- There is room for every line: sums of bounds, away from the code. Assumes nothing.
use Prim.Native.Nat.{ℕ, zero, suc, ◌+◌, ◌-◌, ◌*◌, ◌/◌, ◌%◌, ◌≤◌}
use native.Mathlib.Omega.{arith}
use mathlib.Core.Path.{◌≡◌, refl, sym, ap, subst, ◌∙◌}
use mathlib.Core.Bool.{Bool, true, false, cond}
use mathlib.Core.List.{List, [], ◌∷◌, ◌++◌}
use borrow.Author.Tests.{leb-false}
use lib.Dec.{leb, ltb}
use lib.ListN.{length, take, drop, replicate, length-replicate, length-append}
use lib.Seq.{length-take-le, take_at}
use Rattle.formula.specs.Formula.{max_unknowns, max_rows}
use Rattle.report.specs.Report.{ascii, decimal, decimal_within, truth, line_one, line_two, result_lines, pair_line, refusal_line, put, put_count}
use Rattle.report.proofs.Lengths.{AtMost, fixed, behind}
use Rattle.account.specs.Private.Steps.{Side}

-- Room for every account, and for all lines before the rows.
abbrev pub longest : ℕ
longest = 106496

abbrev pub longest_front : ℕ
longest_front = 6848

below : longest_front ≤ longest
below = omega arith

pub front_fits : longest_front ≤ length (replicate {A = ℕ} longest 0)
front_fits = subst (λ (n : ℕ). longest_front ≤ n) (sym (length-replicate {A = ℕ} longest 0)) below

-- The unknowns of one kind, and those of the other.
pub few_of : {n k : ℕ} → n ≤ k → k ≤ max_unknowns → n ≤ max_unknowns
few_of fewer few = omega arith

pub rest_few : (n : ℕ) {k : ℕ} → k ≤ max_unknowns → k - n ≤ max_unknowns
rest_few n few = omega arith

-- The first entries of a side's table.
pub inside : {n k l : ℕ} → n ≤ k → l ≡ k → n ≤ l
inside few is = omega arith

pub taken_many : (n : ℕ) (l : List ℕ) → n ≤ max_rows → length l ≡ max_rows → length (take n l) ≡ n
taken_many n l few is = length-take-le n l (inside few is)

-- The most bytes of a side's lines.
abbrev pub longest_side : ℕ
longest_side = 192 * max_rows

-- A side's lines behind others, where there is room for the most of them; and where they end.
pub side_so : (text : List ℕ) (at : ℕ) (label : List ℕ) (m : ℕ) (rows : List ℕ) (u : ℕ) (marks counts : List ℕ) → m ≤ max_unknowns → length label ≤ 12 → u ≤ max_rows
    → length rows ≡ 16 * max_rows → length marks ≡ max_rows → length counts ≡ max_rows → at + longest_side ≤ length text → Side text at label m rows (take u marks) (take u counts)
side_so text at label m rows u marks counts narrow short few there marked counted fits =
    let many = taken_many u marks few marked in
    record {
      few = narrow;
      short = short;
      there = omega (arith, many, few, there);
      counted = taken_many u counts few counted ∙ sym many;
      fits = omega (arith, many, few, fits);
    }

pub side_ends : {r : ℕ} (at u : ℕ) (marks : List ℕ) → u ≤ max_rows → length marks ≡ max_rows → r ≤ at + 192 * length (take u marks) → r ≤ at + longest_side
side_ends at u marks few marked h = omega (arith, taken_many u marks few marked)

pub one_side : {front t : ℕ} → front ≤ longest_front → t ≡ longest → front + longest_side ≤ t
one_side f is = omega arith

pub both_sides : {front half t : ℕ} → front ≤ longest_front → half ≤ front + longest_side → t ≡ longest → half + longest_side ≤ t
both_sides f h is = omega arith

pub all_lines : {front half whole : ℕ} → front ≤ longest_front → half ≤ front + longest_side → whole ≤ half + longest_side → whole ≤ longest
all_lines f h w = omega arith

-- A number has at most twenty digits.
within_most : (places n : ℕ) → length (decimal_within places n) ≤ places
within_most zero n = omega arith
within_most (suc places) n = go (ltb n 10) (within_most places (n / 10))
  where
    go : (b : Bool) → length (decimal_within places (n / 10)) ≤ places → length (cond b [] (decimal_within places (n / 10)) ++ ((48 + n % 10) ∷ [])) ≤ suc places
    go true front = omega arith
    go false front = omega (arith, length-append (decimal_within places (n / 10)) ((48 + n % 10) ∷ []))

digits : (n : ℕ) → AtMost 20 (decimal n)
unfolding decimal
digits n = record { most = within_most 20 n }

-- So 01's lines are short, whatever the numbers are.
truth_most : (n : ℕ) → AtMost 2 (ascii (truth n))
truth_most zero = record { most = omega arith }
truth_most (suc zero) = record { most = omega arith }
truth_most (suc (suc n)) = record { most = omega arith }

pub refusal_most : (n line : ℕ) → AtMost 52 (refusal_line n line)
unfolding refusal_line pair_line
refusal_most n line = behind (behind (behind (behind (fixed (ascii "c refused ")) (digits n)) (fixed (ascii " "))) (digits line)) (fixed (ascii "\n"))

one_most : (answer variables clauses : ℕ) → AtMost 51 (line_one answer variables clauses)
unfolding line_one
one_most answer variables clauses =
    behind (behind (behind (behind (behind (behind (fixed (ascii "s cnf ")) (truth_most answer)) (fixed (ascii " "))) (digits variables)) (fixed (ascii " "))) (digits clauses)) (fixed (ascii "\n"))

two_most : (rounds universal existential : ℕ) → AtMost 94 (line_two rounds universal existential)
unfolding line_two
two_most rounds universal existential =
    behind (behind (behind (behind (behind (behind (fixed (ascii "c rounds ")) (digits rounds)) (fixed (ascii " universal "))) (digits universal)) (fixed (ascii " existential "))) (digits existential)) (fixed (ascii "\n"))

pub result_most : (answer variables clauses rounds universal existential : ℕ) → AtMost 145 (result_lines answer variables clauses rounds universal existential)
unfolding result_lines
result_most answer variables clauses rounds universal existential = behind (one_most answer variables clauses) (two_most rounds universal existential)

-- A text put at the start of a buffer that has room for it.
pub record Fronted (bytes : List ℕ) (r : ℕ) (after : List ℕ) : Type 0 where
  pub many : r ≡ length bytes
  pub front : take r after ≡ bytes

pub fronted : (bytes buffer : List ℕ) {r : ℕ} {after : List ℕ} → r ≡ put_count bytes buffer → after ≡ put bytes buffer → length bytes ≤ length buffer → Fronted bytes r after
unfolding put put_count
fronted bytes buffer {r} {after} counted written fits = go (leb (length bytes) (length buffer)) refl counted written
  where
    go : (b : Bool) → leb (length bytes) (length buffer) ≡ b → r ≡ cond b (length bytes) 0 → after ≡ cond b (bytes ++ drop (length bytes) buffer) buffer → Fronted bytes r after
    go true is e f = record { many = e; front = ap (take r) f ∙ take_at bytes (drop (length bytes) buffer) r (sym e) }
    go false is e f = absurd (omega (arith, leb-false (length bytes) (length buffer) is))

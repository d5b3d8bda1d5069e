-- The printed lines: how long they are, and how they begin. Assumes nothing.
use Prim.Native.Nat.{ℕ, zero, suc, ◌≤◌}
use native.Mathlib.Omega.{arith}
use mathlib.Core.Path.{◌≡◌, refl, ap}
use mathlib.Core.List.{List}
use lib.ListN.{length}
use Rattle.rounds.specs.Run.{Answer, is_false, is_true, spent, no_room_universal, no_room_existential, number}
use Rattle.report.specs.Report.{ascii, truth, line_one, line_two, result_lines, pair_line, refusal_line}
use Rattle.report.proofs.Lengths.{AtMost, fixed, behind, Small, decimal_short, refusal_most}
use Rattle.answer.specs.AnswerRight.{Begins}

truth_short : (n : ℕ) → AtMost 2 (ascii (truth n))
truth_short zero = record { most = omega arith }
truth_short (suc zero) = record { most = omega arith }
truth_short (suc (suc n)) = record { most = omega arith }

line_one_short : (answer variables clauses : ℕ) → Small variables → Small clauses → AtMost 31 (line_one answer variables clauses)
unfolding line_one
line_one_short answer variables clauses v c =
    behind (behind (behind (behind (behind (behind (fixed (ascii "s cnf ")) (truth_short answer)) (fixed (ascii " "))) (decimal_short variables v)) (fixed (ascii " "))) (decimal_short clauses c)) (fixed (ascii "\n"))

line_two_short : (rounds universal existential : ℕ) → Small rounds → Small universal → Small existential → AtMost 64 (line_two rounds universal existential)
unfolding line_two
line_two_short rounds universal existential r a s =
    behind (behind (behind (behind (behind (behind (fixed (ascii "c rounds ")) (decimal_short rounds r)) (fixed (ascii " universal "))) (decimal_short universal a)) (fixed (ascii " existential "))) (decimal_short existential s)) (fixed (ascii "\n"))

pub result_short : (answer variables clauses rounds universal existential : ℕ) → Small variables → Small clauses → Small rounds → Small universal → Small existential
    → length (result_lines answer variables clauses rounds universal existential) ≤ 128
unfolding result_lines
result_short answer variables clauses rounds universal existential v c r a s =
    omega (arith, (behind (line_one_short answer variables clauses v c) (line_two_short rounds universal existential r a s)).most)

pub refusal_short : (n line : ℕ) → Small n → Small line → length (refusal_line n line) ≤ 128
refusal_short n line a b = omega (arith, (refusal_most n line a b).most)

-- How a refusal begins.
module _ (n line : ℕ) where
  pub refusal_begins : Begins (refusal_line n line) "c refused "
  unfolding refusal_line pair_line
  refusal_begins = refl

  pub refusal_not_true : Begins (refusal_line n line) "s cnf 1 " → ⊥
  unfolding refusal_line pair_line
  refusal_not_true b = let z : ◌≡◌ {A = ℕ} 99 115 = cc in omega arith

  pub refusal_not_false : Begins (refusal_line n line) "s cnf 0 " → ⊥
  unfolding refusal_line pair_line
  refusal_not_false b = let z : ◌≡◌ {A = ℕ} 99 115 = cc in omega arith

  pub refusal_not_undecided : Begins (refusal_line n line) "s cnf -1 " → ⊥
  unfolding refusal_line pair_line
  refusal_not_undecided b = let z : ◌≡◌ {A = ℕ} 99 115 = cc in omega arith

-- How a result begins, by its answer.
module _ (variables clauses rounds universal existential : ℕ) where
  abbrev pub Line : Answer → List ℕ
  Line a = result_lines (number a) variables clauses rounds universal existential

  pub true_begins : Begins (Line is_true) "s cnf 1 "
  unfolding result_lines line_one
  true_begins = refl

  pub false_begins : Begins (Line is_false) "s cnf 0 "
  unfolding result_lines line_one
  false_begins = refl

  pub no_room_universal_begins : Begins (Line no_room_universal) "s cnf -1 "
  unfolding result_lines line_one
  no_room_universal_begins = refl

  pub no_room_existential_begins : Begins (Line no_room_existential) "s cnf -1 "
  unfolding result_lines line_one
  no_room_existential_begins = refl

  pub result_no_refusal : (a : Answer) → Begins (Line a) "c refused " → ⊥
  unfolding result_lines line_one
  result_no_refusal a b = let z : ◌≡◌ {A = ℕ} 115 99 = cc in omega arith

  pub true_if_1 : (a : Answer) → Begins (Line a) "s cnf 1 " → a ≡ is_true
  unfolding result_lines line_one
  true_if_1 is_true b = refl
  true_if_1 is_false b = let z : ◌≡◌ {A = ℕ} 48 49 = cc in absurd (omega arith)
  true_if_1 spent b = let z : ◌≡◌ {A = ℕ} 45 49 = cc in absurd (omega arith)
  true_if_1 no_room_universal b = let z : ◌≡◌ {A = ℕ} 45 49 = cc in absurd (omega arith)
  true_if_1 no_room_existential b = let z : ◌≡◌ {A = ℕ} 45 49 = cc in absurd (omega arith)

  pub false_if_0 : (a : Answer) → Begins (Line a) "s cnf 0 " → a ≡ is_false
  unfolding result_lines line_one
  false_if_0 is_true b = let z : ◌≡◌ {A = ℕ} 49 48 = cc in absurd (omega arith)
  false_if_0 is_false b = refl
  false_if_0 spent b = let z : ◌≡◌ {A = ℕ} 45 48 = cc in absurd (omega arith)
  false_if_0 no_room_universal b = let z : ◌≡◌ {A = ℕ} 45 48 = cc in absurd (omega arith)
  false_if_0 no_room_existential b = let z : ◌≡◌ {A = ℕ} 45 48 = cc in absurd (omega arith)

  pub not_settled_if_minus : (a : Answer) → Begins (Line a) "s cnf -1 " → (a ≡ is_true → ⊥) × (a ≡ is_false → ⊥)
  unfolding result_lines line_one
  not_settled_if_minus is_true b = let z : ◌≡◌ {A = ℕ} 49 45 = cc in absurd (omega arith)
  not_settled_if_minus is_false b = let z : ◌≡◌ {A = ℕ} 48 45 = cc in absurd (omega arith)
  not_settled_if_minus spent b = (λ e. let z : ◌≡◌ {A = ℕ} 2 1 = ap number e in omega arith, λ e. let z : ◌≡◌ {A = ℕ} 2 0 = ap number e in omega arith)
  not_settled_if_minus no_room_universal b = (λ e. let z : ◌≡◌ {A = ℕ} 3 1 = ap number e in omega arith, λ e. let z : ◌≡◌ {A = ℕ} 3 0 = ap number e in omega arith)
  not_settled_if_minus no_room_existential b = (λ e. let z : ◌≡◌ {A = ℕ} 4 1 = ap number e in omega arith, λ e. let z : ◌≡◌ {A = ℕ} 4 0 = ap number e in omega arith)

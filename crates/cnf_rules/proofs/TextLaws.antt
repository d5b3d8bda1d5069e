-- The text is its parts, and is read as the clauses. Assumes nothing.
use Prim.Native.Nat.{ℕ, zero, suc, ◌+◌, ◌-◌, ◌*◌, ◌<◌, ◌≤◌}
use native.Mathlib.Nat.{mul-suc}
use native.Mathlib.Omega.{arith}
use mathlib.Core.Path.{◌≡◌, refl, sym, ap, ◌∙◌}
use mathlib.Core.Bool.{Bool, true, false}
use mathlib.Core.List.{List, [], ◌∷◌, ◌++◌, append_assoc, append-nil}
use mathlib.Core.Option.{some}
use borrow.Author.Tests.{ne_eqb, leb-true}
use lib.Dec.{eqb, leb}
use lib.IntN.{ℤ, pos, negsuc}
use lib.ListN.{length, get_or, drop, drop_of_length-le}
use Rattle.formula.specs.Formula.{Kind, Clause, clauses, max_unknowns}
use Rattle.formula.specs.Lists.{Every}
use Rattle.formula.proofs.Places.{drop_front}
use Rattle.expansion.specs.Side.{flags}
use Rattle.expansion.specs.OtherSide.{side_of}
use Rattle.expansion.specs.Play.{Row}
use Rattle.lines.specs.Lines.{Bytes}
use Rattle.lines.specs.Numbers.{is_digit, all_digits, value}
use Rattle.numerals.proofs.DigitLaws.{and_both, decimal_some, decimal_digits, decimal_value}
use Rattle.report.specs.Report.{ascii, decimal}
use Rattle.trimming_rules.specs.Trimming.{entries}
use Rattle.trimming_rules.proofs.ClauseLaws as ClauseLaws
use Rattle.trimming_rules.proofs.RuleLaws.{Within}
use Rattle.trimming_rules.proofs.Trimmed.{clauses_entries}
use Rattle.writing.specs.Writing.{p_line}
use Rattle.cnf_rules.specs.Clauses.{copy_number, row_clauses, over_rows, expansion, variables, clause_count}
use Rattle.cnf_rules.specs.Text.{word, line, lines, claim_lines, names_words, value_digits, row_line, row_lines, head, part, parts, text}
use Rattle.cnf_rules.specs.Dimacs.{past_comments, behind, in_front, numbers, problem_in, problem_behind, dimacs}
use Rattle.cnf_rules.specs.Right.{Named, EachNamed, AllNamed, TextRight}
use Rattle.cnf_rules.proofs.Right.{named}

-- ---- part after part

pub lines_append : (cs ds : List Clause) → lines (cs ++ ds) ≡ lines cs ++ lines ds
lines_append [] ds = refl
lines_append (c ∷ cs) ds = ap (λ l. line c ++ l) (lines_append cs ds) ∙ sym (append_assoc (line c) (lines cs) (lines ds))

module _ (claim : Bool) (ks : List Kind) (cs : List Clause) (rows : List Row) where
  abbrev own_flags : List Bool
  own_flags = flags (side_of claim) ks

  abbrev start : ℕ
  start = max_unknowns * length rows

  -- What is left behind the first n rows.
  abbrev left : ℕ → List Clause
  left n = over_rows claim own_flags (copy_number own_flags rows) cs (start + length cs * n) (drop n rows)

  next_part : (n : ℕ) → n < length rows → lines (left n) ≡ part claim ks cs rows n ++ lines (left (suc n))
  unfolding part
  next_part n below =
      let row = get_or rows n [] in
      let here = row_clauses claim own_flags (copy_number own_flags rows row) row (start + length cs * n) cs in
      let step : start + length cs * n + length cs ≡ start + length cs * suc n = omega (arith, mul-suc (length cs) n) in
      let one : n + 1 ≡ suc n = omega arith in
      rw (drop_front rows n [] below, step, one) (lines_append here (left (suc n)))

  parts_left : (n : ℕ) → n ≤ length rows → parts claim ks cs rows n ++ lines (left n) ≡ lines (expansion claim ks cs rows)
  unfolding expansion
  parts_left zero within =
      let none : start + length cs * 0 ≡ start = omega arith in
      rw none refl
  parts_left (suc n) within =
      append_assoc (parts claim ks cs rows n) (part claim ks cs rows n) (lines (left (suc n)))
      ∙ ap (λ l. parts claim ks cs rows n ++ l) (sym (next_part n within))
      ∙ parts_left n (omega arith)

  pub all_parts : lines (expansion claim ks cs rows) ≡ parts claim ks cs rows (length rows)
  all_parts =
      let whole : length rows ≤ length rows = omega arith in
      let none : drop (length rows) rows ≡ [] = drop_of_length-le rows whole in
      sym (parts_left (length rows) (omega arith)) ∙ rw none (append-nil (parts claim ks cs rows (length rows)))

-- ---- comment lines are passed over

-- A digit is no end of a line, and no c.
pub digit_no_end : (d : ℕ) → is_digit d ≡ true → eqb d 10 ≡ false
digit_no_end d e = ne_eqb d 10 (λ same. omega (arith, same, leb-true 48 d (and_both (leb 48 d) (leb d 57) e).0))

digits_passed : (ds : Bytes) (rest : Bytes) → all_digits ds ≡ true → past_comments true (ds ++ rest) ≡ past_comments true rest
digits_passed [] rest e = refl
digits_passed (d ∷ ds) rest e =
    let both = and_both (is_digit d) (all_digits ds) e in
    rw (digit_no_end d both.0) (digits_passed ds rest both.1)

names_passed : (names : List ℕ) (rest : Bytes) → past_comments true (names_words names ++ rest) ≡ past_comments false rest
names_passed [] rest = refl
names_passed (v ∷ vs) rest =
    ap (past_comments true) (append_assoc (decimal v) (names_words vs) rest)
    ∙ digits_passed (decimal v) (names_words vs ++ rest) (decimal_digits v)
    ∙ names_passed vs rest

values_passed : (row : Row) (rest : Bytes) → past_comments true (value_digits row ++ rest) ≡ past_comments false rest
values_passed [] rest = refl
values_passed (false ∷ row) rest = values_passed row rest
values_passed (true ∷ row) rest = values_passed row rest

row_passed : (r : ℕ) (row : Row) (rest : Bytes) → past_comments false (row_line r row ++ rest) ≡ past_comments false rest
row_passed r row rest =
    let d = decimal r in
    let values = value_digits row in
    ap (past_comments true) (append_assoc (d ++ ascii " ") values rest ∙ append_assoc d (ascii " ") (values ++ rest))
    ∙ digits_passed d (ascii " " ++ (values ++ rest)) (decimal_digits r)
    ∙ values_passed row rest

rows_passed : (r : ℕ) (rows : List Row) (rest : Bytes) → past_comments false (row_lines r rows ++ rest) ≡ past_comments false rest
rows_passed r [] rest = refl
rows_passed r (row ∷ rows) rest =
    ap (past_comments false) (append_assoc (row_line r row) (row_lines (suc r) rows) rest)
    ∙ row_passed r row (row_lines (suc r) rows ++ rest)
    ∙ rows_passed (suc r) rows rest

claim_passed : (claim : Bool) (rest : Bytes) → past_comments false (claim_lines claim ++ rest) ≡ past_comments false rest
claim_passed false rest = refl
claim_passed true rest = refl

-- ---- numbers are read

digits_read : (minus : Bool) (v : ℕ) (ds rest : Bytes) → all_digits ds ≡ true → numbers true minus v (ds ++ rest) ≡ numbers true minus (value v ds) rest
digits_read minus v [] rest e = refl
digits_read minus v (d ∷ ds) rest e =
    let both = and_both (is_digit d) (all_digits ds) e in
    rw both.0 (digits_read minus (v * 10 + (d - 48)) ds rest both.1)

word_begun : (minus : Bool) (ds rest : Bytes) → 1 ≤ length ds → all_digits ds ≡ true → numbers false minus 0 (ds ++ rest) ≡ numbers true minus (value 0 ds) rest
word_begun minus [] rest long e = absurd (omega arith)
word_begun minus (d ∷ ds) rest long e =
    let both = and_both (is_digit d) (all_digits ds) e in
    rw both.0 (digits_read minus _ ds rest both.1)

number_read : (minus : Bool) (n : ℕ) (rest : Bytes) → n < 1000000000 → numbers false minus 0 (decimal n ++ rest) ≡ numbers true minus n rest
number_read minus n rest small =
    word_begun minus (decimal n) rest (decimal_some n) (decimal_digits n) ∙ ap (λ v. numbers true minus v rest) (decimal_value n small)

module _ (m : ℕ) (few : m < 1000000000) where
  word_read : (z : ℤ) (rest : Bytes) → Named m z → numbers false false 0 (word z ++ ascii " " ++ rest) ≡ in_front z (numbers false false 0 rest)
  word_read (pos zero) rest n = absurd n
  word_read (pos (suc v)) rest n =
      ap (numbers false false 0) (append_assoc (decimal (suc v)) (ascii " ") rest) ∙ number_read false (suc v) (ascii " " ++ rest) (omega arith)
  word_read (negsuc v) rest n =
      ap (numbers false true 0) (append_assoc (decimal (suc v)) (ascii " ") rest) ∙ number_read true (suc v) (ascii " " ++ rest) (omega arith)

  line_read : (c : Clause) (rest : Bytes) (zs : List ℤ) → EachNamed m c → numbers false false 0 rest ≡ some zs
      → numbers false false 0 (line c ++ rest) ≡ some (c ++ (pos 0 ∷ zs))
  line_read [] rest zs n e = ap (in_front (pos 0)) e
  line_read (z ∷ c) rest zs n e =
      ap (numbers false false 0) (append_assoc (word z ++ ascii " ") (line c) rest)
      ∙ word_read z (line c ++ rest) n.0
      ∙ ap (in_front z) (line_read c rest zs n.1 e)

  lines_read : (cs : List Clause) → AllNamed m cs → numbers false false 0 (lines cs) ≡ some (entries cs)
  lines_read [] n = refl
  lines_read (c ∷ cs) n = line_read c (lines cs) (entries cs) n.0 (lines_read cs n.1)

  literal_within : (z : ℤ) → Named m z → ClauseLaws.Named m z
  literal_within (pos zero) n = absurd n
  literal_within (pos (suc v)) n = record { from_one = omega arith; to_last = n }
  literal_within (negsuc v) n = record { from_one = omega arith; to_last = n }

  clauses_back : (cs : List Clause) → AllNamed m cs → clauses (entries cs) ≡ cs
  clauses_back cs n = clauses_entries m cs (all cs n)
    where
      each : (c : Clause) → EachNamed m c → Every (ClauseLaws.Named m) c
      each [] n = tt
      each (z ∷ c) n = (literal_within z n.0, each c n.1)

      all : (cs : List Clause) → AllNamed m cs → Within m cs
      all [] n = tt
      all (c ∷ cs) n = (each c n.0, all cs n.1)

p_line_read : (v k : ℕ) (rest : Bytes) → v < 1000000000 → k < 1000000000
    → problem_behind (behind (ascii "p cnf ") (past_comments false (p_line v k ++ rest))) ≡ problem_in (in_front (pos v) (in_front (pos k) (numbers false false 0 rest)))
unfolding p_line
p_line_read v k rest small few =
    let counted = decimal k ++ (ascii "\n" ++ rest) in
    let parted : decimal v ++ ascii " " ++ decimal k ++ ascii "\n" ++ rest ≡ decimal v ++ (ascii " " ++ counted) =
    append_assoc (decimal v ++ ascii " " ++ decimal k) (ascii "\n") rest
    ∙ append_assoc (decimal v ++ ascii " ") (decimal k) (ascii "\n" ++ rest)
    ∙ append_assoc (decimal v) (ascii " ") counted in
    ap (λ l. problem_in (numbers false false 0 l)) parted
    ∙ ap problem_in (number_read false v (ascii " " ++ counted) small)
    ∙ ap (λ l. problem_in (in_front (pos v) l)) (number_read false k (ascii "\n" ++ rest) few)

module _ (claim : Bool) (ks : List Kind) (cs : List Clause) (rows : List Row) (names : List ℕ) where
  head_passed : (rest : Bytes)
      → past_comments false (head claim ks cs rows names ++ rest)
      ≡ past_comments false (p_line (variables claim ks cs rows) (clause_count claim ks cs rows) ++ rest)
  unfolding head
  head_passed rest =
      let front = claim_lines claim in
      let label = ascii "c unknowns" in
      let words = names_words names in
      let shown = row_lines 0 rows in
      let problem = p_line (variables claim ks cs rows) (clause_count claim ks cs rows) in
      ap (past_comments false) (append_assoc (front ++ label ++ words ++ shown) problem rest ∙ append_assoc (front ++ label ++ words) shown (problem ++ rest))
      ∙ ap (past_comments false) (append_assoc (front ++ label) words (shown ++ (problem ++ rest)) ∙ append_assoc front label (words ++ (shown ++ (problem ++ rest))))
      ∙ claim_passed claim (label ++ (words ++ (shown ++ (problem ++ rest))))
      ∙ names_passed names (shown ++ (problem ++ rest))
      ∙ rows_passed 0 rows (problem ++ rest)

  read_back : length ks ≤ max_unknowns → variables claim ks cs rows < 1000000000 → clause_count claim ks cs rows < 1000000000
      → dimacs (text claim ks cs rows names)
      ≡ some (record { variables = variables claim ks cs rows; count = clause_count claim ks cs rows; problem = expansion claim ks cs rows })
  unfolding dimacs text
  read_back short few many =
      let v = variables claim ks cs rows in
      let k = clause_count claim ks cs rows in
      let body = expansion claim ks cs rows in
      let all = named ks cs rows short claim in
      ap (λ l. problem_behind (behind (ascii "p cnf ") l)) (head_passed (lines body))
      ∙ p_line_read v k (lines body) few many
      ∙ ap (λ l. problem_in (in_front (pos v) (in_front (pos k) l))) (lines_read v few body all)
      ∙ ap (λ ds. some (record { variables = v; count = k; problem = ds })) (clauses_back v few body all)

  pub text_right : TextRight claim ks cs rows names
  unfolding text
  text_right = record { in_parts = ap (λ l. head claim ks cs rows names ++ l) (all_parts claim ks cs rows); read_back = read_back }

-- The text that is written of a formula is read as that formula; and what is read of a text can be written. Assumes nothing.
use Prim.Native.Nat.{ℕ, zero, suc, ◌≤◌, ◌<◌}
use Rattle.std.specs.Prelude.{Result as Checked, Ok, Err}
use native.Mathlib.Omega.{arith}
use mathlib.Core.Path.{◌≡◌, refl, sym, ap, subst, ◌∙◌}
use mathlib.Core.Bool.{true, false}
use mathlib.Core.List.{List, [], ◌∷◌, ◌++◌, map, append_assoc}
use borrow.Author.Tests.{le-ltb, le-leb}
use lib.IntN.{ℤ, pos, nat_abs}
use lib.ListN.{length, get_or, length-append}
use Rattle.cause.specs.declared.Cause.{Cause}
use Rattle.cause.proofs.Numbers.{from_1}
use Rattle.formula.specs.Formula.{max_unknowns, max_clauses, max_entries, clauses}
use Rattle.formula.specs.declared.Formula.{Formula}
use Rattle.formula.specs.Causes.{zeros, is_zero as is_end, checked, number as number_of}
use Rattle.formula.proofs.Accepted.{Accepted, accepted}
use Rattle.lines.specs.Lines.{Bytes, Line, ended as line_ended, lines, words}
use Rattle.lines.specs.Shapes.{is_comment, is_problem, p_word, cnf_word}
use Rattle.named.specs.Names.{Distinct}
use Rattle.named.proofs.CauseLaws.{as_many_closed}
use Rattle.report.specs.Report.{decimal}
use Rattle.text.specs.Reading.{max_bytes, max_variables, State, Scan, whole, stopped, clause_list, body, problem_cause, opened, after_comments, scan, Read, closed, taken, result_of, read, text_scan, text_read}
use Rattle.text.proofs.ScanLaws.{Scans}
use Rattle.text.proofs.KeptLaws.{Whole}
use Rattle.text.proofs.TextLaws.{OfText, scan_whole, Passes, read_passes, Results}
use Rattle.trimming_rules.proofs.Trimmed.{entries_clauses, within_clauses}
use Rattle.writing.specs.Writing.{p_line, prefix_lines, clause_lines, written}
use Rattle.writing.specs.WritingRight.{Range, Writable, again, WritingRight, ReadWritable}
use Rattle.numerals.proofs.DigitLaws.{number_decimal}
use Rattle.numerals.proofs.LineLaws.{Word, Words, decimal_word, line_of, words_line, line_no_end, line_trimmed, lines_more}
use Rattle.writing.proofs.Lengths.{Small, prefix_most, clauses_most, p_line_most}
use Rattle.writing.proofs.ReadLaws.{at, Reads, decimal_number}
use Rattle.writing.proofs.PrefixRead.{prefix_reads}
use Rattle.writing.proofs.ClausesRead.{named, all_placed, clauses_read}
use Rattle.writing.proofs.RangeLaws.{Any, Ranged, scan_ranged}

-- ---- an accepted formula

pub accepted_so : (kinds : List ℕ) (literals : List ℤ) → number_of (checked kinds literals) ≡ 0 → Accepted kinds literals
accepted_so kinds literals e = go (checked kinds literals) refl
  where
    go : (r : Checked Formula Cause) → checked kinds literals ≡ r → Accepted kinds literals
    go (Ok f) same = accepted kinds literals same
    go (Err c) same = absurd (omega (arith, from_1 c, ap number_of same, e))

range_small : (variables : ℕ) (names : List ℕ) → variables < 100000 → Range variables names → Small names
range_small variables [] few r i = omega arith
range_small variables (v ∷ vs) few r zero = omega (arith, r.1)
range_small variables (v ∷ vs) few r (suc i) = range_small variables vs few r.2 i

-- ---- the p line

module _ (variables many : ℕ) (few : variables ≤ max_variables) (few_clauses : many ≤ max_clauses) where
  abbrev ws : List Bytes
  ws = p_word ∷ cnf_word ∷ decimal variables ∷ []

  abbrev line : Bytes
  line = line_of ws (decimal many)

  good : Words ws
  good = (
    record { some = omega arith; no_space = (refl, tt); no_end = (refl, tt) },
    (
      record { some = omega arith; no_space = (refl, (refl, (refl, tt))); no_end = (refl, (refl, (refl, tt))) },
      (decimal_word variables, tt),
    ),
  )

  last : Word (decimal many)
  last = decimal_word many

  split : words line ≡ p_word ∷ cnf_word ∷ decimal variables ∷ decimal many ∷ []
  split = words_line ws (decimal many) good last

  shaped : is_problem false line ≡ true
  unfolding is_problem
  shaped = rw (split, line_trimmed ws (decimal many) good last, decimal_number variables (omega arith), decimal_number many (omega arith)) refl

  no_cause : problem_cause false line ≡ 0
  unfolding problem_cause
  no_cause = rw (shaped, split, number_decimal variables (omega arith), number_decimal many (omega arith), le-ltb max_variables variables few, le-ltb max_clauses many few_clauses) refl

  opens : opened (words line) ≡ at variables many [] [] [] 0
  unfolding opened
  opens = rw (split, number_decimal variables (omega arith), number_decimal many (omega arith)) refl

  p_bytes : (rest : Bytes) → p_line variables many ++ rest ≡ line ++ (10 ∷ rest)
  unfolding p_line
  p_bytes rest = simp append_assoc

  no_comment : is_comment line ≡ false
  unfolding is_comment
  no_comment = refl

  -- The reading up to it.
  after_p : (ls : List Line) → after_comments false 1 (line_ended line ∷ ls) ≡ body clause_list (at variables many [] [] [] 0) 2 ls
  after_p ls = rw (no_comment, no_cause, opens) refl

-- ---- a written text

module _ (kinds : List ℕ) (literals : List ℤ) (names : List ℕ) (variables : ℕ) (w : Writable kinds literals names variables) where
  fine : Accepted kinds literals
  fine = accepted_so kinds literals w.accepted

  few : variables < 100000
  few = let h = w.few_variables in omega arith

  within_names : (i : ℕ) → nat_abs (get_or literals i (pos 0)) ≤ length names
  within_names i = let h = fine.within i in let e = w.a_name_each in omega arith

  abbrev end : State
  end = at variables (zeros literals) kinds names (map (named names) literals) (zeros literals)

  clauses_end : Reads (at variables (zeros literals) kinds names [] 0) (clause_lines names literals) end
  clauses_end =
      let all = entries_clauses literals (ap is_end fine.last_is_zero) in
      let many = fine.clauses_are_zeros in
      let room = fine.few_entries in
      subst (λ (zs : List ℤ). Reads (at variables (zeros literals) kinds names [] 0) (clause_lines names zs) (at variables (zeros literals) kinds names (map (named names) zs) (zeros literals))) all
      (clauses_read variables names few w.in_range (clauses literals) (zeros literals) kinds [] 0 (within_clauses (length names) literals within_names) (omega (arith, ap length all)) (omega arith))

  body_end : Reads (at variables (zeros literals) [] [] [] 0) (prefix_lines kinds names ++ clause_lines names literals) end
  body_end =
      let e = w.a_name_each in
      let room = fine.few_unknowns in
      prefix_reads variables (zeros literals) few kinds names [] [] e fine.kinds_known w.in_range w.different (omega arith) (clause_lines names literals) end clauses_end

  bytes : written kinds literals names variables ≡ line variables (zeros literals) w.few_variables fine.few_clauses ++ (10 ∷ (prefix_lines kinds names ++ clause_lines names literals))
  unfolding written
  bytes = append_assoc (p_line variables (zeros literals)) (prefix_lines kinds names) (clause_lines names literals) ∙ p_bytes variables (zeros literals) w.few_variables fine.few_clauses (prefix_lines kinds names ++ clause_lines names literals)

  short : length (written kinds literals names variables) ≤ 58651
  unfolding written
  short =
      let small = range_small variables names few w.in_range in
      let a = fine.few_unknowns in
      let b = fine.few_entries in
      let c = fine.few_clauses in
      omega (
        arith,
        length-append (p_line variables (zeros literals) ++ prefix_lines kinds names) (clause_lines names literals),
        length-append (p_line variables (zeros literals)) (prefix_lines kinds names),
        p_line_most variables (zeros literals) few (omega arith),
        prefix_most kinds names small,
        clauses_most names literals small,
      )

  scanned : text_scan (written kinds literals names variables) ≡ whole end
  unfolding scan
  scanned =
      let vs = w.few_variables in
      let cs = fine.few_clauses in
      let l = line variables (zeros literals) vs cs in
      rw (le-leb (length (written kinds literals names variables)) max_bytes (omega (arith, short)))
      (ap (λ (x : Bytes). after_comments false 1 (lines x)) bytes
      ∙ ap (after_comments false 1) (lines_more l (prefix_lines kinds names ++ clause_lines names literals) (line_no_end (ws variables (zeros literals) vs cs) (decimal (zeros literals)) (good variables (zeros literals) vs cs) (last variables (zeros literals) vs cs)))
      ∙ after_p variables (zeros literals) vs cs (lines (prefix_lines kinds names ++ clause_lines names literals))
      ∙ body_end 2)

  closed_end : closed end ≡ again kinds literals names variables
  unfolding closed
  closed_end = rw (all_placed variables names literals w.different w.in_range within_names) refl

  read_so : text_read (written kinds literals names variables) ≡ taken (again kinds literals names variables)
  unfolding read
  read_so = ap result_of scanned ∙ ap taken closed_end

pub writing_right : (kinds : List ℕ) (literals : List ℤ) (names : List ℕ) (variables : ℕ) → WritingRight kinds literals names variables
writing_right kinds literals names variables =
    record { read_again = λ w. read_so kinds literals names variables w; short = λ w. short kinds literals names variables w }

-- ---- what is read of a text

state_writable : (text : Bytes) (s : State) (r : Read) → text_scan text ≡ whole s → taken (closed s) ≡ taken r → Passes r → Writable r.kinds r.literals r.names r.variables
unfolding closed
state_writable text s r e f p =
    let K = (subst (Scans OfText Whole) e (scan_whole text max_unknowns max_entries max_unknowns)).kept in
    let R = subst (Scans Any Ranged) e (scan_ranged text) in
    let g : closed s ≡ r = cc in
    record {
      accepted = ap number_of p.accepted;
      a_name_each = subst (λ (q : Read). length q.names ≡ length q.kinds) g (sym (as_many_closed s.free s.kinds s.names K.as_many));
      different = subst (λ (q : Read). Distinct q.names) g K.placeable.different;
      in_range = subst (λ (q : Read). Range q.variables q.names) g R;
      few_variables = p.few_variables;
    }

pub read_writable : (text : Bytes) → ReadWritable text
unfolding read
read_writable text r e = go (text_scan text) refl e (subst (Results Passes) e (read_passes text max_unknowns max_entries max_unknowns))
  where
    go : (x : Scan) → text_scan text ≡ x → result_of x ≡ taken r → Passes r → Writable r.kinds r.literals r.names r.variables
    go (whole s) f e p = state_writable text s r f e p
    go (stopped n k) f e p = let z : ◌≡◌ {A = ℕ} 0 1 = cc in absurd (omega arith)

-- From what the reader, the run and the writers promise to what is delivered. Assumes nothing.
use Prim.Native.Nat.{ℕ, ◌≤◌}
use Rattle.std.specs.Prelude.{Ok}
use native.Mathlib.Omega.{arith}
use mathlib.Core.Path.{◌≡◌, refl, sym, ap, ap₂, subst, ◌∙◌}
use mathlib.Core.Bool.{Bool, true, false, cond}
use mathlib.Core.List.{List, []}
use lib.Dec.{eqb, leb}
use lib.IntN.{ℤ}
use lib.ListN.{length, take, replicate}
use borrow.Author.Tests.{eq-eqb, ne_eqb}
use Rattle.formula.specs.Formula.{max_unknowns, max_rows, max_clauses, work_size, prefix}
use Rattle.formula.specs.Causes.{checked, sizes}
use Rattle.formula.proofs.Accepted.{accepted}
use Rattle.preference.specs.Preference.{prefer}
use Rattle.rows.specs.Table.{table_of}
use Rattle.rounds.specs.Run.{rows, Answer, is_false, is_true, spent, no_room_universal, no_room_existential, number, Outcome, highest}
use Rattle.engine.specs.declared.run.Outcome.{Outcome as Returned}
use Rattle.engine.specs.Outcome.{Areas, Given, lent, cause, number_of, reported, row_bytes, given_up, after, left as run_left}
use Rattle.text.specs.Reading.{max_variables, Result, refused, read_as}
use Rattle.text.proofs.TextLaws.{Passes}
use Rattle.text.proofs.ReadAsLaws.{reading_passes}
use Rattle.text.proofs.FrontLaws.{Front as TextFront}
use Rattle.report.specs.Report.{result_lines, refusal_line, put, put_count}
use Rattle.witness.specs.declared.Record.{Record}
use Rattle.witness.specs.File.{made, file, size, write_cause}
use Rattle.decision.specs.Decision.{handed_on, Decided}
use Rattle.decision.proofs.DecisionLaws.{cause_so, returned_so}
use Rattle.answer.specs.Printed.{round_limit, settled}
use Rattle.certificate.specs.declared.Counts.{Counts}
use Rattle.certificate.specs.Certificate.{Output, only_file, only_lines, true_record, false_record, lines_of, by_answer, on_outcome, on_formula, on_text}
use Rattle.certificate.specs.Certificate.{work_by, Delivered}
use Rattle.certificate.specs.Private.Steps.{Ran}
use Rattle.certificate.proofs.AnyRun as any
use Rattle.certificate.proofs.AnyRun.{true_if, false_if}

-- Nothing put into a buffer leaves it.
none_put : (buffer : List ℕ) → buffer ≡ put [] buffer
unfolding put
none_put buffer = go (leb 0 (length buffer))
  where
    go : (b : Bool) → buffer ≡ cond b buffer buffer
    go true = refl
    go false = refl

none_counted : (buffer : List ℕ) → 0 ≡ put_count [] buffer
unfolding put_count
none_counted buffer = go (leb 0 (length buffer))
  where
    go : (b : Bool) → ◌≡◌ {A = ℕ} 0 (cond b 0 0)
    go true = refl
    go false = refl

abbrev counts : ℕ → ℕ → Counts
counts n k = record { file = n; lines = k }

module _ (bytes file lines : List ℕ) {n : ℕ} where
  pub lines_delivered : {lines_then : List ℕ} → n ≡ put_count bytes lines → lines_then ≡ put bytes lines →
      Delivered (only_lines bytes) file lines (counts 0 n) file lines_then
  lines_delivered counted written =
      record { file_counted = none_counted file; file_written = none_put file; lines_counted = counted; lines_written = written }

  pub file_delivered : {file_then : List ℕ} → n ≡ put_count bytes file → file_then ≡ put bytes file →
      Delivered (only_file bytes) file lines (counts n 0) file_then lines
  file_delivered counted written =
      record { file_counted = counted; file_written = written; lines_counted = none_counted lines; lines_written = none_put lines }

undecided : (a : Answer) (unknowns variables clauses : ℕ) (o : Outcome) → (number a ≡ 1 → ⊥) → (number a ≡ 0 → ⊥)
    → by_answer a unknowns variables clauses o ≡ only_lines (lines_of variables clauses o)
undecided is_true u v c o none other = absurd (none refl)
undecided is_false u v c o none other = absurd (other refl)
undecided spent u v c o none other = refl
undecided no_room_universal u v c o none other = refl
undecided no_room_existential u v c o none other = refl

-- What is delivered of an outcome.
module _ (kinds : List ℕ) (literals : List ℤ) (variables clauses : ℕ) {r : Returned} {U E : List ℕ} (ran : Ran (settled kinds literals) r U E) where
  abbrev o : Outcome
  o = settled kinds literals

  pub number_so : {n : ℕ} → n ≡ number_of r.answer → n ≡ number o.answer
  number_so = any.number_so (length kinds) clauses ran

  formula_so : (a : Answer) → o.answer ≡ a → by_answer a (length kinds) variables clauses o ≡ on_formula kinds literals variables clauses
  unfolding on_formula on_outcome
  formula_so a e = ap (λ (x : Answer). by_answer x (length kinds) variables clauses o) (sym e)

  -- True.
  module _ (one : number o.answer ≡ 1) {R : Record} (is : R ≡ made 27 1 (length kinds) clauses 0 r.existential r.round) where
    pub true_writes : write_cause R U E (size R) ≡ 0
    true_writes = any.true_writes (length kinds) clauses ran one is

    true_file : file R U E ≡ file (true_record (length kinds) clauses o) [] (table_of (rows o.S))
    true_file = any.true_file (length kinds) clauses ran one is

    pub true_delivered : (out lines : List ℕ) {n : ℕ} {out_then : List ℕ} → n ≡ put_count (file R U E) out → out_then ≡ put (file R U E) out
        → Delivered (on_formula kinds literals variables clauses) out lines (counts n 0) out_then lines
    true_delivered out lines {n} {out_then} counted written =
        subst (λ (x : Output). Delivered x out lines (counts n 0) out_then lines)
        (ap only_file true_file ∙ formula_so is_true (true_if o.answer one)) (file_delivered (file R U E) out lines counted written)

  -- False.
  module _ (none : number o.answer ≡ 0) {R : Record} (is : R ≡ made 23 0 (length kinds) clauses r.universal 0 r.round) where
    pub false_writes : write_cause R U E (size R) ≡ 0
    false_writes = any.false_writes (length kinds) clauses ran none is

    false_file : file R U E ≡ file (false_record (length kinds) clauses o) (table_of (rows o.A)) []
    false_file = any.false_file (length kinds) clauses ran none is

    pub false_delivered : (out lines : List ℕ) {n : ℕ} {out_then : List ℕ} → n ≡ put_count (file R U E) out → out_then ≡ put (file R U E) out
        → Delivered (on_formula kinds literals variables clauses) out lines (counts n 0) out_then lines
    false_delivered out lines {n} {out_then} counted written =
        subst (λ (x : Output). Delivered x out lines (counts n 0) out_then lines)
        (ap only_file false_file ∙ formula_so is_false (false_if o.answer none)) (file_delivered (file R U E) out lines counted written)

  -- Undecided.
  lines_so : {n : ℕ} → n ≡ number o.answer → result_lines n variables clauses r.round r.universal r.existential ≡ lines_of variables clauses o
  lines_so e =
      ap (λ (k : ℕ). result_lines k variables clauses r.round r.universal r.existential) e
      ∙ ap (λ (k : ℕ). result_lines (number o.answer) variables clauses k r.universal r.existential) ran.round_so
      ∙ ap₂ (λ (k m : ℕ). result_lines (number o.answer) variables clauses o.round k m) ran.universal_so ran.existential_so

  pub undecided_delivered : (out lines : List ℕ) {n k : ℕ} {lines_then : List ℕ} → n ≡ number o.answer → (n ≡ 1 → ⊥) → (n ≡ 0 → ⊥)
      → k ≡ put_count (result_lines n variables clauses r.round r.universal r.existential) lines
      → lines_then ≡ put (result_lines n variables clauses r.round r.universal r.existential) lines
      → Delivered (on_formula kinds literals variables clauses) out lines (counts 0 k) out lines_then
  undecided_delivered out lines {n} {k} {lines_then} e not_true not_false counted written =
      subst (λ (x : Output). Delivered x out lines (counts 0 k) out lines_then)
      (ap only_lines (lines_so e)
      ∙ sym (undecided o.answer (length kinds) variables clauses o (λ z. not_true (e ∙ z)) (λ z. not_false (e ∙ z)))
      ∙ formula_so o.answer refl)
      (lines_delivered (result_lines n variables clauses r.round r.universal r.existential) out lines counted written)

-- The program's run is one over 256 rows a side.
pub own_borne : (kinds : List ℕ) (literals : List ℤ) → any.Borne kinds literals (settled kinds literals)
own_borne kinds literals = any.borne_so kinds literals (prefer []) max_rows max_rows 0 round_limit (omega arith) (omega arith) (omega arith) (omega arith)

-- What that run leaves.
module _ (kinds : List ℕ) (literals : List ℤ) (work : List ℕ) (passes : checked kinds literals ≡ Ok (sizes kinds literals)) (whole : length work ≡ work_size)
  where
    abbrev g : Given
    g = handed_on kinds literals work round_limit

    abbrev end : Outcome
    end = settled kinds literals

    sized : eqb (length work) work_size ≡ true
    sized = eq-eqb (length work) work_size whole

    -- What the rows were written over.
    abbrev found : Areas
    found = given_up (highest (lent g) round_limit) g.found

    left_so : run_left g ≡ after g round_limit
    unfolding run_left
    left_so =
        let none : cause g ≡ 0 = cause_so kinds literals work round_limit passes ∙ (rw sized refl) in
        rw none refl

    pub few_unknowns : length kinds ≤ max_unknowns
    few_unknowns = (accepted kinds literals passes).few_unknowns

    module _ {r : Returned} {U E work_then : List ℕ} (d : Decided g r U E work_then) where
      reported_so : r ≡ reported (prefix kinds) end
      reported_so = d.returned_so ∙ returned_so kinds literals work round_limit passes sized refl

      u_so : U ≡ row_bytes end.A found.universal_rows
      u_so = d.universal_so ∙ ap (λ (a : Areas). a.universal_rows) left_so

      e_so : E ≡ row_bytes end.S found.existential_rows
      e_so = d.existential_so ∙ ap (λ (a : Areas). a.existential_rows) left_so

      pub work_so : work_then ≡ replicate work_size 0
      work_so = d.work_so ∙ ap (λ (a : Areas). a.work) left_so

      pub ran : Ran end r U E
      ran = any.ran_so (own_borne kinds literals) (prefix kinds) found.universal_rows found.existential_rows reported_so u_so e_so

-- From the text's reading.
abbrev by_length : List ℕ → List ℤ → ℕ → ℕ → Bool → Output
by_length kinds literals variables clause_count b = cond b (on_formula kinds literals variables clause_count) (only_lines (refusal_line 5 0))

module _ (reading : Result) (work : List ℕ) where
  abbrev pub Certified : List ℕ → List ℕ → Counts → List ℕ → List ℕ → List ℕ → Type 0
  Certified file lines r file_then lines_then work_then =
      Delivered (on_text reading work) file lines r file_then lines_then × (work_then ≡ work_by reading work)

  module _ (file lines : List ℕ) {r : Counts} {file_then lines_then : List ℕ} where
    certified : (x : Output) {work_then : List ℕ} → x ≡ on_text reading work → work_then ≡ work_by reading work → Delivered x file lines r file_then lines_then
        → Certified file lines r file_then lines_then work_then
    certified x e w d = (subst (λ (y : Output). Delivered y file lines r file_then lines_then) e d, w)

    pub text_refused : {n line : ℕ} → reading ≡ refused n line → Delivered (only_lines (refusal_line n line)) file lines r file_then lines_then
        → Certified file lines r file_then lines_then work
    text_refused e d = certified _ (ap (λ (x : Result). on_text x work) (sym e)) (ap (λ (x : Result). work_by x work) (sym e)) d

    module _ {u e v c : ℕ} {kinds : List ℕ} {literals : List ℤ} (t : TextFront reading u e v c kinds literals) where
      pub work_refused : {n : ℕ} → n ≡ 5 → (length work ≡ work_size → ⊥) → Delivered (only_lines (refusal_line n 0)) file lines r file_then lines_then
          → Certified file lines r file_then lines_then work
      work_refused five short d =
          let no = sym (ne_eqb (length work) work_size short) in
          certified _ (ap (λ (n : ℕ). only_lines (refusal_line n 0)) five ∙ ap (by_length t.formula.kinds t.formula.literals t.formula.variables
          t.formula.clauses) no ∙ ap (λ (x : Result). on_text x work) (sym t.whole))
          (ap (λ (b : Bool). cond b (replicate work_size 0) work) no ∙ ap (λ (x : Result). work_by x work) (sym t.whole)) d

      pub text_decided : {work_then : List ℕ} → length work ≡ work_size → work_then ≡ replicate work_size 0
          → Delivered (on_formula (take u kinds) (take e literals) v c) file lines r file_then lines_then → Certified file lines r file_then lines_then
          work_then
      text_decided {work_then} whole cleared d =
          let yes = sym (eq-eqb (length work) work_size whole) in
          let here : Delivered (on_formula t.formula.kinds t.formula.literals t.formula.variables t.formula.clauses) file lines r file_then lines_then =
          rw (t.kinds_front, t.literals_front, t.variables_so, t.clauses_so) at d in
          certified _ (ap (by_length t.formula.kinds t.formula.literals t.formula.variables t.formula.clauses) yes ∙ ap (λ (x : Result). on_text x work)
          (sym t.whole))
          (cleared ∙ ap (λ (b : Bool). cond b (replicate work_size 0) work) yes ∙ ap (λ (x : Result). work_by x work) (sym t.whole)) here

module _ (gates : Bool) (text : List ℕ) where
  module _ {u e v c : ℕ} {kinds : List ℕ} {literals : List ℤ} (t : TextFront (read_as gates text) u e v c kinds literals) where
    passes_so : Passes t.formula
    passes_so = reading_passes gates text t.formula t.whole

    pub front_passes : checked (take u kinds) (take e literals) ≡ Ok (sizes (take u kinds) (take e literals))
    front_passes = rw (t.kinds_front, t.literals_front) passes_so.accepted

    pub variables_small : v ≤ max_variables
    variables_small = omega (arith, t.variables_so, passes_so.few_variables)

    pub clauses_small : c ≤ max_clauses
    clauses_small = omega (arith, t.clauses_so, passes_so.few_clauses)

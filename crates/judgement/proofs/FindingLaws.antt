-- From what the readers and the judge promise to what is found and printed. Assumes nothing.
use Prim.Native.Nat.{ℕ, ◌+◌, ◌/◌, ◌%◌}
use Rattle.std.specs.Prelude.{Result as Outcome, Err, Ok}
use Rattle.cause.specs.declared.Cause.{Cause}
use Rattle.cause.specs.Cause.{number, caused}
use native.Mathlib.Omega.{arith}
use mathlib.Core.Path.{◌≡◌, refl, sym, ap, subst, ◌∙◌}
use mathlib.Core.Bool.{Bool, true, false, cond, not, ◌&&◌}
use mathlib.Core.List.{List, ◌++◌}
use lib.Dec.{eqb, leb}
use lib.IntN.{ℤ}
use lib.ListN.{length, take, drop, replicate}
use borrow.Author.Tests.{eq-eqb, ne_eqb}
use Rattle.formula.specs.Formula.{work_size}
use Rattle.rows.specs.Table.{room}
use Rattle.judge.specs.declared.Judgement.{Judgement}
use Rattle.judge.specs.Judge.{outcome, work_after, Judged}
use Rattle.text.specs.Reading.{Result, refused}
use Rattle.text.proofs.FrontLaws.{Front}
use Rattle.witness.specs.declared.Record.{Record}
use Rattle.witness.specs.File.{stands, file_cause, record_of, reading}
use Rattle.buffer.specs.Buffer.{appended, place_behind}
use Rattle.report.specs.Report.{ascii, put, put_count}
use Rattle.judgement.specs.declared.Finding.{Finding}
use Rattle.judgement.specs.declared.Finding.TheVariants.{OtherFormula, Refused}
use Rattle.judgement.specs.Finding.{Found, unjudged, judged, claimed_rows, on_claim, of_another, on_record, on_formula, on_text, finding_of, Finds, accepted_line, line_of, printed_of}

-- A line put at the start of a buffer.
abbrev pub Put : List ℕ → List ℕ → ℕ → List ℕ → Type 0
Put line out r after = (r ≡ put_count line out) × (after ≡ put line out)

none_before : (n : ℕ) → 0 + n ≡ n
none_before n = omega arith

counted_so : (line out : List ℕ) → place_behind out 0 line ≡ put_count line out
unfolding put_count place_behind
counted_so line out = ap (λ (n : ℕ). cond (leb n (length out)) n 0) (none_before (length line))

written_so : (line out : List ℕ) → appended out 0 line ≡ put line out
unfolding put appended
written_so line out = ap (λ (n : ℕ). cond (leb n (length out)) (line ++ drop n out) out) (none_before (length line))

pub line_put : (line out : List ℕ) {bytes : List ℕ} {r : ℕ} {after : List ℕ} → bytes ≡ line → r ≡ place_behind out 0 bytes → after ≡ appended out 0 bytes
    → Put line out r after
line_put line out same counted written = (
  counted ∙ ap (λ (b : List ℕ). place_behind out 0 b) same ∙ counted_so line out,
  written ∙ ap (λ (b : List ℕ). appended out 0 b) same ∙ written_so line out,
)

pub accepted_0 : (claim : ℕ) → claim ≡ 0 → ascii "accepted 0\n" ≡ accepted_line claim
unfolding accepted_line
accepted_0 claim e = ap (λ (b : Bool). cond b (ascii "accepted 0\n") (ascii "accepted 1\n")) (sym (eq-eqb claim 0 e))

pub accepted_1 : (claim : ℕ) → (claim ≡ 0 → ⊥) → ascii "accepted 1\n" ≡ accepted_line claim
unfolding accepted_line
accepted_1 claim e = ap (λ (b : Bool). cond b (ascii "accepted 0\n") (ascii "accepted 1\n")) (sym (ne_eqb claim 0 e))

-- Whether the record is of another formula.
module _ (r : Record) (unknowns clauses : ℕ) where
  abbrev other_by : Bool → Bool → Bool → Bool
  other_by sizes n c = sizes && not (n && c)

  pub no_sizes : (r.map / 2 % 2 ≡ 1 → ⊥) → false ≡ of_another r unknowns clauses
  unfolding of_another
  no_sizes none = ap (λ (b : Bool). other_by b (eqb r.unknowns unknowns) (eqb r.clauses clauses)) (sym (ne_eqb (r.map / 2 % 2) 1 none))

  module _ (there : r.map / 2 % 2 ≡ 1) where
    sizes_so : {n c : Bool} → eqb r.unknowns unknowns ≡ n → eqb r.clauses clauses ≡ c → not (n && c) ≡ of_another r unknowns clauses
    unfolding of_another
    sizes_so {n} {c} e f =
        ap (λ (b : Bool). other_by b n c) (sym (eq-eqb (r.map / 2 % 2) 1 there))
        ∙ ap (λ (b : Bool). other_by (stands 1 r.map) b c) (sym e)
        ∙ ap (λ (b : Bool). other_by (stands 1 r.map) (eqb r.unknowns unknowns) b) (sym f)

    pub other_unknowns : (r.unknowns ≡ unknowns → ⊥) → true ≡ of_another r unknowns clauses
    other_unknowns ne = sizes_so (ne_eqb r.unknowns unknowns ne) refl

    pub other_clauses : r.unknowns ≡ unknowns → (r.clauses ≡ clauses → ⊥) → true ≡ of_another r unknowns clauses
    other_clauses e ne = sizes_so (eq-eqb r.unknowns unknowns e) (ne_eqb r.clauses clauses ne)

    pub same_sizes : r.unknowns ≡ unknowns → r.clauses ≡ clauses → false ≡ of_another r unknowns clauses
    same_sizes e f = sizes_so (eq-eqb r.unknowns unknowns e) (eq-eqb r.clauses clauses f)

-- A definition that comes to what is found.
finds_at : (definition : List ℕ → Found) (work : List ℕ) {found : Found} → definition work ≡ found → Finds definition work found.finding found.work
finds_at definition work e = record { found = ap (λ (x : Found). x.finding) (sym e); area = ap (λ (x : Found). x.work) (sym e) }

finds_as : {one other : List ℕ → Found} {work : List ℕ} {result : Finding} {work_then : List ℕ} → other work ≡ one work
    → Finds one work result work_then → Finds other work result work_then
finds_as {one} {other} {work} e f =
    record { found = f.found ∙ ap (λ (x : Found). x.finding) (sym e); area = f.area ∙ ap (λ (x : Found). x.work) (sym e) }

module _ (kinds : List ℕ) (literals : List ℤ) (f work : List ℕ) where
  -- The judge was called with the claim and the rows of its side.
  pub claim_found : (claim : ℕ) {rows : List ℕ} {result : Outcome Judgement Cause} {work_then : List ℕ} (case : Outcome Judgement Cause)
      → rows ≡ claimed_rows f claim → result ≡ case
      → Judged kinds literals claim rows (room rows) work result work_then → Finds (on_claim kinds literals f claim) work (judged claim case) work_then
  unfolding on_claim
  claim_found claim case same told j =
      record {
        found = ap (judged claim) (sym told ∙ j.returned) ∙ ap (λ (rows : List ℕ). judged claim (outcome kinds literals claim rows (room rows) work)) same;
        area = j.area ∙ ap (λ (rows : List ℕ). work_after kinds literals claim rows (room rows) work) same;
      }

  module _ (clauses : ℕ) (r : Record) where
    abbrev record_by : Bool → Bool → Found
    record_by other claims =
        cond other (unjudged OtherFormula work) (cond claims (on_claim kinds literals f r.claim work) (unjudged (Refused 7 0) work))

    record_so : {other claims : Bool} → other ≡ of_another r (length kinds) clauses → stands 0 r.map ≡ claims
        → on_record kinds literals clauses f r work ≡ record_by other claims
    unfolding on_record
    record_so {other} e g = ap (λ (b : Bool). record_by b (stands 0 r.map)) (sym e) ∙ ap (λ (b : Bool). record_by other b) g

    pub record_other : true ≡ of_another r (length kinds) clauses → Finds (on_record kinds literals clauses f r) work OtherFormula work
    record_other e = finds_at (on_record kinds literals clauses f r) work (record_so e refl)

    module _ (ours : false ≡ of_another r (length kinds) clauses) where
      pub record_unclaimed : (r.map % 2 ≡ 1 → ⊥) → Finds (on_record kinds literals clauses f r) work (Refused 7 0) work
      record_unclaimed none = finds_at (on_record kinds literals clauses f r) work (record_so ours (ne_eqb (r.map / 1 % 2) 1 (λ e. none (omega (arith, e)))))

      pub record_claimed : r.map % 2 ≡ 1 → {result : Finding} {work_then : List ℕ} → Finds (on_claim kinds literals f r.claim) work result work_then
          → Finds (on_record kinds literals clauses f r) work result work_then
      record_claimed there found = finds_as {one = on_claim kinds literals f r.claim} (record_so ours (eq-eqb (r.map / 1 % 2) 1 (omega (arith, there)))) found

  module _ (clauses : ℕ) where
    abbrev formula_by : Bool → Found
    formula_by read = cond read (on_record kinds literals clauses f (record_of f) work) (unjudged (Refused (file_cause f) 0) work)

    formula_so : {b : Bool} → eqb (file_cause f) 0 ≡ b → on_formula kinds literals clauses f work ≡ formula_by b
    unfolding on_formula
    formula_so e = ap formula_by e

    pub formula_read : (r : Record) → reading f ≡ Ok r → {result : Finding} {work_then : List ℕ}
        → Finds (on_record kinds literals clauses f r) work result work_then → Finds (on_formula kinds literals clauses f) work result work_then
    formula_read r e {result} {work_then} found = go (eqb (file_cause f) 0) refl e
      where
        go : (b : Bool) → eqb (file_cause f) 0 ≡ b → cond b (Ok (record_of f)) (Err (caused (file_cause f))) ≡ Ok r
            → Finds (on_formula kinds literals clauses f) work result work_then
        go true e is =
            let same : record_of f ≡ r = cc in
            finds_as {one = on_record kinds literals clauses f r} (formula_so e ∙ ap (λ (x : Record). on_record kinds literals clauses f x work) same) found
        go false e is = let z : ◌≡◌ {A = ℕ} 0 1 = cc in absurd (omega arith)

    pub formula_refused : (cause : Cause) → reading f ≡ Err cause → number cause ≡ file_cause f
        → Finds (on_formula kinds literals clauses f) work (Refused (number cause) 0) work
    formula_refused cause e told = go (eqb (file_cause f) 0) refl e
      where
        go : (b : Bool) → eqb (file_cause f) 0 ≡ b → cond b (Ok (record_of f)) (Err (caused (file_cause f))) ≡ Err cause
            → Finds (on_formula kinds literals clauses f) work (Refused (number cause) 0) work
        go true e is = let z : ◌≡◌ {A = ℕ} 0 1 = cc in absurd (omega arith)
        go false e is = finds_at (on_formula kinds literals clauses f) work (formula_so e ∙ ap (λ (n : ℕ). unjudged (Refused n 0) work) (sym told))

-- From the text's reading.
module _ (r : Result) (f work : List ℕ) where
  pub text_refused : {n line : ℕ} → r ≡ refused n line → Finds (on_text r f) work (Refused n line) work
  text_refused {n} {line} e = finds_at (on_text r f) work (ap (λ (x : Result). on_text x f work) e)

  pub text_taken : {u e v c : ℕ} {kinds : List ℕ} {literals : List ℤ} {result : Finding} {work_then : List ℕ} → Front r u e v c kinds literals
      → Finds (on_formula (take u kinds) (take e literals) c f) work result work_then → Finds (on_text r f) work result work_then
  text_taken {result = result} {work_then = work_then} t found =
      let here : Finds (on_formula t.formula.kinds t.formula.literals t.formula.clauses f) work result work_then =
      rw (t.kinds_front, t.literals_front, t.clauses_so) at found in
      finds_as {one = on_formula t.formula.kinds t.formula.literals t.formula.clauses f} (ap (λ (x : Result). on_text x f work) t.whole) here

-- The line of what was found, with a work area of zeros.
pub printed_so : (r : Result) (f : List ℕ) {result : Finding} {work_then : List ℕ} → Finds (on_text r f) (replicate work_size 0) result work_then
    → line_of result ≡ printed_of r f
unfolding printed_of finding_of
printed_so r f found = ap line_of found.found

-- The line of a finding that is known.
pub case_put : (out : List ℕ) {result : Finding} (case : Finding) {r : ℕ} {after : List ℕ} → result ≡ case → Put (line_of case) out r after
    → Put (line_of result) out r after
case_put out {result} case {r} {after} told p = subst (λ (x : Finding). Put (line_of x) out r after) (sym told) p

pub put_as : (out : List ℕ) {one other : List ℕ} {r : ℕ} {after : List ℕ} → one ≡ other → r ≡ put_count one out → after ≡ put one out → Put other out r after
put_as out same counted written = (counted ∙ ap (λ (bytes : List ℕ). put_count bytes out) same, written ∙ ap (λ (bytes : List ℕ). put bytes out) same)

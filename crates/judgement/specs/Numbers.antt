-- The numbers of a finding: which case it is, and what the case has. Assumes nothing.
use Rattle.std.specs.Prelude.{ℕ, cond, List, eqb, ℤ, length}
use Rattle.rows.specs.Table.{room}
use Rattle.judge.specs.Judge.{cause, borne_out}
use Rattle.text.specs.Reading.{Result, taken, refused}
use Rattle.witness.specs.File.{stands, file_cause, record_of}
use Rattle.judgement.specs.declared.Finding.{Finding}
use Rattle.judgement.specs.declared.Finding.TheVariants.{NotBorneOut, Accepted, OtherFormula, Refused}
use Rattle.judgement.specs.Finding.{claimed_rows, of_another}

-- The number of the case, the claim that is accepted, the line of the refusal; 0 for what the case does not have.
pub record Numbers : Type 0 where
  pub number : ℕ
  pub claim : ℕ
  pub line : ℕ

abbrev pub numbered : ℕ → ℕ → ℕ → Numbers
numbered number claim line = record { number = number; claim = claim; line = line }

-- 0 for not borne out and 1 for accepted, as the judge has it, 2 for a file of another formula; a refusal has its cause's.
abbrev pub numbers : Finding → Numbers
numbers NotBorneOut = numbered 0 0 0
numbers (Accepted claim) = numbered 1 claim 0
numbers OtherFormula = numbered 2 0 0
numbers (Refused number line) = numbered number 0 line

-- Those of a claim that is judged ..
unfoldable pub claim_numbers : List ℕ → List ℤ → List ℕ → ℕ → List ℕ → Numbers
claim_numbers kinds literals f claim work =
    let rows = claimed_rows f claim in
    let refused_by = cause kinds literals claim rows (room rows) work in
    cond (eqb refused_by 0) (cond (borne_out kinds literals claim rows (room rows)) (numbered 1 claim 0) (numbered 0 0 0)) (numbered refused_by 0 0)

-- .. of a file over a formula ..
unfoldable pub formula_numbers : List ℕ → List ℤ → ℕ → List ℕ → List ℕ → Numbers
formula_numbers kinds literals clauses f work =
    let r = record_of f in
    let judged = cond (stands 0 r.map) (claim_numbers kinds literals f r.claim work) (numbered 7 0 0) in
    cond (eqb (file_cause f) 0) (cond (of_another r (length kinds) clauses) (numbered 2 0 0) judged) (numbered (file_cause f) 0 0)

-- .. and of a text that is read so.
abbrev pub found_numbers : Result → List ℕ → List ℕ → Numbers
found_numbers (refused number line) f work = numbered number 0 line
found_numbers (taken s) f work = formula_numbers s.kinds s.literals s.clauses f work

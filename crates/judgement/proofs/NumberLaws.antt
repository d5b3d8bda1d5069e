-- The numbers of what is found. Assumes nothing.
use Prim.Native.Nat.{ℕ}
use Rattle.std.specs.Prelude.{Ok, Err}
use Rattle.cause.specs.Cause.{caused, told}
use mathlib.Core.Path.{◌≡◌, refl, ap}
use mathlib.Core.Bool.{Bool, true, false, cond}
use mathlib.Core.List.{List}
use lib.Dec.{eqb}
use lib.IntN.{ℤ}
use lib.ListN.{length}
use Rattle.rows.specs.Table.{room}
use Rattle.judge.specs.Judge.{cause, borne_out, answer, outcome}
use Rattle.judge.proofs.Causes.{known_cause}
use Rattle.text.specs.Reading.{Result, taken, refused}
use Rattle.witness.specs.File.{stands, file_cause, record_of}
use Rattle.judgement.specs.declared.Finding.TheVariants.{OtherFormula, Refused}
use Rattle.judgement.specs.Finding.{Found, unjudged, judged, claimed_rows, on_claim, of_another, on_record, on_formula, finding_of}
use Rattle.judgement.specs.Numbers.{Numbers, numbered, numbers, claim_numbers, formula_numbers, found_numbers}

module _ (kinds : List ℕ) (literals : List ℤ) (clauses : ℕ) (f work : List ℕ) where
  claim_so : (claim : ℕ) → numbers (on_claim kinds literals f claim work).finding ≡ claim_numbers kinds literals f claim work
  unfolding on_claim outcome claim_numbers
  claim_so claim = go (eqb refused_by 0) (borne_out kinds literals claim rows (room rows)) (known_cause kinds literals claim rows (room rows) work)
    where
      rows : List ℕ
      rows = claimed_rows f claim

      refused_by : ℕ
      refused_by = cause kinds literals claim rows (room rows) work

      go : (none borne : Bool) → told {A = ℕ} (cond none (Ok 0) (Err (caused refused_by))) ≡ refused_by
          → numbers (judged claim (cond none (Ok (answer borne)) (Err (caused refused_by))))
          ≡ cond none (cond borne (numbered 1 claim 0) (numbered 0 0 0)) (numbered refused_by 0 0)
      go true true known = refl
      go true false known = refl
      go false borne known = ap (λ (n : ℕ). numbered n 0 0) known

  module _ (claim : ℕ) where
    abbrev found_by : Bool → Bool → Bool → Found
    found_by read other claims =
        let judged = cond claims (on_claim kinds literals f claim work) (unjudged (Refused 7 0) work) in
        cond read (cond other (unjudged OtherFormula work) judged) (unjudged (Refused (file_cause f) 0) work)

    abbrev numbers_by : Bool → Bool → Bool → Numbers
    numbers_by read other claims =
        let judged = cond claims (claim_numbers kinds literals f claim work) (numbered 7 0 0) in
        cond read (cond other (numbered 2 0 0) judged) (numbered (file_cause f) 0 0)

    case_so : (read other claims : Bool) → numbers (found_by read other claims).finding ≡ numbers_by read other claims
    case_so true true claims = refl
    case_so true false true = claim_so claim
    case_so true false false = refl
    case_so false other claims = refl

  formula_so : numbers (on_formula kinds literals clauses f work).finding ≡ formula_numbers kinds literals clauses f work
  unfolding on_formula on_record formula_numbers
  formula_so = case_so (record_of f).claim (eqb (file_cause f) 0) (of_another (record_of f) (length kinds) clauses) (stands 0 (record_of f).map)

pub numbers_so : (reading : Result) (f work : List ℕ) → numbers (finding_of reading f work) ≡ found_numbers reading f work
unfolding finding_of
numbers_so (taken s) f work = formula_so s.kinds s.literals s.clauses f work
numbers_so (refused number line) f work = refl

-- From what the readers and the reply promise to the answer and its line. Assumes nothing.
use Prim.Native.Nat.{ℕ, ◌/◌, ◌%◌}
use Rattle.std.specs.Prelude.{Result as Outcome, Err, Ok}
use Rattle.cause.specs.declared.Cause.{Cause}
use Rattle.cause.specs.Cause.{number, caused}
use native.Mathlib.Omega.{arith}
use mathlib.Core.Path.{◌≡◌, refl, sym, ap, subst, ◌∙◌}
use mathlib.Core.Bool.{Bool, true, false, cond}
use mathlib.Core.List.{List}
use lib.Dec.{eqb}
use lib.IntN.{ℤ}
use lib.ListN.{take}
use borrow.Author.Tests.{eq-eqb, ne_eqb}
use Rattle.rows.specs.Table.{room}
use Rattle.text.specs.Reading.{Result, refused}
use Rattle.text.proofs.FrontLaws.{Front}
use Rattle.witness.specs.declared.Record.{Record}
use Rattle.witness.specs.File.{file_cause, record_of, reading}
use Rattle.judgement.specs.Finding.{claimed_rows}
use Rattle.judgement.proofs.FindingLaws.{Put}
use Rattle.reply.specs.declared.Next.{Next}
use Rattle.reply.specs.Next.{next}
use Rattle.reply_answer.specs.declared.Answer.{Answer}
use Rattle.reply_answer.specs.declared.Answer.TheVariants.{Refused}
use Rattle.reply_answer.specs.Answer.{of_next, on_claim, on_record, on_formula, on_text, value_line, line_of}

module _ (kinds : List ℕ) (literals : List ℤ) (f moves : List ℕ) where
  -- The reply was asked for with the claim and the rows of its side.
  pub claim_answered : (claim : ℕ) {rows : List ℕ} {result : Outcome Next Cause} (case : Outcome Next Cause) → rows ≡ claimed_rows f claim → result ≡ case
      → result ≡ next kinds literals claim rows (room rows) moves → of_next case ≡ on_claim kinds literals f moves claim
  unfolding on_claim
  claim_answered claim case same told e =
      ap of_next (sym told ∙ e) ∙ ap (λ (rows : List ℕ). of_next (next kinds literals claim rows (room rows) moves)) same

  module _ (r : Record) where
    abbrev record_by : Bool → Answer
    record_by claims = cond claims (on_claim kinds literals f moves r.claim) (Refused 7 0)

    pub record_unclaimed : (r.map % 2 ≡ 1 → ⊥) → Refused 7 0 ≡ on_record kinds literals f moves r
    unfolding on_record
    record_unclaimed none = ap record_by (sym (ne_eqb (r.map / 1 % 2) 1 (λ e. none (omega (arith, e)))))

    pub record_claimed : r.map % 2 ≡ 1 → on_claim kinds literals f moves r.claim ≡ on_record kinds literals f moves r
    unfolding on_record
    record_claimed there = ap record_by (sym (eq-eqb (r.map / 1 % 2) 1 (omega (arith, there))))

  abbrev formula_by : Bool → Answer
  formula_by read = cond read (on_record kinds literals f moves (record_of f)) (Refused (file_cause f) 0)

  formula_so : {b : Bool} → eqb (file_cause f) 0 ≡ b → on_formula kinds literals f moves ≡ formula_by b
  unfolding on_formula
  formula_so e = ap formula_by e

  pub formula_read : (r : Record) → reading f ≡ Ok r → on_record kinds literals f moves r ≡ on_formula kinds literals f moves
  formula_read r e = go (eqb (file_cause f) 0) refl e
    where
      go : (b : Bool) → eqb (file_cause f) 0 ≡ b → cond b (Ok (record_of f)) (Err (caused (file_cause f))) ≡ Ok r
          → on_record kinds literals f moves r ≡ on_formula kinds literals f moves
      go true e is = let same : record_of f ≡ r = cc in sym (formula_so e ∙ ap (on_record kinds literals f moves) same)
      go false e is = let z : ◌≡◌ {A = ℕ} 0 1 = cc in absurd (omega arith)

  pub formula_refused : (cause : Cause) → reading f ≡ Err cause → number cause ≡ file_cause f → Refused (number cause) 0 ≡ on_formula kinds literals f moves
  formula_refused cause e told = go (eqb (file_cause f) 0) refl e
    where
      go : (b : Bool) → eqb (file_cause f) 0 ≡ b → cond b (Ok (record_of f)) (Err (caused (file_cause f))) ≡ Err cause
          → Refused (number cause) 0 ≡ on_formula kinds literals f moves
      go true e is = let z : ◌≡◌ {A = ℕ} 0 1 = cc in absurd (omega arith)
      go false e is = sym (formula_so e ∙ ap (λ (n : ℕ). Refused n 0) (sym told))

-- From the text's reading.
module _ (r : Result) (f moves : List ℕ) where
  pub text_refused : {n line : ℕ} → r ≡ refused n line → Refused n line ≡ on_text r f moves
  text_refused e = ap (λ (x : Result). on_text x f moves) (sym e)

  pub text_taken : {u e v c : ℕ} {kinds : List ℕ} {literals : List ℤ} {result : Answer} → Front r u e v c kinds literals
      → result ≡ on_formula (take u kinds) (take e literals) f moves → result ≡ on_text r f moves
  text_taken {result = result} t found =
      let here : result ≡ on_formula t.formula.kinds t.formula.literals f moves = rw (t.kinds_front, t.literals_front) at found in
      here ∙ ap (λ (x : Result). on_text x f moves) (sym t.whole)

-- The line of an answer that is known.
pub case_put : (out : List ℕ) {result : Answer} (case : Answer) {r : ℕ} {after : List ℕ} → result ≡ case → Put (line_of case) out r after
    → Put (line_of result) out r after
case_put out {result} case {r} {after} told p = subst (λ (x : Answer). Put (line_of x) out r after) (sym told) p

pub value_put : (out : List ℕ) {value : Bool} (case : Bool) {r : ℕ} {after : List ℕ} → value ≡ case → Put (value_line case) out r after
    → Put (value_line value) out r after
value_put out {value} case {r} {after} told p = subst (λ (x : Bool). Put (value_line x) out r after) (sym told) p

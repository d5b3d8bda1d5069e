-- An accepted claim is the formula's verdict, for everything that is lent.
-- Assumes nothing.
use Prim.Native.Nat.{ℕ, zero, suc}
use Rattle.std.specs.Prelude.{Result, Ok, Err}
use mathlib.Core.Path.{◌≡◌, refl, ap, ◌∙◌}
use mathlib.Core.Bool.{Bool, true, false, cond, true≢false}
use mathlib.Core.List.{List}
use native.Mathlib.Omega.{arith}
use lib.IntN.{ℤ}
use borrow.Author.Tests.{eqb-true}
use Rattle.cause.specs.declared.Cause.{Cause}
use Rattle.cause.specs.Cause.{caused}
use Rattle.formula.specs.Formula.{prefix, clauses}
use Rattle.formula.specs.Meaning.{matrix, verdict, bit}
use Rattle.rows.specs.Table.{rows_of}
use Rattle.expansion.proofs.Judged.{accepted_verdict}
use Rattle.judge.specs.declared.Judgement.{Judgement}
use Rattle.judge.specs.declared.Judgement.TheVariants.{Accepted}
use Rattle.judge.specs.Judge.{claims_true, other_claim, width, cause, borne_out, answer, outcome}
use Rattle.judge.proofs.Causes.{no_cause}

-- A claim that is 0 or 1 is the number of what it claims.
bit_of_claim : (claim : ℕ) → other_claim claim ≡ false → bit (claims_true claim) ≡ claim
bit_of_claim zero e = refl
bit_of_claim (suc zero) e = refl
bit_of_claim (suc (suc claim)) e = absurd (true≢false e)

accepted_no_cause : (c : Cause) (borne none? : Bool) → ◌≡◌ {A = Result Judgement Cause} (cond none? (Ok (answer borne)) (Err c)) (Ok Accepted)
    → (none? ≡ true) × (borne ≡ true)
accepted_no_cause c true true e = (refl, refl)
accepted_no_cause c false true e = let z : ◌≡◌ {A = ℕ} 0 1 = cc in absurd (omega arith)
accepted_no_cause c borne false e = let z : ◌≡◌ {A = ℕ} 0 1 = cc in absurd (omega arith)

pub accepted_is_verdict : (kinds : List ℕ) (literals : List ℤ) (claim : ℕ) (rows : List ℕ) (count : ℕ) (work : List ℕ)
    → outcome kinds literals claim rows count work ≡ Ok Accepted → bit (verdict kinds literals) ≡ claim
unfolding outcome borne_out verdict
accepted_is_verdict kinds literals claim rows count work e =
    let own = cause kinds literals claim rows count work in
    let judged = accepted_no_cause (caused own) (borne_out kinds literals claim rows count) _ e in
    let usual = no_cause kinds literals claim rows count work (eqb-true own 0 judged.0) in
    ap bit (accepted_verdict (claims_true claim) (prefix kinds) (matrix (clauses literals)) (rows_of (width kinds claim) count rows) judged.1)
    ∙ bit_of_claim claim usual.1

-- The whole text: that it fits, and what is written of what can be lent. Assumes nothing.
use Prim.Native.Nat.{ℕ, ◌+◌, ◌≤◌, ◌<◌}
use Rattle.std.specs.Prelude.{Err, Ok, Result}
use Rattle.cause.specs.declared.Cause.{Cause}
use Rattle.cause.specs.Cause.{number as number_of}
use Rattle.cause.proofs.Numbers.{from_1}
use native.Mathlib.Omega.{arith}
use mathlib.Core.Path.{◌≡◌, refl, sym, ap, ◌∙◌}
use mathlib.Core.Bool.{false, and-false}
use mathlib.Core.List.{List, []}
use borrow.Author.Tests.{eq-eqb, ne_eqb}
use lib.Dec.{eqb, leb-zero}
use lib.IntN.{ℤ}
use lib.ListN.{length, take}
use Rattle.formula.specs.Causes.{zeros, checked, number}
use Rattle.formula.specs.declared.Formula.{Formula}
use Rattle.formula.proofs.Accepted.{Accepted, accepted_sizes}
use Rattle.buffer.specs.Buffer.{appended, place_behind}
use Rattle.lines.specs.Lines.{Bytes}
use Rattle.report.specs.Report.{put, put_count}
use Rattle.report.proofs.Lengths.{decimal_short}
use Rattle.writing.specs.Writing.{p_line, prefix_lines, clause_lines, written}
use Rattle.writing.specs.WritingRight.{WritingRight}
use Rattle.numerals.proofs.DigitLaws.{decimal_most}
use Rattle.writing.proofs.Lengths.{Small, prefix_most, clauses_most}
use Rattle.writing.proofs.WritingRight.{writing_right}
use Rattle.writer.specs.Output.{output}
use Rattle.writer.specs.Private.Steps.{Put}
use Rattle.writer.proofs.PartLaws.{p_line_length}

pub parts_fit : (kinds : List ℕ) (literals : List ℤ) (names : List ℕ) (variables clauses : ℕ) → Accepted kinds literals → clauses ≡ zeros literals → variables < 4294967296 → Small names
    → length (p_line variables clauses) + (length (prefix_lines kinds names) + length (clause_lines names literals)) ≤ 58651
parts_fit kinds literals names variables clauses a same small short =
    let few = a.few_unknowns in
    let few_clauses = a.few_clauses in
    let few_entries = a.few_entries in
    omega (arith, p_line_length variables clauses, (decimal_short variables small).most, decimal_most 4 clauses (omega arith), prefix_most kinds names short, clauses_most names literals short)

pub clauses_counted : (kinds : List ℕ) (literals : List ℤ) (f : Formula) → checked kinds literals ≡ Ok f → f.clauses ≡ zeros literals
clauses_counted kinds literals f e = ap (λ (g : Formula). g.clauses) (accepted_sizes kinds literals e)

-- ---- what is written of what is lent

module _ (kinds : List ℕ) (literals : List ℤ) (names : List ℕ) (variables : ℕ) where
  pub no_names : (length names ≡ length kinds → ⊥) → output kinds literals names variables ≡ []
  unfolding output
  no_names other = rw (ne_eqb (length names) (length kinds) other) refl

  refused_number : (c : Cause) → checked kinds literals ≡ Err c → eqb (number (checked kinds literals)) 0 ≡ false
  refused_number c e = ap (λ (k : Result Formula Cause). eqb (number k) 0) e ∙ ne_eqb (number_of c) 0 (λ z. omega (arith, from_1 c))

  pub no_formula : (c : Cause) → checked kinds literals ≡ Err c → output kinds literals names variables ≡ []
  unfolding output
  no_formula c e = rw (refused_number c e, and-false (eqb (length names) (length kinds))) refl

  pub a_text : (f : Formula) → length names ≡ length kinds → checked kinds literals ≡ Ok f → output kinds literals names variables ≡ written kinds literals names variables
  unfolding output
  a_text f same e = rw (eq-eqb (length names) (length kinds) same, e) refl

  -- All that `write` ensures.
  abbrev pub Wrote : Bytes → ℕ → Bytes → Type 0
  Wrote before r after =
      (r ≡ put_count (output kinds literals names variables) before)
      × ((after ≡ put (output kinds literals names variables) before) × WritingRight kinds literals names variables)

  pub wrote_nothing : (out : Bytes) → output kinds literals names variables ≡ [] → Wrote out 0 out
  unfolding put put_count
  wrote_nothing out e = (rw (e, leb-zero (length out)) refl, (rw (e, leb-zero (length out)) refl, writing_right kinds literals names variables))

  pub wrote : (out : Bytes) {end r : ℕ} {text before after : Bytes} → output kinds literals names variables ≡ written kinds literals names variables
      → Put (written kinds literals names variables) 0 before end text → r ≡ place_behind out 0 (take end text) → after ≡ appended out 0 (take end text) → Wrote out r after
  unfolding put put_count appended place_behind
  wrote out {end} {r} {text} {before} {after} e p counted placed =
      let whole : take end text ≡ output kinds literals names variables = p.stands ∙ sym e in
      let from_zero : 0 + length (output kinds literals names variables) ≡ length (output kinds literals names variables) = omega arith in (
        counted ∙ rw (whole, from_zero) refl,
        (placed ∙ rw (whole, from_zero) refl, writing_right kinds literals names variables),
      )

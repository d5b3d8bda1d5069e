-- From what the readers, `decide` and the writers promise to what is printed. Assumes nothing.
use Prim.Native.Nat.{ℕ, suc, ◌+◌, ◌≤◌}
use Rattle.std.specs.Prelude.{Ok}
use native.Mathlib.Omega.{arith}
use mathlib.Core.Path.{◌≡◌, sym, ap, subst, ◌∙◌}
use mathlib.Core.Bool.{Bool}
use mathlib.Core.List.{List}
use lib.IntN.{ℤ}
use lib.ListN.{take, replicate}
use Rattle.formula.specs.Formula.{max_clauses, work_size}
use Rattle.formula.specs.Causes.{checked, sizes}
use Rattle.engine.specs.Outcome.{number_of}
use Rattle.named.specs.Named.{max_variables}
use Rattle.text.specs.Reading.{refused, read_as}
use Rattle.text.proofs.TextLaws.{Passes}
use Rattle.text.proofs.ReadAsLaws.{reading_passes}
use Rattle.text.proofs.FrontLaws.{Front}
use Rattle.report.specs.Report.{refusal_line}
use Rattle.report.specs.Studied.{study_lines}
use Rattle.study.specs.declared.Studied.{Studied}
use Rattle.study_answer.specs.House.{Answered, Decided}
use Rattle.study_answer.specs.Printed.{lines_of, result_of, shown, printed}
use Rattle.study_answer.specs.AnswerRight.{Settles}
use Rattle.study_answer.proofs.HouseLaws.{no_cause}

-- A formula that passes: what the study returns, and the lines of it.
module _ (kinds : List ℕ) (literals : List ℤ) (passes : checked kinds literals ≡ Ok (sizes kinds literals)) where
  module _ {r : Studied} {work : List ℕ} (d : Decided kinds literals (replicate work_size 0) r work) where
    pub answered_so : Answered r
    answered_so = d.answered (no_cause kinds literals passes)

    pub settles_so : Settles kinds literals
    settles_so = record { answered = subst Answered d.result_so answered_so; right = d.right }

    pub lines_so : (variables clauses : ℕ) {n : ℕ} → n ≡ number_of r.outcome.answer
        → study_lines n variables clauses (r.setting + 1) r.outcome.round r.outcome.universal r.outcome.existential
        ≡ result_of kinds literals variables clauses
    unfolding result_of
    lines_so variables clauses {n} numbered =
        let placed : r.setting + 1 ≡ suc r.setting = omega arith in
        ap (λ (k : ℕ). study_lines n variables clauses k r.outcome.round r.outcome.universal r.outcome.existential) placed
        ∙ ap (λ (k : ℕ). study_lines k variables clauses (suc r.setting) r.outcome.round r.outcome.universal r.outcome.existential) numbered
        ∙ ap (lines_of variables clauses) d.result_so

module _ (gates : Bool) (text : List ℕ) where
  pub refused_printed : {n line : ℕ} → read_as gates text ≡ refused n line → refusal_line n line ≡ printed gates text
  unfolding printed
  refused_printed e = ap shown (sym e)

  -- A text that is taken: its formula stands at the front of the tables.
  module _ {u e v c : ℕ} {kinds : List ℕ} {literals : List ℤ} (f : Front (read_as gates text) u e v c kinds literals) where
    passes_so : Passes f.formula
    passes_so = reading_passes gates text f.formula f.whole

    pub front_passes : checked (take u kinds) (take e literals) ≡ Ok (sizes (take u kinds) (take e literals))
    front_passes = rw (f.kinds_front, f.literals_front) passes_so.accepted

    pub variables_small : v ≤ max_variables
    variables_small = omega (arith, f.variables_so, passes_so.few_variables)

    pub clauses_small : c ≤ max_clauses
    clauses_small = omega (arith, f.clauses_so, passes_so.few_clauses)

    pub taken_printed : result_of (take u kinds) (take e literals) v c ≡ printed gates text
    unfolding printed
    taken_printed = rw (f.kinds_front, f.literals_front, f.variables_so, f.clauses_so) (ap shown (sym f.whole))

    pub formula_settles : Settles (take u kinds) (take e literals) → Settles f.formula.kinds f.formula.literals
    formula_settles s = rw (f.kinds_front, f.literals_front) at s

-- From what `read`, `decide` and the writers promise to what `answer` prints. Assumes nothing.
use Prim.Native.Nat.{ℕ, ◌+◌, ◌≤◌}
use Rattle.std.specs.Prelude.{Ok}
use native.Mathlib.Omega.{arith}
use mathlib.Core.Path.{◌≡◌, refl, sym, ap, subst, ◌∙◌}
use mathlib.Core.Bool.{Bool, true}
use mathlib.Core.List.{List}
use lib.Dec.{eqb}
use lib.IntN.{ℤ}
use lib.ListN.{length, take, replicate}
use Rattle.formula.specs.Formula.{max_rows, max_clauses, work_size, universal, existential, prefix}
use Rattle.formula.specs.Causes.{checked, sizes}
use Rattle.rounds.proofs.Bounds.{count_in_room}
use Rattle.engine.specs.declared.run.Outcome.{Outcome}
use Rattle.engine.specs.Outcome.{number_of, cause, reported, returned, left}
use Rattle.engine.proofs.run.OutcomeLaws.{number_named}
use Rattle.text.specs.Reading.{max_bytes, refused, read_as, max_variables}
use Rattle.text.proofs.TextLaws.{Passes}
use Rattle.text.proofs.ReadAsLaws.{reading_passes, reading_line}
use Rattle.text.proofs.FrontLaws.{Front}
use Rattle.report.specs.Report.{result_lines, refusal_line}
use Rattle.decision.specs.Decision.{handed_on, own_lent}
use Rattle.decision.proofs.DecisionLaws.{cause_so, returned_so}
use Rattle.answer.specs.Printed.{round_limit, settled, result_of, shown, printed_as}

-- A formula that passes, over a work area: what the run returns and leaves, and the lines of it.
module _ (kinds : List ℕ) (literals : List ℤ) (work : List ℕ) (passes : checked kinds literals ≡ Ok (sizes kinds literals)) (sized : length work ≡ work_size) where
  whole : eqb (length work) work_size ≡ true
  whole = ap (λ (n : ℕ). eqb n work_size) sized

  pub zero_left : (left (handed_on kinds literals work round_limit)).work ≡ replicate work_size 0
  unfolding left
  zero_left =
      let none : cause (handed_on kinds literals work round_limit) ≡ 0 = cause_so kinds literals work round_limit passes ∙ (rw whole refl) in
      rw none refl

  module _ {r : Outcome} (e : r ≡ returned (handed_on kinds literals work round_limit)) where
    reported_so : r ≡ reported (prefix kinds) (settled kinds literals)
    reported_so = e ∙ returned_so kinds literals work round_limit passes whole refl

    pub universal_few : r.universal ≤ max_rows
    universal_few = subst (λ (o : Outcome). o.universal ≤ max_rows) (sym reported_so) (count_in_room (own_lent kinds literals) round_limit universal (omega arith))

    pub existential_few : r.existential ≤ max_rows
    existential_few = subst (λ (o : Outcome). o.existential ≤ max_rows) (sym reported_so) (count_in_room (own_lent kinds literals) round_limit existential (omega arith))

    pub lines_so : (variables clauses : ℕ) {n : ℕ} → n ≡ number_of r.answer
        → result_lines n variables clauses r.round r.universal r.existential ≡ result_of kinds literals variables clauses
    unfolding result_of
    lines_so variables clauses numbered =
        ap (λ (k : ℕ). result_lines k variables clauses r.round r.universal r.existential) numbered
        ∙ ap (λ (o : Outcome). result_lines (number_of o.answer) variables clauses o.round o.universal o.existential) reported_so
        ∙ ap (λ (k : ℕ). result_lines k variables clauses (settled kinds literals).round (length (settled kinds literals).A) (length (settled kinds literals).S))
        (number_named (settled kinds literals).answer)

-- What was read of a text of clauses or of gates.
module _ (gates : Bool) (text : List ℕ) where
  -- A text that is refused.
  pub refused_printed : {n line : ℕ} → read_as gates text ≡ refused n line → refusal_line n line ≡ printed_as gates text
  unfolding printed_as
  refused_printed e = ap shown (sym e)

  pub line_small : {n line : ℕ} → read_as gates text ≡ refused n line → line ≤ 2 + max_bytes
  line_small {n} {line} e = reading_line gates text n line e

  -- A text that is taken: its formula stands at the front of the tables.
  module _ {u e v c : ℕ} {kinds : List ℕ} {literals : List ℤ} (f : Front (read_as gates text) u e v c kinds literals) where
    passes_so : Passes f.formula
    passes_so = reading_passes gates text f.formula f.whole

    pub front_passes : checked (take u kinds) (take e literals) ≡ Ok (sizes (take u kinds) (take e literals))
    front_passes = rw (f.kinds_front, f.literals_front) passes_so.accepted

    pub variables_small : v ≤ max_variables
    variables_small = omega (arith, f.variables_so, passes_so.few_variables)

    pub clauses_small : c ≤ max_clauses
    clauses_small = omega (arith, f.clauses_so, passes_so.few_clauses)

    pub taken_printed : result_of (take u kinds) (take e literals) v c ≡ printed_as gates text
    unfolding printed_as
    taken_printed = rw (f.kinds_front, f.literals_front, f.variables_so, f.clauses_so) (ap shown (sym f.whole))

-- What the printed lines of a gate list say, for every list. Assumes nothing.
use Prim.Native.Nat.{ℕ}
use mathlib.Core.Path.{refl, sym, subst, ◌∙◌}
use mathlib.Core.List.{List}
use Rattle.formula.specs.Formula.{max_unknowns, max_entries}
use Rattle.named.specs.Names.{In}
use Rattle.text.specs.Reading.{gates_read, gates_causes}
use Rattle.text.proofs.TextLaws.{gates_refused_line}
use Rattle.text.proofs.GatesPass.{GatesResults, gates_pass}
use Rattle.text.proofs.GatesRight.{gates_right}
use Rattle.text.proofs.ReadAsLaws.{gates_small}
use Rattle.answer.specs.Printed.{gates_printed}
use Rattle.answer.specs.GatesAnswerRight.{GatesAnswerRight}
use Rattle.answer.proofs.AnswerRight.{lines_right}

pub gates_answer_right : (text : List ℕ) → GatesAnswerRight text
unfolding gates_printed
gates_answer_right text =
    record {
      lines =
          lines_right _ (gates_read text) _ (gates_printed text) refl
          (λ n line e.
          let known : In n gates_causes = subst GatesResults e (gates_pass text max_unknowns max_entries max_unknowns) in
          (known, gates_small n known, gates_refused_line text max_unknowns max_entries max_unknowns n line e))
          (λ s e. (subst GatesResults e (gates_pass text max_unknowns max_entries max_unknowns)).passes)
          (λ s e value v g. sym (gates_right text s e g) ∙ v);
      made = λ s e. (subst GatesResults e (gates_pass text max_unknowns max_entries max_unknowns)).counted;
    }

-- From what the reader and the run promise to what the door returns and leaves. Assumes nothing.
use Prim.Native.Nat.{ℕ, ◌+◌, ◌≤◌}
use mathlib.Core.Path.{◌≡◌, sym, ap, subst, ◌∙◌}
use mathlib.Core.List.{List}
use lib.IntN.{ℤ}
use lib.ListN.{take}
use Rattle.formula.specs.Formula.{max_unknowns, max_entries}
use Rattle.engine.specs.declared.run.Outcome.{Outcome}
use Rattle.engine.specs.Outcome.{Given, returned, left}
use Rattle.engine.specs.Numbers.{one_number}
use Rattle.text.specs.Reading.{Result, refused, text_read}
use Rattle.text.proofs.TextLaws.{OfText, Results, Passes, read_passes}
use Rattle.text.proofs.FrontLaws.{Front}
use Rattle.decision.specs.Decision.{handed_on}
use Rattle.door.specs.Door.{run_number, number_back, work_back, answer, work_after}
use Rattle.door.proofs.NumberLaws.{run_number_small}

-- The run's number fits.
pub returned_small : (g : Given) {r : Outcome} → r ≡ returned g → one_number r.answer ≤ 116
returned_small g e = subst (λ (o : Outcome). one_number o.answer ≤ 116) (sym e) (run_number_small g)

-- The text is refused.
pub refused_of_text : (text : List ℕ) (n line : ℕ) → text_read text ≡ refused n line → OfText n
refused_of_text text n line e = subst (Results Passes) e (read_passes text max_unknowns max_entries max_unknowns)

pub refused_back : (text work : List ℕ) (limit n line : ℕ) → text_read text ≡ refused n line
    → (100 + n ≡ answer text work limit) × (work ≡ work_after text work limit)
unfolding answer work_after
refused_back text work limit n line e = (ap (λ (r : Result). number_back r work limit) (sym e), ap (λ (r : Result). work_back r work limit) (sym e))

-- The text is taken.
pub decided_back : (text work : List ℕ) (limit : ℕ) {u e v c : ℕ} {kinds : List ℕ} {literals : List ℤ} {r : ℕ} {work' : List ℕ}
    → Front (text_read text) u e v c kinds literals
    → (r ≡ run_number (handed_on (take u kinds) (take e literals) work limit)) × (work' ≡ (left (handed_on (take u kinds) (take e literals) work limit)).work)
    → (r ≡ answer text work limit) × (work' ≡ work_after text work limit)
unfolding answer work_after
decided_back text work limit {u} {e} {kinds = kinds} {literals = literals} {r = r} {work' = work'} f d =
    let d' : (r ≡ run_number (handed_on f.formula.kinds f.formula.literals work limit))
    × (work' ≡ (left (handed_on f.formula.kinds f.formula.literals work limit)).work) = rw (f.kinds_front, f.literals_front) at d in (
      d'.0 ∙ ap (λ (r : Result). number_back r work limit) (sym f.whole),
      d'.1 ∙ ap (λ (r : Result). work_back r work limit) (sym f.whole),
    )

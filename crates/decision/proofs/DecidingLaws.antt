-- From what `read_form` and `study_read` promise to what `decide` does. Assumes nothing.
use Prim.Native.Nat.{ℕ, zero, suc, ◌≤◌}
use native.Mathlib.Omega.{arith}
use mathlib.Core.Path.{◌≡◌, refl, sym, ap, subst, ◌∙◌}
use mathlib.Core.Bool.{Bool, true, false, cond}
use mathlib.Core.List.{List, [], ◌∷◌, ◌++◌, append-nil}
use lib.Dec.{ltb}
use lib.IntN.{ℤ}
use lib.ListN.{length, take, drop, length-take}
use lib.Seq.{length-take-le, take_all, take_at}
use borrow.Author.Tests.{ltb-true, ltb-false}
use Rattle.formula.specs.Formula.{work_size}
use Rattle.lines.specs.Lines.{Bytes}
use Rattle.text.specs.declared.Form.{Form}
use Rattle.std.specs.Prelude.{Ok, Err}
use Rattle.cause.specs.Cause.{number}
use Rattle.text.specs.declared.Taken.{Taken}
use Rattle.text.specs.declared.Refusal.{Refusal}
use Rattle.text.specs.Reading.{Reading, Read, Result, taken, ReadSo}
use Rattle.text.specs.Form.{has_gates}
use Rattle.text.proofs.FrontLaws.{Front, read_refused, read_taken}
use Rattle.engine.specs.Outcome.{Areas}
use Rattle.study.specs.declared.Studied.{Studied}
use Rattle.study.specs.Study.{Ending as StudyEnding, cause, studied}
use Rattle.study.specs.StudyRight.{LastRun}
use Rattle.decision.specs.declared.Decision.{Decision}
use Rattle.decision.specs.Deciding.{of_study, Ending, ending, reading, decided, front, area_after}
use Rattle.decision.specs.DecisionRight.{outcome_of, Last, Decides}
use Rattle.decision.specs.Private.Steps.{ReadUsable, Refusing, Studying, ReadDecides}
use Rattle.decision.proofs.DecisionRight.{passes, few_lines, decision_right}

-- ---- what is read is usable, and studied

-- A formula at the front of the tables.
module _ {result : Result} {u e v c : ℕ} {K : List ℕ} {L : List ℤ} (f : Front result u e v c K L) (settings : List ℕ) (found : Areas) where
  same_sizes : (u ≡ length f.formula.kinds) × (e ≡ length f.formula.literals)
  same_sizes =
      (sym (length-take-le u K f.kinds_there) ∙ ap length f.kinds_front, sym (length-take-le e L f.literals_there) ∙ ap length f.literals_front)

  decided_front : {d : Decision} {exit : Areas} (s : Studying u e v c (take u K) (take e L) settings found d exit) → ending d exit ≡ decided result settings found
  decided_front {d} {exit} s =
      (λ i. ending (s.decision_so i) exit)
      ∙ ap (λ (x : StudyEnding). ending (of_study u e v c x.result) x.areas_left) s.studies.studied_so
      ∙ (λ i.
      ending
      (of_study (same_sizes.0 i) (same_sizes.1 i) (f.variables_so i) (f.clauses_so i) (studied (f.kinds_front i) (f.literals_front i) settings found).result)
      (studied (f.kinds_front i) (f.literals_front i) settings found).areas_left)
      ∙ ap (λ (x : Result). decided x settings found) (sym f.whole)

  last_front : {d : Decision} {exit : Areas} (s : Studying u e v c (take u K) (take e L) settings found d exit) (r : Read) → result ≡ taken r
      → cause r.kinds r.literals settings found ≡ 0 → Last r settings d exit
  last_front {d} {exit} s r is none =
      let same : f.formula ≡ r = cc f.whole in
      let on_kinds = f.kinds_front ∙ ap (λ (x : Read). x.kinds) same in
      let on_literals = f.literals_front ∙ ap (λ (x : Read). x.literals) same in
      let no_cause : cause (take u K) (take e L) settings found ≡ 0 = (λ i. cause (on_kinds i) (on_literals i) settings found) ∙ none in
      let run = s.studies.last no_cause in
      let as_decided : s.result ≡ outcome_of d s.result.setting = sym (ap (λ (x : Decision). outcome_of x s.result.setting) s.decision_so) in
      record {
        place = s.result.setting;
        placed = ap (λ (x : Decision). x.setting) s.decision_so;
        run =
            subst (λ (x : Studied). LastRun r.kinds r.literals settings x exit) as_decided
            (subst (λ (l : List ℤ). LastRun r.kinds l settings s.result exit) on_literals
            (subst (λ (k : List ℕ). LastRun k (take e L) settings s.result exit) on_kinds run));
      }

-- ---- what is read, by cases

pub usable_at : {x y : Reading} (K : List ℕ) (L : List ℤ) → x ≡ y → ReadUsable x K L → ReadUsable y K L
usable_at K L is = subst (λ (r : Reading). ReadUsable r K L) is

pub refused_at : {x : Reading} {r : Refusal} (K : List ℕ) (L : List ℤ) (settings : List ℕ) {found : Areas} {d : Decision} {exit : Areas} → x ≡ Err r
    → Refusing (number r.cause) r.line found d exit → ReadDecides x K L settings found d exit
refused_at K L settings {found} {d} {exit} is = subst (λ (r : Reading). ReadDecides r K L settings found d exit) (sym is)

pub taken_at : {x : Reading} {t : Taken} (K : List ℕ) (L : List ℤ) {settings : List ℕ} {found : Areas} {d : Decision} {exit : Areas} → x ≡ Ok t
    → Studying t.unknowns t.entries t.variables t.clauses (take t.unknowns K) (take t.entries L) settings found d exit → ReadDecides x K L settings found d exit
taken_at K L {settings} {found} {d} {exit} is = subst (λ (r : Reading). ReadDecides r K L settings found d exit) (sym is)

-- ---- the two functions

module _ (form : Form) (text : Bytes) (settings : List ℕ) {K : List ℕ} {L : List ℤ} {N K' : List ℕ} {L' : List ℤ} {N' : List ℕ} {outcome : Reading}
    (so : ReadSo (reading form text (length K) (length L) (length N)) outcome K L N K' L' N') where
  abbrev result : Result
  result = reading form text (length K) (length L) (length N)

  usable_case : (x : Reading) → outcome ≡ x → ReadUsable x K' L'
  usable_case (Err r) is =
      omega (arith, few_lines (has_gates form text) text (length K) (length L) (length N) (number r.cause) r.line (read_refused so is))
  usable_case (Ok t) is =
      let f = read_taken so is in
      let p = passes (has_gates form text) text (length K) (length L) (length N) f.formula f.whole in
      record {
        kinds_there = f.kinds_there;
        literals_there = f.literals_there;
        variables_fit = omega (arith, f.variables_so, p.few_variables);
        clauses_fit = omega (arith, f.clauses_so, p.few_clauses);
      }

  pub usable_so : ReadUsable outcome K' L'
  usable_so = usable_case outcome refl

  module _ (found : Areas) {d : Decision} {exit : Areas} where
    decides_case : (x : Reading) → outcome ≡ x → ReadDecides x K' L' settings found d exit → Decides form text settings K L N found d K' L' N' exit
    decides_case (Err r) is s =
        let refusing = read_refused so is in
        record {
          decided_so = (λ i. ending (s.decision_so i) (s.unmoved i)) ∙ ap (λ (x : Result). decided x settings found) (sym refusing);
          writes_kinds = so.writes_kinds;
          writes_literals = so.writes_literals;
          writes_names = so.writes_names;
          right = decision_right form text (length K) (length L) (length N) settings found;
          last = λ formula taking. let z : ◌≡◌ {A = ℕ} 0 1 = cc (sym refusing ∙ taking) in absurd (omega arith);
        }
    decides_case (Ok t) is s =
        let f = read_taken so is in
        record {
          decided_so = decided_front f settings found s;
          writes_kinds = so.writes_kinds;
          writes_literals = so.writes_literals;
          writes_names = so.writes_names;
          right = decision_right form text (length K) (length L) (length N) settings found;
          last = last_front f settings found s;
        }

    pub decides_so : ReadDecides outcome K' L' settings found d exit → Decides form text settings K L N found d K' L' N' exit
    decides_so = decides_case outcome refl

-- ---- the front of an area

pub front_there : (n : ℕ) {end : ℕ} → end ≡ cond (ltb n work_size) n work_size → end ≤ n
front_there n on_end = omega (arith, on_end, by_test (ltb n work_size) refl)
  where
    by_test : (b : Bool) → ltb n work_size ≡ b → cond b n work_size ≤ n
    by_test true e = omega arith
    by_test false e = ltb-false n work_size e

drop_past : (l : Bytes) (k : ℕ) → length l ≤ k → drop k l ≡ []
drop_past [] zero h = refl
drop_past [] (suc k) h = refl
drop_past (x ∷ l) zero h = absurd (omega (arith, h))
drop_past (x ∷ l) (suc k) h = drop_past l k (omega (arith, h))

module _ (area : Bytes) {end : ℕ} (on_end : end ≡ cond (ltb (length area) work_size) (length area) work_size) where
  pub front_taken : take end area ≡ front area
  front_taken = ap (λ (n : ℕ). take n area) on_end ∙ by_test (ltb (length area) work_size) refl
    where
      by_test : (b : Bool) → ltb (length area) work_size ≡ b → take (cond b (length area) work_size) area ≡ front area
      by_test true e =
          let short = ltb-true (length area) work_size e in
          take_all (length area) area (omega arith) ∙ sym (take_all work_size area (omega (arith, short)))
      by_test false e = refl

  rest_kept : drop end area ≡ drop work_size area
  rest_kept = ap (λ (n : ℕ). drop n area) on_end ∙ by_test (ltb (length area) work_size) refl
    where
      by_test : (b : Bool) → ltb (length area) work_size ≡ b → drop (cond b (length area) work_size) area ≡ drop work_size area
      by_test true e =
          let short = ltb-true (length area) work_size e in
          drop_past area (length area) (omega arith) ∙ sym (drop_past area work_size (omega (arith, short)))
      by_test false e = refl

  -- The area after its front has become another part of the same length.
  module _ (part : Bytes) (same : length part ≡ length (take end area)) where
    pub front_left : part ≡ front (part ++ drop end area)
    front_left = sym (by_test (ltb (length area) work_size) refl)
      where
        by_test : (b : Bool) → ltb (length area) work_size ≡ b → front (part ++ drop end area) ≡ part
        by_test true e =
            let short = ltb-true (length area) work_size e in
            let none : drop end area ≡ [] = rest_kept ∙ drop_past area work_size (omega (arith, short)) in
            ap (λ (l : Bytes). front (part ++ l)) none
            ∙ ap front (append-nil part)
            ∙ take_all work_size part (omega (arith, same, ap length front_taken, length-take work_size area, short))
        by_test false e =
            let long = ltb-false (length area) work_size e in
            take_at part (drop end area) work_size (same ∙ ap length front_taken ∙ length-take-le work_size area long)

    pub area_so : (result : Result) (settings : List ℕ) (found : Areas) → part ≡ (decided result settings found).areas_left.work
        → part ++ drop end area ≡ area_after result settings found area
    area_so result settings found is = λ i. is i ++ rest_kept i

  -- A text in an area: the areas but for the work area as functions of it.
  module _ (form : Form) (text : Bytes) (settings : List ℕ) {K : List ℕ} {L : List ℤ} {N K' : List ℕ} {L' : List ℤ} {N' : List ℕ} {outcome : Reading}
      (so : ReadSo (reading form text (length K) (length L) (length N)) outcome K L N K' L' N') (found exit : Bytes → Areas)
      (on_work : (w : Bytes) → (exit w).work ≡ w) {d : Decision} (part : Bytes) (same : length part ≡ length (take end area)) where
    pub within_so : ReadDecides outcome K' L' settings (found (take end area)) d (exit part)
        → Decides form text settings K L N (found (front area)) d K' L' N' (exit (front (part ++ drop end area)))
        × (part ++ drop end area ≡ area_after (reading form text (length K) (length L) (length N)) settings (found (front area)) area)
    within_so s =
        let decides = decides_so form text settings so (found (take end area)) s in
        let found_front = subst (λ (w : Bytes). Decides form text settings K L N (found w) d K' L' N' (exit part)) front_taken decides in
        let is_work = sym (on_work part) ∙ ap (λ (x : Ending). x.areas_left.work) found_front.decided_so in (
          subst (λ (w : Bytes). Decides form text settings K L N (found (front area)) d K' L' N' (exit w)) (front_left part same) found_front,
          area_so part same (reading form text (length K) (length L) (length N)) settings (found (front area)) is_work,
        )

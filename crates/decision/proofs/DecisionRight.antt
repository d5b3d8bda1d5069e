-- The theorem on decisions, for every text, form, list of settings and area. Assumes nothing.
use Prim.Native.Nat.{ℕ, ◌+◌, ◌≤◌}
use native.Mathlib.Omega.{arith}
use mathlib.Core.Path.{◌≡◌, refl, sym, ap, subst, ◌∙◌}
use mathlib.Core.Logic.{◌≢◌}
use mathlib.Core.Bool.{Bool, true, false, cond, ◌&&◌, true≢false, and-eq-true_iff}
use mathlib.Core.List.{List}
use lib.Dec.{eqb, leb}
use lib.ListN.{length}
use borrow.Author.Tests.{ne_eqb}
use Rattle.formula.specs.Formula.{max_unknowns, max_entries}
use Rattle.formula.specs.Meaning.{verdict}
use Rattle.lines.specs.Lines.{Bytes, lines}
use Rattle.named.specs.Names.{In}
use Rattle.text.specs.declared.Form.{Form}
use Rattle.text.specs.Reading.{max_bytes, lent_well, after_comments, stopped, scan, Read, Result, taken, refused, result_of, read, read_gates, read_as}
use Rattle.text.specs.Form.{has_gates}
use Rattle.text.specs.GatesRight.{CircuitIs}
use Rattle.text.proofs.TextLaws.{Results, Passes, read_passes, refused_line, gates_refused_line}
use Rattle.text.proofs.GatesPass.{GatesResults, gates_pass}
use Rattle.text.proofs.GatesRight.{gates_right}
use Rattle.text.proofs.CausesRight.{among_text}
use Rattle.engine.specs.declared.run.Answer.{Answer}
use Rattle.engine.specs.declared.run.Answer.TheVariants.{False, True, Spent, Refused}
use Rattle.engine.specs.Outcome.{Areas, refusal}
use Rattle.study.specs.Study.{settings_of, ending, cause, in_turn, studied}
use Rattle.study.proofs.StudyRight.{study_right}
use Rattle.decision.specs.Deciding.{reading, decided}
use Rattle.decision.specs.DecisionRight.{Value, causes_of, DecisionRight}
use Rattle.decision.proofs.StudyLaws.{study_unspent}

-- ---- a reading with tables of any lengths

module _ (gates : Bool) (text : Bytes) (k l m : ℕ) where
  -- What is taken is taken with tables of 01's lengths.
  pub own_lengths : (r : Read) → result_of (scan gates text k l m) ≡ taken r → read_as gates text ≡ taken r
  unfolding scan
  own_lengths r e = by_test (lent_well text k l m) refl e
    where
      by_test : (b : Bool) → lent_well text k l m ≡ b → result_of (cond b (after_comments gates 1 (lines text)) (stopped 9 0)) ≡ taken r
          → result_of (cond (lent_well text max_unknowns max_entries max_unknowns) (after_comments gates 1 (lines text)) (stopped 9 0)) ≡ taken r
      by_test true well e =
          let last = (and-eq-true_iff (leb (length text) max_bytes && eqb k max_unknowns && eqb l max_entries) (eqb m max_unknowns)).0 well in
          let third = (and-eq-true_iff (leb (length text) max_bytes && eqb k max_unknowns) (eqb l max_entries)).0 last.0 in
          let second = (and-eq-true_iff (leb (length text) max_bytes) (eqb k max_unknowns)).0 third.0 in
          ap (λ (b : Bool). result_of (cond (b && true && true && true) (after_comments gates 1 (lines text)) (stopped 9 0))) second.0 ∙ e
      by_test false well e = let z : ◌≡◌ {A = ℕ} 0 1 = cc e in absurd (omega arith)

pub passes : (gates : Bool) (text : Bytes) (k l m : ℕ) (r : Read) → result_of (scan gates text k l m) ≡ taken r → Passes r
unfolding read read_gates
passes false text k l m r e = subst (Results Passes) e (read_passes text k l m)
passes true text k l m r e = (subst GatesResults e (gates_pass text k l m)).passes

pub few_lines : (gates : Bool) (text : Bytes) (k l m n line : ℕ) → result_of (scan gates text k l m) ≡ refused n line → line ≤ 2 + max_bytes
unfolding read read_gates
few_lines false text k l m n line e = refused_line text k l m n line e
few_lines true text k l m n line e = gates_refused_line text k l m n line e

known : (gates : Bool) (text : Bytes) (k l m n line : ℕ) → result_of (scan gates text k l m) ≡ refused n line → In n (causes_of gates)
unfolding read read_gates
known false text k l m n line e = among_text n (subst (Results Passes) e (read_passes text k l m))
known true text k l m n line e = subst GatesResults e (gates_pass text k l m)

circuit : (gates : Bool) (text : Bytes) (r : Read) (value : Bool) → read_as gates text ≡ taken r → verdict r.kinds r.literals ≡ value
    → gates ≡ true → CircuitIs text value
unfolding read_gates
circuit false text r value e is told = absurd (true≢false (sym told))
circuit true text r value e is told = λ g. sym (gates_right text r e g) ∙ is

-- ---- the theorem

module _ (form : Form) (text : Bytes) (k l m : ℕ) (settings : List ℕ) (found : Areas) where
  abbrev result : Result
  result = reading form text k l m

  value : (r : Read) → result ≡ taken r → (b : Bool) → verdict r.kinds r.literals ≡ b → Value form text b
  value r e b is =
      let own = own_lengths (has_gates form text) text k l m r e in
      record { formula = r; read_so = own; formula_is = is; circuit_is = circuit (has_gates form text) text r b own is }

  by_reading : {P : Type 0} → ((r : Read) → result ≡ taken r → P) → ((n line : ℕ) → result ≡ refused n line → P) → P
  by_reading {P} when_taken when_refused = go result refl
    where
      go : (x : Result) → result ≡ x → P
      go (taken r) e = when_taken r e
      go (refused n line) e = when_refused n line e

  abbrev answer : Answer
  answer = (decided result settings found).decision.answer

  answer_taken : (r : Read) → result ≡ taken r → answer ≡ (studied r.kinds r.literals settings found).result.outcome.answer
  answer_taken r e = ap (λ (x : Result). (decided x settings found).decision.answer) e

  answer_refused : (n line : ℕ) → result ≡ refused n line → answer ≡ Refused n
  answer_refused n line e = ap (λ (x : Result). (decided x settings found).decision.answer) e

  refused_study : (r : Read) → result ≡ taken r → cause r.kinds r.literals settings found ≢ 0
      → answer ≡ Refused (cause r.kinds r.literals settings found)
  unfolding studied
  refused_study r e applies =
      let c = cause r.kinds r.literals settings found in
      answer_taken r e
      ∙ ap (λ (b : Bool). (cond b (in_turn r.kinds r.literals (settings_of settings) 0 found) (ending (refusal c) 0 found)).result.outcome.answer) (ne_eqb c 0 applies)

  pub decision_right : DecisionRight form text k l m settings found
  decision_right =
      record {
        only_true =
            λ is.
            by_reading (λ r e. value r e true ((study_right r.kinds r.literals settings found).only_true (sym (answer_taken r e) ∙ is)))
            (λ n line e. let told : Refused n ≡ True = sym (answer_refused n line e) ∙ is in let z : ◌≡◌ {A = ℕ} 0 1 = cc told in absurd (omega arith));
        only_false =
            λ is.
            by_reading (λ r e. value r e false ((study_right r.kinds r.literals settings found).only_false (sym (answer_taken r e) ∙ is)))
            (λ n line e. let told : Refused n ≡ False = sym (answer_refused n line e) ∙ is in let z : ◌≡◌ {A = ℕ} 0 1 = cc told in absurd (omega arith));
        of_text = λ n line e. (ap (λ (x : Result). (decided x settings found).decision) e, known (has_gates form text) text k l m n line e);
        of_study = refused_study;
        answered =
            λ r e none. let told = (study_right r.kinds r.literals settings found).answered none in (told.0, answer_taken r e ∙ told.1);
        never_spent =
            λ many is.
            by_reading (λ r e. study_unspent r.kinds r.literals settings found many (sym (answer_taken r e) ∙ is))
            (λ n line e. let told : Refused n ≡ Spent = sym (answer_refused n line e) ∙ is in let z : ◌≡◌ {A = ℕ} 0 1 = cc told in omega arith);
        area =
            λ r e none.
            ap (λ (x : Result). (decided x settings found).areas_left.work) e ∙ (study_right r.kinds r.literals settings found).area none;
      }

-- What the printed line says, for every text and file. Assumes nothing.
use Prim.Native.Nat.{ℕ, zero, suc, ◌+◌, ◌≤◌}
use Rattle.std.specs.Prelude.{Result as Outcome, Ok, Err}
use native.Mathlib.Omega.{arith}
use mathlib.Core.Path.{◌≡◌, refl, sym, ap, ap₂, subst, ◌∙◌}
use mathlib.Core.Bool.{Bool, true, false, cond, not, ◌&&◌, ◌||◌, true≢false}
use mathlib.Core.List.{List}
use mathlib.Core.Logic.{◌⊎◌, inl, inr}
use lib.Dec.{eqb, ltb}
use lib.IntN.{ℤ}
use lib.ListN.{length, get_or, replicate}
use borrow.Author.Tests.{eqb-true, eq-eqb}
use Rattle.formula.specs.Formula.{max_unknowns, max_entries, work_size}
use Rattle.formula.specs.Meaning.{verdict, bit}
use Rattle.formula.specs.Causes as Causes
use Rattle.cause.specs.declared.Cause.{Cause}
use Rattle.cause.specs.declared.Cause.TheVariants.{Kinds, Literals, Beyond}
use Rattle.cause.specs.Cause.{number, refused_if, told as told_of_answer}
use Rattle.cause.proofs.Numbers.{told_unless}
use Rattle.formula.specs.declared.Formula.{Formula}
use Rattle.rows.specs.Table.{room, table_fits}
use Rattle.rows.specs.Stray.{stray_rows}
use Rattle.judge.specs.declared.Judgement.{Judgement}
use Rattle.judge.specs.Judge.{other_claim, width, cause, borne_out, answer, outcome}
use Rattle.judge.proofs.Causes.{known_cause}
use Rattle.judge.proofs.Verdict.{accepted_is_verdict}
use Rattle.text.specs.Reading.{max_bytes, Result, taken, refused, read_gates, text_read, read_as}
use Rattle.text.specs.declared.Form.{Form}
use Rattle.text.specs.Form.{has_gates, form_read}
use Rattle.text.specs.GatesRight.{CircuitIs}
use Rattle.text.proofs.TextLaws.{Results, Passes, read_passes}
use Rattle.text.proofs.GatesRight.{gates_right}
use Rattle.text.proofs.ReadAsLaws.{reading_number, reading_line}
use Rattle.witness.specs.File.{stands, end_of, record_of, bad_claim, bad_counts, file_cause}
use Rattle.report.specs.Report.{ascii, pair_line, refusal_line}
use Rattle.report.proofs.Lengths.{refusal_most}
use Rattle.judgement.specs.declared.Finding.{Finding}
use Rattle.judgement.specs.declared.Finding.TheVariants.{NotBorneOut, Accepted, OtherFormula, Refused}
use Rattle.judgement.specs.Finding.{unjudged, judged, claimed_rows, on_claim, of_another, on_record, on_formula, on_text, finding_of, accepted_line, line_of, printed_of}
use Rattle.judgement.proofs.NumberLaws.{numbers_so}
use Rattle.judgement.specs.JudgementRight.{Has, IsVerdict, FoundRight, FindingRight, Prints, Differs, Other, Refusal, LineRight, JudgementRight}

-- The numbers of causes.
formula_cause_small : (a b c : Bool) (f : Formula) → Causes.number (refused_if a Kinds (refused_if b Literals (refused_if c Beyond (Ok f)))) ≤ 18
formula_cause_small true b c f = omega arith
formula_cause_small false true c f = omega arith
formula_cause_small false false true f = omega arith
formula_cause_small false false false f = omega arith

judge_chain_small : (n : ℕ) → n ≤ 18 → (a b c d e : Bool) → cond a (cond b 4 (cond c 5 (cond d 7 (cond e 8 0)))) n ≤ 18
judge_chain_small n few false b c d e = omega arith
judge_chain_small n few true true c d e = omega arith
judge_chain_small n few true false true d e = omega arith
judge_chain_small n few true false false true e = omega arith
judge_chain_small n few true false false false true = omega arith
judge_chain_small n few true false false false false = omega arith

judge_cause_small : (kinds : List ℕ) (literals : List ℤ) (claim : ℕ) (rows : List ℕ) (count : ℕ) (work : List ℕ)
    → cause kinds literals claim rows count work ≤ 18
unfolding cause Causes.checked
judge_cause_small kinds literals claim rows count work =
    judge_chain_small (Causes.number (Causes.checked kinds literals))
    (formula_cause_small (Causes.cause_1 kinds) (Causes.cause_2 literals) (Causes.cause_3 (length kinds) literals) (Causes.sizes kinds literals))
    (eqb (Causes.number (Causes.checked kinds literals)) 0) (not (table_fits rows)) (not (eqb (length work) work_size))
    (other_claim claim || ltb (room rows) count) (stray_rows (width kinds claim) count rows)

file_chain_small : (a b c d e : Bool) → cond a 18 (cond b 17 (cond c (cond d 7 (cond e 4 0)) 18)) ≤ 18
file_chain_small true b c d e = omega arith
file_chain_small false true c d e = omega arith
file_chain_small false false false d e = omega arith
file_chain_small false false true true e = omega arith
file_chain_small false false true false true = omega arith
file_chain_small false false true false false = omega arith

file_cause_small : (f : List ℕ) → file_cause f ≤ 18
unfolding file_cause
file_cause_small f =
    file_chain_small (eqb (length f) 0) (ltb 31 (get_or f 0 0)) (eqb (length f) (end_of f)) (bad_claim (record_of f)) (bad_counts (record_of f))

-- A file of another formula.
other_by : (sizes n c : Bool) → (sizes && not (n && c)) ≡ true → (sizes ≡ true) × ((n && c) ≡ true → ⊥)
other_by true true true e = absurd (true≢false (sym e))
other_by true true false e = (refl, λ f. true≢false (sym f))
other_by true false c e = (refl, λ f. true≢false (sym f))
other_by false n c e = absurd (true≢false (sym e))

-- What a finding says of a formula and the file.
record OtherSays (unknowns clauses : ℕ) (f : List ℕ) : Type 0 where
  file_taken : file_cause f ≡ 0
  has_sizes : stands 1 (record_of f).map ≡ true
  differs : ((record_of f).unknowns ≡ unknowns) × ((record_of f).clauses ≡ clauses) → ⊥

record AcceptedSays (kinds : List ℕ) (literals : List ℤ) (f : List ℕ) (claim : ℕ) : Type 0 where
  is_verdict : bit (verdict kinds literals) ≡ claim
  its_own : claim ≡ (record_of f).claim

abbrev Says : List ℕ → List ℤ → ℕ → List ℕ → Finding → Type 0
Says kinds literals clauses f NotBorneOut = Unit {0}
Says kinds literals clauses f (Accepted claim) = AcceptedSays kinds literals f claim
Says kinds literals clauses f OtherFormula = OtherSays (length kinds) clauses f
Says kinds literals clauses f (Refused n line) = (n ≤ 18) × (line ≡ 0)

module _ (kinds : List ℕ) (literals : List ℤ) (clauses : ℕ) (f work : List ℕ) where
  judged_says : (claim : ℕ) (j : Outcome Judgement Cause) → claim ≡ (record_of f).claim → (j ≡ Ok Judgement.Accepted → bit (verdict kinds literals) ≡ claim)
      → ((c : Cause) → j ≡ Err c → number c ≤ 18) → Says kinds literals clauses f (judged claim j)
  judged_says claim (Ok Judgement.NotBorneOut) own right few = tt
  judged_says claim (Ok Judgement.Accepted) own right few = record { is_verdict = right refl; its_own = own }
  judged_says claim (Err c) own right few = (few c refl, refl)

  outcome_few : (claim : ℕ) (rows : List ℕ) (c : Cause) → outcome kinds literals claim rows (room rows) work ≡ Err c → number c ≤ 18
  unfolding outcome
  outcome_few claim rows c e =
      let table_cause = cause kinds literals claim rows (room rows) work in
      let told : table_cause ≡ number c =
      sym (told_unless table_cause (answer (borne_out kinds literals claim rows (room rows))) (known_cause kinds literals claim rows (room rows) work))
      ∙ ap told_of_answer e in
      subst (λ (m : ℕ). m ≤ 18) told (judge_cause_small kinds literals claim rows (room rows) work)

  claim_says : (claim : ℕ) → claim ≡ (record_of f).claim → Says kinds literals clauses f (on_claim kinds literals f claim work).finding
  unfolding on_claim
  claim_says claim own =
      let rows = claimed_rows f claim in
      judged_says claim (outcome kinds literals claim rows (room rows) work) own (accepted_is_verdict kinds literals claim rows (room rows) work) (outcome_few claim rows)

  other_says : file_cause f ≡ 0 → of_another (record_of f) (length kinds) clauses ≡ true → OtherSays (length kinds) clauses f
  unfolding of_another
  other_says none e =
      let r = record_of f in
      let by = other_by (stands 1 r.map) (eqb r.unknowns (length kinds)) (eqb r.clauses clauses) e in
      record {
        file_taken = none;
        has_sizes = by.0;
        differs = λ same. by.1 (ap₂ (λ (a b : Bool). a && b) (eq-eqb r.unknowns (length kinds) same.0) (eq-eqb r.clauses clauses same.1));
      }

  record_says : file_cause f ≡ 0 → Says kinds literals clauses f (on_record kinds literals clauses f (record_of f) work).finding
  unfolding on_record
  record_says none = go (of_another (record_of f) (length kinds) clauses) refl (stands 0 (record_of f).map)
    where
      go : (other : Bool) → of_another (record_of f) (length kinds) clauses ≡ other → (claims : Bool)
          → Says kinds literals clauses f (cond other (unjudged OtherFormula work) (cond claims (on_claim kinds literals f (record_of f).claim work) (unjudged (Refused 7 0) work))).finding
      go true e claims = other_says none e
      go false e true = claim_says (record_of f).claim refl
      go false e false = (omega arith, refl)

  formula_says : Says kinds literals clauses f (on_formula kinds literals clauses f work).finding
  unfolding on_formula
  formula_says = go (eqb (file_cause f) 0) refl
    where
      go : (b : Bool) → eqb (file_cause f) 0 ≡ b
          → Says kinds literals clauses f (cond b (on_record kinds literals clauses f (record_of f) work) (unjudged (Refused (file_cause f) 0) work)).finding
      go true e = record_says (eqb-true (file_cause f) 0 e)
      go false e = (file_cause_small f, refl)

-- What a finding says of a reading.
abbrev Told : Result → List ℕ → Finding → Type 0
Told (taken s) f x = Says s.kinds s.literals s.clauses f x
Told (refused n line) f x = x ≡ Refused n line

told : (r : Result) (f work : List ℕ) → Told r f (on_text r f work).finding
told (taken s) f work = formula_says s.kinds s.literals s.clauses f work
told (refused n line) f work = refl

-- So of a text that is read so; its causes have numbers up to `most`.
module _ (reading : Result) (f : List ℕ) (most : ℕ) (some : 18 ≤ most) (bad : (n line : ℕ) → reading ≡ refused n line → n ≤ most) where
  -- With any work area.
  module _ (work : List ℕ) where
    refused_few : (r : Result) → reading ≡ r → (n line : ℕ) → Told r f (Refused n line) → n ≤ most
    refused_few (taken s) e n line t = omega (arith, some, t.0)
    refused_few (refused m at) e n line t =
        let same : n ≡ m = cc in
        omega (arith, same, bad m at e)

    accepted_told : (r : Result) (claim : ℕ) → Told r f (Accepted claim) → (claim ≡ (record_of f).claim) × IsVerdict claim r
    accepted_told (taken s) claim t = (t.its_own, t.is_verdict)
    accepted_told (refused n line) claim t = let z : ◌≡◌ {A = ℕ} 0 1 = cc in absurd (omega arith)

    told_of : (x : Finding) → finding_of reading f work ≡ x → Told reading f x
    unfolding finding_of
    told_of x e = subst (Told reading f) e (told reading f work)

    found_right : FoundRight most reading f work
    found_right =
        record {
          numbers_so = numbers_so reading f work;
          its_own = λ claim e. (accepted_told reading claim (told_of (Accepted claim) e)).0;
          only_verdict = λ claim e. (accepted_told reading claim (told_of (Accepted claim) e)).1;
          few = λ n line e. refused_few reading refl n line (told_of (Refused n line) e);
        }

pub finding_right : (text f work : List ℕ) → FindingRight text f work
finding_right text f work =
    found_right (text_read text) f 18 (omega arith)
    (λ n line e. omega (arith, (subst (Results Passes) e (read_passes text max_unknowns max_entries max_unknowns)).to_14)) work

bit_1 : (v : Bool) (n : ℕ) → bit v ≡ suc n → v ≡ true
bit_1 true n e = refl
bit_1 false n e = absurd (omega arith)

bit_0 : (v : Bool) → bit v ≡ 0 → v ≡ false
bit_0 true e = absurd (omega arith)
bit_0 false e = refl

not_2 : (v : Bool) (n : ℕ) → bit v ≡ suc (suc n) → ⊥
not_2 true n e = omega arith
not_2 false n e = omega arith

module _ (reading : Result) (f : List ℕ) (bad : (n line : ℕ) → reading ≡ refused n line → (n ≤ 20) × (line ≤ 2 + max_bytes)) where
  -- By the line that is printed.
  module _ (line : List ℕ) (so : printed_of reading f ≡ line) where
    with_line : (form : Prints reading f "accepted 1\n" ⊎ Prints reading f "accepted 0\n" ⊎ Prints reading f "not borne out\n" ⊎ Prints reading f "not of this formula\n" ⊎ Refusal reading f)
        → length line ≤ 64 → (line ≡ ascii "accepted 1\n" → Has true reading) → (line ≡ ascii "accepted 0\n" → Has false reading)
        → (line ≡ ascii "not of this formula\n" → Other reading f) → LineRight reading f
    with_line form few is_true is_false is_other =
        record {
          one_form = form;
          short = subst (λ (bytes : List ℕ). length bytes ≤ 64) (sym so) few;
          only_true = λ b. is_true (sym so ∙ b);
          only_false = λ b. is_false (sym so ∙ b);
          other = λ b. is_other (sym so ∙ b);
        }

  not_borne_out : printed_of reading f ≡ ascii "not borne out\n" → LineRight reading f
  not_borne_out so =
      with_line (ascii "not borne out\n") so (inr (inr (inl so))) (omega arith) (λ b. let z : ◌≡◌ {A = ℕ} 110 97 = cc in absurd (omega arith))
      (λ b. let z : ◌≡◌ {A = ℕ} 110 97 = cc in absurd (omega arith)) (λ b. let z : ◌≡◌ {A = ℕ} 98 111 = cc in absurd (omega arith))

  accepted_true : printed_of reading f ≡ ascii "accepted 1\n" → Has true reading → LineRight reading f
  accepted_true so has =
      with_line (ascii "accepted 1\n") so (inl so) (omega arith) (λ b. has) (λ b. let z : ◌≡◌ {A = ℕ} 49 48 = cc in absurd (omega arith))
      (λ b. let z : ◌≡◌ {A = ℕ} 97 110 = cc in absurd (omega arith))

  accepted_false : printed_of reading f ≡ ascii "accepted 0\n" → Has false reading → LineRight reading f
  accepted_false so has =
      with_line (ascii "accepted 0\n") so (inr (inl so)) (omega arith) (λ b. let z : ◌≡◌ {A = ℕ} 48 49 = cc in absurd (omega arith)) (λ b. has)
      (λ b. let z : ◌≡◌ {A = ℕ} 97 110 = cc in absurd (omega arith))

  other_formula : printed_of reading f ≡ ascii "not of this formula\n" → Other reading f → LineRight reading f
  other_formula so other =
      with_line (ascii "not of this formula\n") so (inr (inr (inr (inl so)))) (omega arith) (λ b. let z : ◌≡◌ {A = ℕ} 110 97 = cc in absurd (omega arith))
      (λ b. let z : ◌≡◌ {A = ℕ} 110 97 = cc in absurd (omega arith)) (λ b. other)

  refusal : (n line : ℕ) → printed_of reading f ≡ refusal_line n line → n ≤ 20 → line ≤ 2 + max_bytes → (reading ≡ refused n line) ⊎ (line ≡ 0)
      → LineRight reading f
  unfolding refusal_line pair_line
  refusal n line so few short whose =
      with_line (refusal_line n line) so (inr (inr (inr (inr (record { number = n; line = line; printed_so = so; whose = whose })))))
      (omega (arith, (refusal_most n line (omega (arith, few)) (omega (arith, short))).most)) (λ b. let z : ◌≡◌ {A = ℕ} 99 97 = cc in absurd (omega arith))
      (λ b. let z : ◌≡◌ {A = ℕ} 99 97 = cc in absurd (omega arith)) (λ b. let z : ◌≡◌ {A = ℕ} 99 110 = cc in absurd (omega arith))

  accepted_as : (r : Result) → reading ≡ r → (claim : ℕ) → printed_of reading f ≡ accepted_line claim → Told r f (Accepted claim) → LineRight reading f
  unfolding accepted_line
  accepted_as (taken s) e zero so t = accepted_false so (subst (Has false) (sym e) (bit_0 (verdict s.kinds s.literals) t.is_verdict))
  accepted_as (taken s) e (suc zero) so t = accepted_true so (subst (Has true) (sym e) (bit_1 (verdict s.kinds s.literals) 0 t.is_verdict))
  accepted_as (taken s) e (suc (suc n)) so t = absurd (not_2 (verdict s.kinds s.literals) n t.is_verdict)
  accepted_as (refused n line) e claim so t = let z : ◌≡◌ {A = ℕ} 0 1 = cc in absurd (omega arith)

  refused_as : (r : Result) → reading ≡ r → (n line : ℕ) → printed_of reading f ≡ refusal_line n line → Told r f (Refused n line) → LineRight reading f
  refused_as (taken s) e n line so t = refusal n line so (omega (arith, t.0)) (omega (arith, t.1)) (inr t.1)
  refused_as (refused m at) e n line so t =
      let same_number : n ≡ m = cc in
      let same_line : line ≡ at = cc in
      let known = bad m at e in
      refusal n line so (omega (arith, same_number, known.0)) (omega (arith, same_line, known.1))
      (inl (e ∙ ap₂ refused (sym same_number) (sym same_line)))

  other_as : (r : Result) → reading ≡ r → printed_of reading f ≡ ascii "not of this formula\n" → Told r f OtherFormula → LineRight reading f
  other_as (taken s) e so t =
      other_formula so (record { file_taken = t.file_taken; has_sizes = t.has_sizes; differs = subst (Differs f) (sym e) t.differs })
  other_as (refused n line) e so t = let z : ◌≡◌ {A = ℕ} 0 1 = cc in absurd (omega arith)

  by_finding : (r : Result) → reading ≡ r → (x : Finding) → printed_of reading f ≡ line_of x → Told r f x → LineRight reading f
  by_finding r e NotBorneOut so t = not_borne_out so
  by_finding r e (Accepted claim) so t = accepted_as r e claim so t
  by_finding r e OtherFormula so t = other_as r e so t
  by_finding r e (Refused n line) so t = refused_as r e n line so t

  abbrev zeros : List ℕ
  zeros = replicate work_size 0

  printed_so : printed_of reading f ≡ line_of (on_text reading f zeros).finding
  unfolding printed_of finding_of
  printed_so = refl

  line_right : LineRight reading f
  line_right = by_finding reading refl (on_text reading f zeros).finding printed_so (told reading f zeros)

of_form : (gates : Bool) (text : List ℕ) (n line : ℕ) → read_as gates text ≡ refused n line → (n ≤ 20) × (line ≤ 2 + max_bytes)
of_form gates text n line e = (reading_number gates text n line e, reading_line gates text n line e)

-- The verdict of what was read of a gate list is the circuit's value.
circuit_is : (text : List ℕ) (gates value : Bool) (r : Result) → gates ≡ true → read_as gates text ≡ r → Has value r → CircuitIs text value
unfolding read_gates
circuit_is text gates value (taken s) is e v g = sym (gates_right text s (subst (λ (b : Bool). read_as b text ≡ taken s) is e) g) ∙ v
circuit_is text gates value (refused n line) is e v g = absurd v

pub judgement_right : (form : Form) (text f : List ℕ) → JudgementRight form text f
judgement_right form text f =
    let gates = has_gates form text in
    let right = line_right (form_read form text) f (of_form gates text) in
    record {
      line = right;
      found = found_right (form_read form text) f 20 (omega arith) (reading_number gates text);
      only_true = λ is b. circuit_is text gates true (form_read form text) is refl (right.only_true b);
      only_false = λ is b. circuit_is text gates false (form_read form text) is refl (right.only_false b);
    }

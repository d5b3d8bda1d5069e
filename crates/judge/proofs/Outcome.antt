-- What the judge makes of the search's outcome is its own outcome, and so for the work area.
-- Assumes nothing.
use Prim.Native.Nat.{ℕ, zero, suc}
use Rattle.std.specs.Prelude.{Result, Ok, Err}
use mathlib.Core.Path.{◌≡◌, refl, sym, ap, ◌∙◌}
use mathlib.Core.Bool.{Bool, true, false, cond, true≢false}
use mathlib.Core.List.{List, []}
use mathlib.Core.Option.{Option, none, some}
use lib.Dec.{eqb}
use lib.IntN.{ℤ}
use lib.ListN.{length, replicate}
use borrow.Author.Tests.{eqb-true, eq-eqb}
use Rattle.cause.specs.declared.Cause.{Cause}
use Rattle.cause.specs.Cause.{caused, told, unless_cause}
use Rattle.formula.specs.Formula.{work_size, prefix, clauses}
use Rattle.formula.specs.Meaning.{matrix, bit}
use Rattle.preference.specs.Preference.{prefer}
use Rattle.expansion.specs.Play.{Row}
use Rattle.expansion.specs.Judge.{is_none, accepted}
use Rattle.engine.specs.Search as search
use Rattle.engine.specs.declared.search.Search.{Search}
use Rattle.judge.specs.declared.Judgement.{Judgement}
use Rattle.judge.specs.declared.Judgement.TheVariants.{NotBorneOut, Accepted}
use Rattle.judge.specs.Judge.{other_claim, width, cause, borne_out, answer, outcome, work_after, number, outcome_number}
use Rattle.judge.proofs.Preferences.{is_none_any_preferences}
use Rattle.judge.proofs.Causes.{counted, same_cause, no_cause, known_cause}

-- What the code answers after each outcome of the search.
abbrev pub judgement_of : Result Search Cause → Result Judgement Cause
judgement_of (Ok Search.Found) = Ok NotBorneOut
judgement_of (Ok Search.NoModel) = Ok Accepted
judgement_of (Err c) = Err c

judgement_of_answer : (o : Option (List Row)) → judgement_of (Ok (search.answer o)) ≡ Ok (answer (is_none o))
judgement_of_answer none = refl
judgement_of_answer (some yielded) = refl

module _ (kinds : List ℕ) (literals : List ℤ) (rows : List ℕ) (count : ℕ) where
  -- The search finds no model exactly if the claim is borne out.
  found_none : (claim : ℕ) → other_claim claim ≡ false
      → is_none (search.found kinds literals [] rows (counted claim rows count) (eqb claim 1)) ≡ borne_out kinds literals claim rows count
  unfolding search.found search.lent_rows borne_out accepted width
  found_none zero e = is_none_any_preferences (prefer []) (λ i. false) _ (prefix kinds) (matrix (clauses literals)) _
  found_none (suc zero) e = is_none_any_preferences (prefer []) (λ i. false) _ (prefix kinds) (matrix (clauses literals)) _
  found_none (suc (suc claim)) e = absurd (true≢false e)

-- The same of a whole outcome, with its cause.
judgement_by_cause : (cause : ℕ) (o : Option (List Row)) (borne none? : Bool) → eqb cause 0 ≡ none? → (cause ≡ 0 → is_none o ≡ borne)
    → judgement_of (cond none? (Ok (search.answer o)) (Err (caused cause))) ≡ cond none? (Ok (answer borne)) (Err (caused cause))
judgement_by_cause cause o borne true e same = judgement_of_answer o ∙ ap (λ (b : Bool). Ok (answer b)) (same (eqb-true cause 0 e))
judgement_by_cause cause o borne false e same = refl

number_by_cause : (cause : ℕ) (borne none? : Bool) → told {A = ℕ} (cond none? (Ok 0) (Err (caused cause))) ≡ cause
    → number (cond none? (Ok (answer borne)) (Err (caused cause))) ≡ cond none? (bit borne) cause
number_by_cause cause true true known = refl
number_by_cause cause false true known = refl
number_by_cause cause borne false known = known

-- The one outcome after which the code clears the work area.
abbrev pub is_found : Result Search Cause → Bool
is_found (Ok Search.Found) = true
is_found (Ok Search.NoModel) = false
is_found (Err c) = false

left_by_cause : (c : Cause) (o : Option (List Row)) (work : List ℕ) (none? : Bool)
    → is_found (cond none? (Ok (search.answer o)) (Err c)) ≡ false
    → cond none? (search.left o) work ≡ cond none? (replicate work_size 0) work
left_by_cause c none work true e = refl
left_by_cause c (some yielded) work true e = absurd (true≢false e)
left_by_cause c o work false e = refl

found_no_cause : (c : Cause) (o : Option (List Row)) (none? : Bool)
    → is_found (cond none? (Ok (search.answer o)) (Err c)) ≡ true → none? ≡ true
found_no_cause c o true e = refl
found_no_cause c o false e = e

module _ (kinds : List ℕ) (literals : List ℤ) (claim : ℕ) (rows : List ℕ) (count : ℕ) (work : List ℕ) where
  -- What the search answers and leaves, lent no preferences.
  abbrev pub searched : Result Search Cause
  searched = search.outcome kinds literals [] rows (counted claim rows count) (eqb claim 1) work

  abbrev searched_work : List ℕ
  searched_work = search.work_after kinds literals [] rows (counted claim rows count) (eqb claim 1) work

  abbrev found : Option (List Row)
  found = search.found kinds literals [] rows (counted claim rows count) (eqb claim 1)

  abbrev search_cause : ℕ
  search_cause = search.cause kinds literals rows (counted claim rows count) (eqb claim 1) work

  abbrev own_cause : ℕ
  own_cause = cause kinds literals claim rows count work

  same : search_cause ≡ own_cause
  same = same_cause kinds literals rows count work claim

  pub same_outcome : judgement_of searched ≡ outcome kinds literals claim rows count work
  unfolding search.outcome outcome
  same_outcome =
      ap (λ (n : ℕ). judgement_of (unless_cause n (search.answer found))) same
      ∙ judgement_by_cause own_cause found (borne_out kinds literals claim rows count) (eqb own_cause 0) refl
      (λ e. found_none kinds literals rows count claim (no_cause kinds literals claim rows count work e).1)

  pub same_number : number (outcome kinds literals claim rows count work) ≡ outcome_number kinds literals claim rows count work
  unfolding outcome outcome_number
  same_number = number_by_cause own_cause (borne_out kinds literals claim rows count) (eqb own_cause 0) (known_cause kinds literals claim rows count work)

  -- Unless a model is found, the search leaves what the judge is to leave ..
  pub same_work : is_found searched ≡ false → searched_work ≡ work_after kinds literals claim rows count work
  unfolding search.outcome search.work_after work_after
  same_work e =
      left_by_cause (caused search_cause) found work (eqb search_cause 0) e
      ∙ ap (λ (c : ℕ). cond (eqb c 0) (replicate work_size 0) work) same

  -- .. and if one is found, that is zeros.
  pub cleared_work : is_found searched ≡ true → replicate (length work) 0 ≡ work_after kinds literals claim rows count work
  unfolding search.outcome work_after
  cleared_work e =
      let none_found : own_cause ≡ 0 = sym same ∙ eqb-true search_cause 0 (found_no_cause (caused search_cause) found (eqb search_cause 0) e) in
      rw (eq-eqb own_cause 0 none_found, (no_cause kinds literals claim rows count work none_found).0)

-- Any run finds a claim with rows that the judge accepts, where it answers; and these rows have a value for each unknown of their side. So the rows of
-- its casebook, put together, are a witness for the formula. Assumes nothing.
use Prim.Native.Nat.{ℕ, zero, suc}
use mathlib.Core.Path.{◌≡◌, refl, ap, subst}
use mathlib.Core.Bool.{Bool, true, false}
use mathlib.Core.List.{List, [], ◌∷◌, ◌++◌}
use mathlib.Core.Logic.{inl, inr}
use mathlib.Core.Option.{Option, none, some, none-ne-some}
use lib.IntN.{ℤ}
use lib.ListN.{length}
use Rattle.formula.specs.Formula.{Kind, existential, universal, kind_of, prefix, clauses}
use Rattle.formula.specs.Causes.{count}
use Rattle.formula.specs.Meaning.{matrix}
use Rattle.expansion.specs.Play.{Row}
use Rattle.expansion.specs.Model.{search}
use Rattle.expansion.specs.Judge.{accepted}
use Rattle.expansion.proofs.Counting.{Sized}
use Rattle.expansion.proofs.Verdict.{search_none}
use Rattle.expansion.proofs.Judged.{accepted_exactly}
use Rattle.rounds.specs.Run.{Table, rows, Answer, is_false, is_true, spent, no_room_universal, no_room_existential, Outcome, if_fits, grown, kept, Lent}
use Rattle.rounds.specs.Run.{step_1, step_2, step_3, step_4, round_of, next, run}
use Rattle.rounds.proofs.Bounds.{row_length}
use Rattle.case_rules.specs.Restricted.{IsAccepted, restricted}
use Rattle.case_rules.specs.Casebook.{Casebook, end, gathered}
use Rattle.case_rules.specs.Evidence.{Found, Finding, RightFinding, Evidence, evidence, by_claims, joined, or_by_cases, shown_behind, shown}
use Rattle.case_rules.specs.RunStudy.{lent_at}
use Rattle.case_rules.proofs.SizedLaws.{rows_side, SizedEnds, gathered_sized}
use Rattle.case_rules.proofs.EvidenceLaws.{shown_holds}

-- ---- the rows that settle a run

-- What an answer says of the rows.
abbrev By : Answer → Lent → Outcome → Type 0
By is_true l o = search l.prefer universal l.ks l.phi (rows o.S) ≡ none
By is_false l o = search l.prefer existential l.ks l.phi (rows o.A) ≡ none
By spent l o = Unit {0}
By no_room_universal l o = Unit {0}
By no_room_existential l o = Unit {0}

module _ (l : Lent) (r : ℕ) where
  fourth : (A S : Table) (larger : Option Table) → By (step_4 r A S larger).answer l (step_4 r A S larger)
  fourth A S none = tt
  fourth A S (some more) = tt

  third : (A S : Table) (found : Option (List Row)) → search l.prefer universal l.ks l.phi (rows S) ≡ found
      → By (step_3 l r A S found).answer l (step_3 l r A S found)
  third A S none e = e
  third A S (some yielded) e = fourth A S (if_fits l.room_a (grown r (kept l r A) yielded))

  second : (A S : Table) (larger : Option Table) → By (step_2 l r A S larger).answer l (step_2 l r A S larger)
  second A S none = tt
  second A S (some more) = third A more (search l.prefer universal l.ks l.phi (rows more)) refl

  first : (A S : Table) (found : Option (List Row)) → search l.prefer existential l.ks l.phi (rows A) ≡ found
      → By (step_1 l r A S found).answer l (step_1 l r A S found)
  first A S none e = e
  first A S (some yielded) e = second A S (if_fits l.room_s (grown r S yielded))

  settled_next : (o : Outcome) (a : Answer) → By o.answer l o → By (next l r a o).answer l (next l r a o)
  unfolding round_of
  settled_next o spent s = first o.A o.S (search l.prefer existential l.ks l.phi (rows o.A)) refl
  settled_next o is_false s = s
  settled_next o is_true s = s
  settled_next o no_room_universal s = s
  settled_next o no_room_existential s = s

settled : (l : Lent) (limit : ℕ) → By (run l limit).answer l (run l limit)
unfolding run
settled l zero = tt
settled l (suc r) = settled_next l (suc r) (run l r) (run l r).answer (settled l r)

-- ---- as a finding

abbrev pub found : Bool → List Row → Found
found claim xs = record { claim = claim; rows = xs }

abbrev pub found_by : Answer → Outcome → Option Found
found_by is_true o = some (found true (rows o.S))
found_by is_false o = some (found false (rows o.A))
found_by spent o = none
found_by no_room_universal o = none
found_by no_room_existential o = none

-- ---- the rows at the ends of a evidence

-- What is found has rows with a value for each unknown of their side.
abbrev pub SizedFinding : Finding → Type 0
SizedFinding find =
    (path : List Bool) (kinds : List ℕ) (literals : List ℤ) (f : Found) → find path kinds literals ≡ some f
    → Sized (count (rows_side f.claim) (prefix kinds)) f.rows

one_empty_row : (side : Kind) → Sized (count side []) ([] ∷ [])
one_empty_row side r (inl e) = ap length e
one_empty_row side r (inr h) = absurd h

joined_sized : (k : ℕ) (kinds : List ℕ) (c d : Bool) (a b : Casebook) → SizedEnds c kinds a → SizedEnds d kinds b
    → SizedEnds (by_claims (kind_of k) c d a b).claim (k ∷ kinds) (by_claims (kind_of k) c d a b).book
joined_sized zero kinds true d a b s t = s
joined_sized zero kinds false true a b s t = t
joined_sized zero kinds false false a b s t = (s, t)
joined_sized (suc k) kinds false d a b s t = s
joined_sized (suc k) kinds true false a b s t = t
joined_sized (suc k) kinds true true a b s t = (s, t)

module _ (find : Finding) (sized : SizedFinding find) (literals : List ℤ) where
  found_sized : (path : List Bool) (kinds : List ℕ) (by_cases : Evidence) → SizedEnds by_cases.claim kinds by_cases.book
      → (o : Option Found) → find path kinds (restricted path literals) ≡ o → SizedEnds (or_by_cases o by_cases).claim kinds (or_by_cases o by_cases).book
  found_sized path kinds by_cases s none e = s
  found_sized path kinds by_cases s (some f) e = sized path kinds (restricted path literals) f e

  shown_sized_behind : (path : List Bool) (kinds : List ℕ)
      → SizedEnds (shown_behind find literals path kinds).claim kinds (shown_behind find literals path kinds).book
  shown_sized_behind path [] =
      let value = matrix (clauses (restricted path literals)) [] in
      found_sized path [] (evidence value (end ([] ∷ []))) (one_empty_row (rows_side value)) (find path [] (restricted path literals)) refl
  shown_sized_behind path (k ∷ kinds) =
      found_sized path (k ∷ kinds)
      (joined (kind_of k) (shown_behind find literals (path ++ (true ∷ [])) kinds) (shown_behind find literals (path ++ (false ∷ [])) kinds))
      (joined_sized k kinds (shown_behind find literals (path ++ (true ∷ [])) kinds).claim (shown_behind find literals (path ++ (false ∷ [])) kinds).claim
      (shown_behind find literals (path ++ (true ∷ [])) kinds).book (shown_behind find literals (path ++ (false ∷ [])) kinds).book
      (shown_sized_behind (path ++ (true ∷ [])) kinds) (shown_sized_behind (path ++ (false ∷ [])) kinds))
      (find path (k ∷ kinds) (restricted path literals)) refl

-- The rows of the evidence, put together, have a value for each unknown of their side.
pub shown_sized : (find : Finding) → RightFinding find → SizedFinding find → (kinds : List ℕ) (literals : List ℤ) → IsAccepted kinds literals
    → Sized (count (rows_side (shown find kinds literals).claim) (prefix kinds))
    (gathered (shown find kinds literals).claim kinds (shown find kinds literals).book)
unfolding shown
shown_sized find right sized kinds literals a =
    gathered_sized (shown find kinds literals).claim kinds literals (shown find kinds literals).book
    (shown_holds find right kinds literals a) (shown_sized_behind find sized literals [] kinds)

-- ---- a run's

-- What is found is accepted, and sized.
pub record Fine (kinds : List ℕ) (literals : List ℤ) (f : Found) : Type 0 where
  pub accepted_so : accepted f.claim (prefix kinds) (matrix (clauses literals)) f.rows ≡ true
  pub sized : Sized (count (rows_side f.claim) (prefix kinds)) f.rows

module _ (prefer : List Bool → ℕ → Bool) (room_a room_s clear_every limit : List Bool → ℕ) where
  abbrev pub run_finding : Finding
  run_finding path kinds literals =
      let o = run (lent_at prefer room_a room_s clear_every limit path kinds literals) (limit path) in
      found_by o.answer o

  run_fine : (path : List Bool) (kinds : List ℕ) (literals : List ℤ) (f : Found) → run_finding path kinds literals ≡ some f → Fine kinds literals f
  run_fine path kinds literals f e = go o.answer (settled l (limit path)) e
    where
      l : Lent
      l = lent_at prefer room_a room_s clear_every limit path kinds literals

      o : Outcome
      o = run l (limit path)

      go : (a : Answer) → By a l o → found_by a o ≡ some f → Fine kinds literals f
      go is_true s h =
          let same : found true (rows o.S) ≡ f = cc in
          subst (Fine kinds literals) same (record {
            accepted_so = (accepted_exactly true l.ks l.phi (rows o.S)).1 ((search_none l.prefer universal l.ks l.phi (rows o.S)).0 s);
            sized = row_length l (limit path) existential;
          })
      go is_false s h =
          let same : found false (rows o.A) ≡ f = cc in
          subst (Fine kinds literals) same (record {
            accepted_so = (accepted_exactly false l.ks l.phi (rows o.A)).1 ((search_none l.prefer existential l.ks l.phi (rows o.A)).0 s);
            sized = row_length l (limit path) universal;
          })
      go spent s h = absurd (none-ne-some f h)
      go no_room_universal s h = absurd (none-ne-some f h)
      go no_room_existential s h = absurd (none-ne-some f h)

  pub run_finding_right : RightFinding run_finding
  run_finding_right path kinds literals f a e = (run_fine path kinds literals f e).accepted_so

  pub run_finding_sized : SizedFinding run_finding
  run_finding_sized path kinds literals f e = (run_fine path kinds literals f e).sized

-- A row that a search has yielded leads the models over the same rows (`found_leads`) and over more of them (`more_led`); and where a model of a search's
-- problem first parts from a row that leads, this has the wanted value (`model_led`). Assumes nothing.
use Prim.Native.Nat.{ℕ, zero, suc, ◌+◌, ◌≤◌, ◌<◌}
use native.Mathlib.Omega.{arith}
use native.Mathlib.Nat.{zero-add, le_of_lt}
use native.Mathlib.Decide.{dec_lt}
use mathlib.Core.Path.{◌≡◌, refl, sym, ap, subst, ◌∙◌}
use mathlib.Core.Bool.{Bool, true, false, false≢true}
use mathlib.Core.List.{List, [], ◌∷◌, ◌++◌, map}
use mathlib.Core.Logic.{◌⊎◌, inl, inr, ⊎_map}
use mathlib.Core.Option.{some}
use lib.Dec.{eqb}
use lib.ListN.{length, get_or, length-map}
use borrow.Author.Tests.{eqb-true, eq-eqb}
use Rattle.formula.specs.Formula.{Kind, existential, universal, Clause}
use Rattle.formula.specs.Causes.{count}
use Rattle.formula.specs.Meaning.{matrix}
use Rattle.expansion.specs.Side.{flags, goal}
use Rattle.expansion.specs.Play.{Row, Strategy, later_values, restriction, play, part, yield}
use Rattle.expansion.specs.Copies.{Copy, copy_at, fresh, copies_at, copies_from, copies}
use Rattle.expansion.specs.Model.{strategy_of, search}
use Rattle.expansion.specs.Order.{Leads}
use Rattle.expansion.specs.Private.Memory.{LeadsModels}
use Rattle.expansion.specs.Cells.{Values}
use Rattle.expansion.proofs.Booleans.{false_if_not_true, never_both, never_unlike}
use Rattle.expansion.proofs.Membership.{In, in_map_cases, place_of_in}
use Rattle.expansion.proofs.CopyLaws.{Own, values_at}
use Rattle.expansion.proofs.FirstModel.{values_of, is_model_of_values}
use Rattle.expansion.proofs.Leading.{number, wanted}
use Rattle.expansion.proofs.LeadingPath.{first_at, later_at, play_at_own, own_within}
use Rattle.expansion.proofs.LeadingCopies.{values_of_value_of, distinct_copies}
use Rattle.expansion.proofs.LeadingFirst.{wins_each, wins_all}
use Rattle.expansion.proofs.Cuts.{Agree, Model}
use Rattle.expansion.proofs.ClauseCuts.{Every}
use Rattle.expansion.proofs.Engine.{Names, Places, problem, strategy_of_model}
use Rattle.expansion.proofs.Right.{search_right}

-- What wins over more rows wins over the rows.
pub more_led : (prefer : ℕ → Bool) (ts : List Bool) (psi : List Bool → Bool) (rows more : List Row) (known : Row)
    → ((row : Row) → In row rows → In row more) → LeadsModels prefer ts psi rows known → LeadsModels prefer ts psi more known
more_led prefer ts psi rows more known within led σ w =
    led σ (wins_all ts psi σ rows (λ row h. wins_each ts psi σ more w row (within row h)))

-- ---- the first own block: no other unknown stands before it, so the restrictions are empty there

-- All positions up to k are own.
abbrev pub InBlock : List Bool → ℕ → Type 0
InBlock ts k = (j : ℕ) → j ≤ k → Own ts j

nothing_restricted : (ts : List Bool) (k : ℕ) (row : Row) → ((j : ℕ) → j < k → Own ts j) → restriction ts k row ≡ []
nothing_restricted ts zero row own = refl
nothing_restricted [] (suc k) row own = refl
nothing_restricted (true ∷ ts) (suc k) row own = nothing_restricted ts k row (λ j l. own (suc j) (omega arith))
nothing_restricted (false ∷ ts) (suc k) row own = absurd (false≢true (own zero (omega arith)))

-- A yielded row has there the strategy's values.
part_in_block : (ts : List Bool) (vs : List Bool) (k : ℕ) → InBlock ts k → get_or (part ts vs) k false ≡ get_or vs k false
part_in_block [] vs k own = absurd (false≢true (own k (omega arith)))
part_in_block (false ∷ ts) vs k own = absurd (false≢true (own zero (omega arith)))
part_in_block (true ∷ ts) vs zero own = sym (first_at vs)
part_in_block (true ∷ ts) vs (suc k) own = part_in_block ts (later_values vs) k (λ j l. own (suc j) (omega arith)) ∙ sym (later_at vs k)

yield_in_block : (ts : List Bool) (σ : Strategy) (row : Row) (k : ℕ) → InBlock ts k → get_or (yield ts σ row) k false ≡ σ k []
yield_in_block ts σ row k own =
    part_in_block ts (play ts σ row) k own ∙ play_at_own ts σ row k (own k (omega arith)) ∙ ap (σ k) (nothing_restricted ts k row (λ j l. own j (le_of_lt l)))

-- Over rows each unknown has one copy there, numbered by its position.
module _ (ts : List Bool) (row : Row) (rows : List Row) where
  one_restriction : (k : ℕ) → ((j : ℕ) → j < k → Own ts j) → (xs : List Row) → fresh ([] ∷ []) (map (restriction ts k) xs) ≡ []
  one_restriction k own [] = refl
  one_restriction k own (x ∷ xs) = rw (nothing_restricted ts k x own) (one_restriction k own xs)

  one_copy : (k : ℕ) → ((j : ℕ) → j < k → Own ts j) → copies_at ts (row ∷ rows) k ≡ (copy_at k [] ∷ [])
  one_copy k own = rw (nothing_restricted ts k row own, one_restriction k own rows)

  -- Of the positions that are left p is the first, and k is the i-th of them.
  next_copy : (left : List Bool) (p k : ℕ) → p ≤ k → InBlock ts k →
      copies_from ts (row ∷ rows) p (true ∷ left) ≡ (copy_at p [] ∷ copies_from ts (row ∷ rows) (suc p) left)
  next_copy left p k le own = ap (λ (cs : List Copy). cs ++ copies_from ts (row ∷ rows) (suc p) left) (one_copy p (λ j l. own j (omega arith)))

  value_from : (σ : Strategy) (left : List Bool) (p i k : ℕ) → p + i ≡ k → InBlock left i → InBlock ts k →
      get_or (values_at (copies_from ts (row ∷ rows) p left) σ) i false ≡ σ k []
  value_from σ [] p i k e here own = absurd (false≢true (here i (omega arith)))
  value_from σ (false ∷ left) p i k e here own = absurd (false≢true (here zero (omega arith)))
  value_from σ (true ∷ left) p zero k e here own =
      ap (λ (cs : List Copy). get_or (values_at cs σ) zero false) (next_copy left p k (omega arith) own) ∙ ap (λ (n : ℕ). σ n []) (omega arith)
  value_from σ (true ∷ left) p (suc i) k e here own =
      ap (λ (cs : List Copy). get_or (values_at cs σ) (suc i) false) (next_copy left p k (omega arith) own)
      ∙ value_from σ left (suc p) i k (omega arith) (λ j l. here (suc j) (omega arith)) own

  number_from : (left : List Bool) (p i k : ℕ) → p + i ≡ k → InBlock left i → InBlock ts k → number (copies_from ts (row ∷ rows) p left) k [] ≡ i
  number_from [] p i k e here own = absurd (false≢true (here i (omega arith)))
  number_from (false ∷ left) p i k e here own = absurd (false≢true (here zero (omega arith)))
  number_from (true ∷ left) p zero k e here own =
      let found : eqb p k ≡ true = eq-eqb p k (omega arith) in
      ap (λ (cs : List Copy). number cs k []) (next_copy left p k (omega arith) own) ∙ rw found
  number_from (true ∷ left) p (suc i) k e here own =
      let apart : eqb p k ≡ false = false_if_not_true (eqb p k) (λ same. let alike = eqb-true p k same in omega arith) in
      ap (λ (cs : List Copy). number cs k []) (next_copy left p k (omega arith) own)
      ∙ rw apart (ap suc (number_from left (suc p) i k (omega arith) (λ j l. here (suc j) (omega arith)) own))

module _ (ts : List Bool) where
  value_in_block : (rows : List Row) → 0 < length rows → (σ : Strategy) (k : ℕ) → InBlock ts k → get_or (values_of ts rows σ) k false ≡ σ k []
  unfolding copies
  value_in_block [] some_row σ k own = absurd (omega arith)
  value_in_block (row ∷ rows) some_row σ k own = value_from ts row rows σ ts zero k k (zero-add k) own own

  number_in_block : (rows : List Row) → 0 < length rows → (k : ℕ) → InBlock ts k → number (copies ts rows) k [] ≡ k
  unfolding copies
  number_in_block [] some_row k own = absurd (omega arith)
  number_in_block (row ∷ rows) some_row k own = number_from ts row rows ts zero k k (zero-add k) own own

-- So many unknowns are the side's.
pub counted_in_block : (side : Kind) (ks : List Kind) (k : ℕ) → InBlock (flags side ks) k → k < count side ks
counted_in_block side [] k own = absurd (false≢true (own k (omega arith)))
counted_in_block existential (existential ∷ ks) zero own = omega arith
counted_in_block existential (existential ∷ ks) (suc k) own = let later = counted_in_block existential ks k (λ j l. own (suc j) (omega arith)) in omega arith
counted_in_block existential (universal ∷ ks) k own = absurd (false≢true (own zero (omega arith)))
counted_in_block universal (existential ∷ ks) k own = absurd (false≢true (own zero (omega arith)))
counted_in_block universal (universal ∷ ks) zero own = omega arith
counted_in_block universal (universal ∷ ks) (suc k) own = let later = counted_in_block universal ks k (λ j l. own (suc j) (omega arith)) in omega arith

-- ---- what a search has yielded

-- Values that lead others and agree with them before k agree with them at k, too, or have the preferred value there.
first_leads : (prefer : ℕ → Bool) (vs ws : List Bool) → Leads prefer vs ws → (k : ℕ) → ((j : ℕ) → j < k → get_or vs j false ≡ get_or ws j false)
    → (get_or vs k false ≡ get_or ws k false) ⊎ (get_or vs k false ≡ prefer k)
first_leads prefer vs ws (inl e) k before = inl (ap (λ (l : List Bool). get_or l k false) e)
first_leads prefer vs ws (inr (i, parts)) k before = by_order (dec_lt k i) (dec_lt i k)
  where
    by_order : Dec (k < i) → Dec (i < k) → (get_or vs k false ≡ get_or ws k false) ⊎ (get_or vs k false ≡ prefer k)
    by_order (yes l) m = inl (parts.agree k l)
    by_order (no l) (yes m) = absurd (never_unlike (prefer i) (get_or ws i false) (sym (before i m) ∙ parts.preferred) parts.unlike)
    by_order (no l) (no m) = inr (subst (λ (x : ℕ). get_or vs x false ≡ prefer x) (omega arith) parts.preferred)

pub found_leads : (prefer : ℕ → Bool) (side : Kind) (ks : List Kind) (phi : List Bool → Bool) (rows new : List Row) (known : Row)
    → search prefer side ks phi rows ≡ some new → In known new → LeadsModels prefer (flags side ks) (goal side phi) rows known
found_leads prefer side ks phi rows new known found in_new σ w k own before =
    let ts = flags side ks in
    let first = (search_right prefer side ks phi rows).first new found in
    let vs = first.0 in
    let τ = strategy_of ts rows vs in
    let from = in_map_cases (yield ts τ) known rows (subst (λ (n : List Row). In known n) first.2 in_new) in
    let some_row : 0 < length rows = (let p = place_of_in from.0 rows [] from.2 in omega (arith, p.1)) in
    let back : values_of ts rows τ ≡ vs = values_of_value_of (copies ts rows) vs (distinct_copies ts rows) first.1.sized in
    let here : (j : ℕ) → j ≤ k → InBlock ts j = λ j l i m. own i (omega arith) in
    let known_at : (j : ℕ) → j ≤ k → get_or known j false ≡ get_or vs j false =
    λ j l. ap (λ (r : Row). get_or r j false) from.1 ∙ yield_in_block ts τ from.0 j (here j l)
    ∙ sym (value_in_block ts rows some_row τ j (here j l)) ∙ ap (λ (ws : List Bool). get_or ws j false) back in
    let model_at : (j : ℕ) → j ≤ k → get_or (values_of ts rows σ) j false ≡ σ j [] = λ j l. value_in_block ts rows some_row σ j (here j l) in
    ⊎_map
    (λ e. known_at k (omega arith) ∙ e ∙ model_at k (omega arith))
    (λ e. known_at k (omega arith) ∙ e)
    (first_leads prefer vs (values_of ts rows σ)
    (first.1.leads (values_of ts rows σ) (length-map (copies ts rows) _) (is_model_of_values ts (goal side phi) rows σ ∙ w)) k
    (λ j l. sym (known_at j (le_of_lt l)) ∙ before j l ∙ sym (model_at j (le_of_lt l))))

-- ---- the models of a search's problem

module _ (prefer : ℕ → Bool) (side : Kind) (ks : List Kind) (cs : List Clause) (rows : List Row) (row place_of : ℕ → ℕ)
    (named : Every (Every (Names (length ks))) cs) (places : Places (length rows) row place_of) where
  -- In the first own block all rows share the copies.
  agree_in_block : (i h k : ℕ) → InBlock (flags side ks) k → Agree (problem prefer side ks cs rows row) i h k
  unfolding problem
  agree_in_block i h k own l lt o = absurd (never_both (own l (le_of_lt lt)) o)

  pub model_led : (known : Row) → LeadsModels prefer (flags side ks) (goal side (matrix cs)) rows known
      → (m : Values) → Model (problem prefer side ks cs rows row) m → 0 < length rows
      → (k : ℕ) → ((j : ℕ) → j ≤ k → (problem prefer side ks cs rows row).own j ≡ true)
      → ((j : ℕ) → j < k → get_or known j false ≡ m 0 j)
      → (get_or known k false ≡ m 0 k) ⊎ (get_or known k false ≡ (problem prefer side ks cs rows row).wanted 0 k)
  unfolding problem wanted
  model_led known led m M some_row k own before =
      let ts = flags side ks in
      let played = strategy_of_model prefer side ks cs rows row place_of named places m M in
      let σ = played.0 in
      let here : (j : ℕ) → j ≤ k → InBlock ts j = λ j l i n. own i (omega arith) in
      let value : (j : ℕ) → j ≤ k → σ j [] ≡ m 0 j =
      λ j l. ap (σ j) (sym (nothing_restricted ts j (get_or rows 0 []) (λ i n. own i (omega arith))))
      ∙ played.2 0 j some_row (own j l)
      ∙ M.uniform (place_of 0) 0 j (places.place_below 0 some_row) some_row (subst (λ (x : ℕ). j < x) (length-map ks _) (own_within ts j (own j l))) (own j l)
      (agree_in_block (place_of 0) 0 j (here j l)) in
      let wants : prefer k ≡ prefer (number (copies ts rows) k (restriction ts k (get_or rows (row 0) []))) =
      ap prefer (sym (ap (number (copies ts rows) k) (nothing_restricted ts k (get_or rows (row 0) []) (λ j l. own j (le_of_lt l))) ∙ number_in_block ts rows
      some_row k own)) in
      ⊎_map
      (λ e. e ∙ value k (omega arith))
      (λ e. e ∙ wants)
      (led σ played.1 k own (λ j l. before j l ∙ sym (value j (le_of_lt l))))

-- What the search as a whole returns and leaves. Assumes nothing.
use Prim.Native.Nat.{ℕ, zero, suc, ◌+◌, ◌-◌, ◌*◌, ◌≤◌, ◌<◌}
use mathlib.Core.Path.{◌≡◌, refl, sym, ◌∙◌, ap, subst}
use mathlib.Core.Bool.{Bool, true, false, true≢false}
use mathlib.Core.List.{List, [], ◌∷◌, ◌++◌}
use mathlib.Core.Option.{Option, none, some}
use native.Mathlib.Omega.{arith}
use lib.IntN.{ℤ}
use lib.ListN.{length, get_or, take, replicate, length-append, length-replicate}
use lib.Seq.{get_or-take, length-take-le}
use Rattle.formula.specs.Formula.{max_rows, work_size, prefix, clauses}
use Rattle.formula.specs.Meaning.{matrix}
use Rattle.formula.specs.Causes.{count, ended, is_zero}
use Rattle.formula.proofs.Accepted.{Accepted}
use Rattle.preference.specs.Preference.{prefer}
use Rattle.rows.specs.Row.{bytes_of}
use Rattle.rows.specs.Table.{rows_of, table_of}
use Rattle.rows.proofs.RowLaws.{length_bytes_of}
use Rattle.expansion.specs.Side.{flags, goal}
use Rattle.expansion.specs.OtherSide.{other}
use Rattle.expansion.specs.Play.{Row, part}
use Rattle.expansion.specs.Model.{search, first_model, yielded}
use Rattle.expansion.proofs.Verdict.{search_none}
use Rattle.expansion.specs.Cells.{others_before, tabulate}
use Rattle.expansion.proofs.Engine.{length_tabulate}
use Rattle.search_cells.specs.Cells.{cells, owned, spot}
use Rattle.search_cells.specs.Private.Changes.{Filled, FirstDifference}
use Rattle.search_order.specs.Private.Sorted.{Sorted}
use Rattle.search_cells.specs.Steps.{rows_filled}
use Rattle.search_cells.proofs.FillLaws.{rows_are_filled}
use Rattle.search_cells.proofs.PackLaws.{packed_inside}
use Rattle.engine.specs.Private.Steps.{Tabled, FromStart}
use Rattle.engine.specs.Private.Prepared.{LastLeads}
use Rattle.engine.specs.Private.Whole.{side_kind, TablesOf, Ready, Arranged, OverCells, OverPlaces, FoundIs}
use Rattle.search_cells.proofs.OwnedLaws.{length_owned}
use Rattle.engine.proofs.search.CallLaws.{zero_at}
use Rattle.engine.proofs.search.TopLaws.{searched_none, searched_some}

-- ---- literals that end in 0

pub accepted_ended : (kinds : List ℕ) (literals : List ℤ) → Accepted kinds literals → ended literals ≡ true
accepted_ended kinds literals a = ap is_zero a.last_is_zero

-- ---- the other side's unknowns

others_below : (ts : List Bool) (k : ℕ) → k < length ts → get_or ts k false ≡ false → others_before ts k < others_before ts (length ts)
others_below [] k lt o = absurd (omega arith)
others_below (true ∷ ts) zero lt o = absurd (true≢false o)
others_below (true ∷ ts) (suc k) lt o = others_below ts k (omega arith) o
others_below (false ∷ ts) zero lt o = omega arith
others_below (false ∷ ts) (suc k) lt o = let r : others_before ts k < others_before ts (length ts) = others_below ts k (omega arith) o in omega arith

others_all : (kinds : List ℕ) (side : ℕ) → side ≤ 1 → ((k : ℕ) → get_or kinds k 0 ≤ 1) →
    others_before (owned kinds side) (length (owned kinds side)) ≡ count (other (side_kind side)) (prefix kinds)
others_all [] zero a h = refl
others_all [] (suc s) a h = refl
others_all (k ∷ kinds) side a h = go k side (h 0) a (others_all kinds side a (λ i. h (suc i)))
  where
    go : (k side : ℕ) → k ≤ 1 → side ≤ 1 → others_before (owned kinds side) (length (owned kinds side)) ≡ count (other (side_kind side)) (prefix kinds)
        → others_before (owned (k ∷ kinds) side) (length (owned (k ∷ kinds) side)) ≡ count (other (side_kind side)) (prefix (k ∷ kinds))
    go zero zero b c e = e
    go zero (suc zero) b c e = ap suc e
    go zero (suc (suc s)) b c e = absurd (omega arith)
    go (suc zero) zero b c e = ap suc e
    go (suc zero) (suc zero) b c e = e
    go (suc zero) (suc (suc s)) b c e = absurd (omega arith)
    go (suc (suc k)) side b c e = absurd (omega arith)

-- ---- places cut to the count

sorted_take : (rows : List ℕ) (lent m : ℕ) (place : List ℕ) → Sorted rows lent m place → Sorted rows lent m (take lent place)
sorted_take rows lent m place s = record {
  row = s.row;
  row_below = s.row_below;
  place_below = λ r lt. subst (λ (x : ℕ). x < lent) (sym (get_or-take lent place r 0 lt)) (s.place_below r lt);
  row_of_place = λ r lt. ap s.row (get_or-take lent place r 0 lt) ∙ s.row_of_place r lt;
  place_of_row = λ i lt. get_or-take lent place (s.row i) 0 (s.row_below i lt) ∙ s.place_of_row i lt;
  in_order = s.in_order;
}

module _ (rows : List ℕ) (lent m : ℕ) (place : List ℕ) (long : lent ≤ length place) (sorted : Sorted rows lent m place) where
  cut_length : length (take lent place) ≡ lent
  cut_length = length-take-le lent place long

  cut_sorted : Sorted rows lent m (take lent place)
  cut_sorted = sorted_take rows lent m place sorted

  places_differ : (r q : ℕ) → r < length (take lent place) → q < length (take lent place) → get_or (take lent place) r 0 ≡ get_or (take lent place) q 0 → r ≡ q
  places_differ r q lr lq e =
      sym (cut_sorted.row_of_place r (omega (arith, cut_length))) ∙ ap cut_sorted.row e ∙ cut_sorted.row_of_place q (omega (arith, cut_length))

  place_met : (i : ℕ) → i < length (take lent place) → (r : ℕ) × (r < length (take lent place)) × (get_or (take lent place) r 0 ≡ i)
  place_met i lt = (
    cut_sorted.row i,
    subst (λ (x : ℕ). cut_sorted.row i < x) (sym cut_length) (cut_sorted.row_below i (omega (arith, cut_length))),
    cut_sorted.place_of_row i (omega (arith, cut_length)),
  )

  place_inside : (r : ℕ) → r < length (take lent place) → get_or (take lent place) r 0 < length (take lent place)
  place_inside r lt = subst (λ (x : ℕ). get_or (take lent place) r 0 < x) (sym cut_length) (cut_sorted.place_below r (omega (arith, cut_length)))

pub arranged : (kinds codes index rows : List ℕ) (lent others side : ℕ) (w₀ place z : List ℕ) → Ready kinds codes index rows lent others side w₀ → 0 < lent →
    lent ≤ length place
    → Sorted rows lent others place → length z ≡ length w₀ → Arranged kinds codes index (take lent place) side z
arranged kinds codes index rows lent others side w₀ place z ready some_row long sorted same = record {
  tables = ready.tables;
  side_fits = ready.side_fits;
  some_row = omega (arith, cut_length rows lent others place long sorted);
  few = omega (arith, cut_length rows lent others place long sorted, ready.inside, ready.few);
  inside = place_inside rows lent others place long sorted;
  met = place_met rows lent others place long sorted;
  area = same ∙ ready.area;
}

-- ---- cleared areas

cleared_levels : (w z : List ℕ) → z ≡ replicate (length w) 0 → (i j : ℕ) → (cells z).level i j ≡ 0
unfolding cells
cleared_levels w z e i j = ap (λ (l : List ℕ). get_or l (spot i j) 0) e ∙ zero_at (length w) (spot i j)

length_table_of : (ys : List Row) → length (table_of ys) ≡ 16 * length ys
length_table_of [] = refl
length_table_of (y ∷ ys) =
    let a : length (bytes_of y ++ table_of ys) ≡ length (bytes_of y) + length (table_of ys) = length-append (bytes_of y) (table_of ys) in
    let b : length (bytes_of y) ≡ 16 = length_bytes_of y in
    let c : length (table_of ys) ≡ 16 * length ys = length_table_of ys in
    omega arith

yielded_empty : (ts : List Bool) (o : Option (List Bool)) (zs : List Row) → yielded ts [] o ≡ some zs → zs ≡ []
yielded_empty ts none zs p = absurd (let w : ◌≡◌ {A = ℕ} 0 1 = cc in omega arith)
yielded_empty ts (some vs) zs p = cc

-- ---- what is found

module _ (kinds : List ℕ) (literals : List ℤ) (preferences rows : List ℕ) (lent others side : ℕ) where
  abbrev result : Option (List Row)
  result = search (prefer preferences) (side_kind side) (prefix kinds) (matrix (clauses literals)) (rows_of others lent rows)

  module _ (codes index terms own_rows : List ℕ) (known_rows : ℕ) (w₀ place z x : List ℕ) (ready : Ready kinds codes index rows lent others side w₀)
      (some_row : 0 < lent) (long : lent ≤ length place) (sorted : Sorted rows lent others place)
      (cleared : z ≡ replicate (length w₀) 0) (r : Bool) (over : OverPlaces kinds codes index terms preferences own_rows known_rows rows (take lent place) side
      z x r) (of : TablesOf kinds literals codes index terms)
      (leads : LastLeads kinds literals preferences own_rows known_rows (side_kind side) (rows_of others lent rows)) where
    abbrev decided : OverCells kinds codes index terms preferences own_rows known_rows (take lent place) side (rows_filled kinds rows (take lent place) side z)
        over.searched r
    decided = over.decided

    abbrev w : List ℕ
    w = rows_filled kinds rows (take lent place) side z

    abbrev u : List ℕ
    u = over.searched

    cleared_area : length z ≡ work_size
    cleared_area = ap length cleared ∙ length-replicate (length w₀) 0 ∙ ready.area

    few_places : length (take lent place) ≤ max_rows
    few_places = omega (arith, length-take-le lent place long, ready.inside, ready.few)

    filled : Filled kinds rows (take lent place) side z w
    filled = rows_are_filled kinds rows (take lent place) side z cleared_area of.accepted.few_unknowns few_places
        (λ q lt. omega (arith, place_inside rows lent others place long sorted q lt, few_places)) (places_differ rows lent others place long sorted)

    placed : length (take lent place) ≡ lent
    placed = length-take-le lent place long

    others_fit : (k : ℕ) → k < length kinds → get_or (owned kinds side) k false ≡ false → others_before (owned kinds side) k < others
    others_fit k lt o =
        let a : others_before (owned kinds side) k < others_before (owned kinds side) (length (owned kinds side)) = others_below (owned kinds side) k
        (let q : length (owned kinds side) ≡ length kinds = length_owned kinds side in omega arith) o in
        let b : others_before (owned kinds side) (length (owned kinds side)) ≡ count (other (side_kind side)) (prefix kinds) = others_all kinds side
        ready.side_fits of.accepted.kinds_known in
        let c : others ≡ count (other (side_kind side)) (prefix kinds) = ready.others_known in
        omega arith

    same_differences : (i : ℕ) → i < lent → get_or decided.all i 0 ≡ get_or (take (length (take lent place)) decided.all) i 0
    same_differences i lt = sym (get_or-take (length (take lent place)) decided.all i 0 (let q : length (take lent place) ≡ lent = placed in omega arith))

    compared : (i : ℕ) → i + 1 < lent → FirstDifference kinds side w i (get_or (take (length (take lent place)) decided.all) (i + 1) 0)
    compared i lt =
        subst (λ (x : ℕ). FirstDifference kinds side w i x) (same_differences (i + 1) lt)
        (decided.compared i (let q : length (take lent place) ≡ lent = placed in omega arith))

    split_length : length (take (length (take lent place)) decided.all) ≡ lent
    split_length = length-take-le (length (take lent place)) decided.all decided.long ∙ placed

    tabled : Tabled side kinds codes index terms
    tabled = record { indexed = λ _. of.listed; sized = λ _. of.terms_sized; told = λ _. of.terms_listed }

    found_none : r ≡ false → x ≡ replicate (length w₀) 0 → FoundIs result false x
    found_none e h =
        subst (λ (o : Option (List Row)). FoundIs o false x)
        (sym (searched_none kinds literals preferences rows (take lent place) decided.all (take (length (take lent place)) decided.all) codes side lent
        others ready.side_fits of.accepted ready.inside some_row (sorted_take rows lent others place sorted) others_fit of.encoded placed
        split_length z w decided.wanting_area filled (cleared_levels w₀ z cleared) compared decided.wanting same_differences own_rows known_rows
        decided.block decided.reads leads u
        (subst (λ (b : Bool). FromStart kinds (take (length (take lent place)) decided.all) codes decided.block side decided.wanting_area u b) e
        (decided.from tabled))))
        (refl, h ∙ ap (λ (n : ℕ). replicate n 0) ready.area)

    found_some : r ≡ true →
        x ≡ table_of (tabulate (length (take lent place))
        (λ q. part (owned kinds side) (tabulate (length kinds) ((cells u).value (get_or (take lent place) q 0))))) ++ replicate
        (work_size - 16 * length (take lent place)) 0 → FoundIs result true x
    found_some e h =
        subst (λ (o : Option (List Row)). FoundIs o true x)
        (sym (searched_some kinds literals preferences rows (take lent place) decided.all (take (length (take lent place)) decided.all) codes side lent
        others ready.side_fits of.accepted ready.inside some_row (sorted_take rows lent others place sorted) others_fit of.encoded placed
        split_length z w decided.wanting_area filled (cleared_levels w₀ z cleared) compared decided.wanting same_differences own_rows known_rows
        decided.block decided.reads leads u
        (subst (λ (b : Bool). FromStart kinds (take (length (take lent place)) decided.all) codes decided.block side decided.wanting_area u b) e
        (decided.from tabled)))) (
          refl,
          h ∙ ap (λ (n : ℕ). table_of (yields n) ++ replicate (work_size - 16 * n) 0) placed ∙ ap
              (λ (n : ℕ). table_of (yields lent) ++ replicate (work_size - n) 0)
              (sym (length_table_of (yields lent) ∙ ap (λ (n : ℕ). 16 * n) (length_tabulate lent one))),
        )
      where
        one : ℕ → Row
        one q = part (owned kinds side) (tabulate (length kinds) ((cells u).value (get_or (take lent place) q 0)))

        yields : ℕ → List Row
        yields n = tabulate n one

    -- what is found over the sorted rows is what the definition gives
    pub found_over : FoundIs result r x
    found_over = go r refl
      where
        go : (b : Bool) → r ≡ b → FoundIs result r x
        go true e =
            subst (λ (b : Bool). FoundIs result b x) (sym e)
            (found_some e (over.yields e ∙ packed_inside kinds (take lent place) side u (over.sized ∙ cleared_area) of.accepted.few_unknowns few_places))
        go false e =
            subst (λ (b : Bool). FoundIs result b x) (sym e)
            (found_none e (over.clears e ∙ ap (λ (n : ℕ). replicate n 0) (ap length cleared ∙ length-replicate (length w₀) 0)))

  -- over no rows there is a model, which yields none
  pub found_empty : (w₀ x : List ℕ) → length w₀ ≡ work_size → lent ≡ 0 → x ≡ replicate (length w₀) 0 → FoundIs result true x
  unfolding search
  found_empty w₀ x area e h = subst
      (λ (n : ℕ). FoundIs (search (prefer preferences) (side_kind side) (prefix kinds) (matrix (clauses literals)) (rows_of others n rows)) true x) (sym e)
      (go (search (prefer preferences) (side_kind side) (prefix kinds) (matrix (clauses literals)) []) refl)
    where
      go : (o : Option (List Row)) → search (prefer preferences) (side_kind side) (prefix kinds) (matrix (clauses literals)) [] ≡ o → FoundIs o true x
      go none q = absurd (true≢false ((search_none (prefer preferences) (side_kind side) (prefix kinds) (matrix (clauses literals)) []).0 q (λ k s. false)))
      go (some ys) q = (
        refl,
        h ∙ ap (λ (n : ℕ). replicate n 0) area ∙ ap (λ (l : List Row). table_of l ++ replicate (work_size - length (table_of l)) 0)
            (sym (empty_yield ys q)),
      )
        where
          empty_yield : (zs : List Row) → search (prefer preferences) (side_kind side) (prefix kinds) (matrix (clauses literals)) [] ≡ some zs → zs ≡ []
          empty_yield zs p = yielded_empty (flags (side_kind side) (prefix kinds)) (first_model (prefer preferences) (flags (side_kind side) (prefix kinds))
              (goal (side_kind side) (matrix (clauses literals))) []) zs p

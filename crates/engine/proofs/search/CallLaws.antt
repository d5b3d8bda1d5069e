-- What the functions of the crates below leave, by the relations that the search's steps speak of. Assumes nothing.
use Prim.Native.Nat.{ℕ, zero, suc, ◌+◌, ◌-◌, ◌%◌, ◌≤◌, ◌<◌}
use mathlib.Core.Path.{◌≡◌, refl, sym, ◌∙◌, ap, subst}
use mathlib.Core.Logic.{inl, inr}
use mathlib.Core.Bool.{Bool, true}
use mathlib.Core.List.{List, [], ◌∷◌}
use native.Mathlib.Omega.{arith}
use native.Mathlib.Decide.{dec_lt}
use borrow.Author.Tests.{le-leb, eq-eqb, ne_eqb, eqb-true}
use lib.ListN.{length, get_or, drop, replicate, get_or-eq_default}
use Rattle.formula.specs.Formula.{max_unknowns, max_entries, max_rows, work_size}
use Rattle.expansion.proofs.ClauseCuts.{matrix_at}
use Rattle.search_cells.specs.Cells.{cells}
use Rattle.search_cells.specs.Private.Changes.{CellsSet, CellsOpened, FirstDifference}
use Rattle.search_cells.specs.Steps.{rows_set, rows_opened, rows_compared}
use Rattle.search_cells.proofs.SetLaws.{rows_are_set}
use Rattle.search_cells.proofs.OpenLaws.{rows_are_opened}
use Rattle.search_cells.proofs.DifferenceLaws.{rows_are_compared}
use Rattle.search_order.specs.Order.{places}
use Rattle.search_order.specs.Private.Sorted.{Sorted}
use Rattle.search_order.proofs.PlaceLaws.{places_sorted}
use Rattle.search_numbering.specs.Numbering.{filled as numbered}
use Rattle.search_numbering.specs.Private.Wants.{WantsFilled}
use Rattle.search_numbering.proofs.WantsFill.{wants_filled}
use Rattle.codes.specs.Codes.{last_code}
use Rattle.codes.specs.Private.Clauses.{code_true, code_clauses, clause_of, Ended, Begins, Coded}
use Rattle.index.specs.Occurrences.{begins}
use Rattle.index.specs.Index.{index_size, all_codes, table_fits, index_of, filled as indexed}
use Rattle.index.proofs.LayoutLaws.{end_is}
use Rattle.index.proofs.IndexLaws.{read_names}
use Rattle.search_sets.specs.Sets.{set_places, sets_size, united_words, added, has, emptied, filled, trimmed, resolved, reasons_added}
use Rattle.search_sets.specs.Private.Masks.{set_at, SetGrown, SetsKept, WordsUnited, Trimmed, Resolved, ReasonsAdded}
use Rattle.search_sets.proofs.SetLaws.{words_unite, add_grows, add_adds, has_is, empty_keeps}
use Rattle.search_sets.proofs.SetLaws.{fill_keeps, fill_fills, trim_trims, resolve_resolves, add_reasons_adds}
use Rattle.search_evaluation.specs.Evaluation.{look_at, matrix_in}
use Rattle.search_evaluation.specs.Private.Looked.{Looked}
use Rattle.search_evaluation.proofs.LookLaws.{look_looked}
use Rattle.search_evaluation.proofs.MatrixLaws.{matrix_is}
use Rattle.search_groups.specs.Groups.{copy_start, copy_end, split_row, split_position, open_position}
use Rattle.search_groups.specs.Private.Parts.{CopyFrom, CopyTo, SplitRow, SplitPosition, FirstOpen}
use Rattle.engine.specs.Private.Steps.{Listed}
use Rattle.search_groups.proofs.PartLaws.{copy_start_from, copy_end_to, split_row_parts, split_position_there, open_position_is_first}

-- ---- sets of positions

module _ (s : List ℕ) {t : List ℕ} (size : length s ≡ sets_size) where
  pub unites_words : (to low high : ℕ) → to < set_places → t ≡ united_words s to low high → WordsUnited to low high s t
  unites_words to low high place e = subst (λ (x : List ℕ). WordsUnited to low high s x) (sym e) (words_unite s size to low high place)

  pub grows : (to p : ℕ) → to < set_places → p < max_unknowns → t ≡ added s to p → SetGrown to s t
  grows to p place below e = subst (λ (x : List ℕ). SetGrown to s x) (sym e) (add_grows s size to p place below)

  pub adds : (to p : ℕ) → to < set_places → p < max_unknowns → t ≡ added s to p → set_at t to p ≡ true
  adds to p place below e = subst (λ (x : List ℕ). set_at x to p ≡ true) (sym e) (add_adds s size to p place below)

  pub empties : (to : ℕ) → max_unknowns ≤ to → to < set_places → t ≡ emptied s to → SetsKept s t
  empties to behind place e = subst (λ (x : List ℕ). SetsKept s x) (sym e) (empty_keeps s size to behind place)

  pub fills_kept : (to : ℕ) → max_unknowns ≤ to → to < set_places → t ≡ filled s to → SetsKept s t
  fills_kept to behind place e = subst (λ (x : List ℕ). SetsKept s x) (sym e) (fill_keeps s size to behind place)

  pub fills : (to : ℕ) → to < set_places → t ≡ filled s to → (l : ℕ) → l < max_unknowns → set_at t to l ≡ true
  fills to place e l below = subst (λ (x : List ℕ). set_at x to l ≡ true) (sym e) (fill_fills s size to place l below)

  pub trims : (k n : ℕ) → k ≤ n → n ≤ max_unknowns → t ≡ trimmed s k n → Trimmed k s t
  trims k n low high e = subst (λ (x : List ℕ). Trimmed k s x) (sym e) (trim_trims s size k n low high)

  pub resolves : (k at : ℕ) → at ≤ max_unknowns → t ≡ resolved s max_unknowns k at → Resolved k at s t
  resolves k at high e = subst (λ (x : List ℕ). Resolved k at s x) (sym e) (resolve_resolves s size k at high)

  pub adds_reasons : (codes : List ℕ) (start to : ℕ) → to < set_places → Coded max_unknowns codes → t ≡ reasons_added codes s start to →
      ReasonsAdded (clause_of (drop start codes)) to s t
  adds_reasons codes start to place coded e =
      subst (λ (x : List ℕ). ReasonsAdded (clause_of (drop start codes)) to s x) (sym e) (add_reasons_adds s size codes start to place coded)

pub has_at : (s : List ℕ) → length s ≡ sets_size → (of p : ℕ) {r : Bool} → of < set_places → p < max_unknowns → r ≡ has s of p → r ≡ set_at s of p
has_at s size of p place below e = e ∙ has_is s size of p place below

-- ---- clauses in a row

module _ (codes w : List ℕ) (i : ℕ) (area : length w ≡ work_size) (row : i < max_rows) (coded : Coded max_unknowns codes) where
  pub looks : (start : ℕ) {r : ℕ} → r ≡ look_at codes w i start → Looked codes w i start r
  looks start e = subst (λ (x : ℕ). Looked codes w i start x) (sym e) (look_looked codes w i start area row coded)

  pub matrix_of : {r : Bool} → r ≡ matrix_in codes w i → Ended codes → r ≡ matrix_at code_true (code_clauses codes) ((cells w).value i)
  matrix_of e ended = e ∙ matrix_is codes w i area row coded ended

-- ---- groups of rows

module _ (differences : List ℕ) where
  pub copy_from : (k lo i : ℕ) {r : ℕ} → lo ≤ i → i < length differences → r ≡ copy_start differences k lo i → CopyFrom differences k lo i r
  copy_from k lo i low high e = subst (λ (x : ℕ). CopyFrom differences k lo i x) (sym e) (copy_start_from differences k lo i low high)

  pub copy_to : (k i hi : ℕ) {r : ℕ} → i < hi → hi ≤ length differences → r ≡ copy_end differences k i hi → CopyTo differences k i hi r
  copy_to k i hi low high e = subst (λ (x : ℕ). CopyTo differences k i hi x) (sym e) (copy_end_to differences k i hi low high)

  pub parts : (lo hi : ℕ) {r : ℕ} → lo < hi → hi ≤ length differences → r ≡ split_row differences lo hi → SplitRow differences lo hi r
  parts lo hi low high e = subst (λ (x : ℕ). SplitRow differences lo hi x) (sym e) (split_row_parts differences lo hi low high)

  pub parts_there : (lo mid n : ℕ) {r : ℕ} → mid < length differences → r ≡ split_position differences lo mid n → SplitPosition differences lo mid n r
  parts_there lo mid n high e = subst (λ (x : ℕ). SplitPosition differences lo mid n x) (sym e) (split_position_there differences lo mid n high)

pub stands : (kinds w : List ℕ) (side k lo until : ℕ) {r : ℕ} → length w ≡ work_size → length kinds ≤ max_unknowns → until ≤ length kinds → k ≤ length kinds →
    lo < max_rows
    → r ≡ open_position kinds w side k lo until → FirstOpen kinds w side k lo until r
stands kinds w side k lo until area few within known row e =
    subst (λ (x : ℕ). FirstOpen kinds w side k lo until x) (sym e) (open_position_is_first kinds w side k lo until area few within known row)

-- ---- cells

module _ {w u : List ℕ} (area : length w ≡ work_size) where
  pub sets_rows : (k lo hi level : ℕ) (value : Bool) → k < max_unknowns → lo ≤ hi → hi ≤ max_rows → u ≡ rows_set k lo hi level value w →
      CellsSet k lo hi level value w u
  sets_rows k lo hi level value small low high e = subst (λ (x : List ℕ). CellsSet k lo hi level value w x) (sym e)
      (rows_are_set k lo hi level value w area small high low)

  pub opens_rows : (lo hi bound : ℕ) → lo ≤ hi → hi ≤ max_rows → u ≡ rows_opened lo hi bound w → CellsOpened lo hi bound w u
  opens_rows lo hi bound low high e = subst (λ (x : List ℕ). CellsOpened lo hi bound w x) (sym e) (rows_are_opened lo hi bound w area high low)

-- ---- the tables that a search begins with

pub sorts : (rows : List ℕ) (count m : ℕ) (before : List ℕ) {place : List ℕ} → count ≤ max_rows → count ≤ length before → place ≡ places rows count m before
    → Sorted rows count m place
sorts rows count m before few fits e = subst (λ (x : List ℕ). Sorted rows count m x) (sym e) (places_sorted rows count m before few fits)

pub compares : (kinds w : List ℕ) (count side : ℕ) (before : List ℕ) {differences : List ℕ} → length w ≡ work_size → length kinds ≤ max_unknowns → count ≤
    max_rows →
    length before ≡ max_rows
    → differences ≡ rows_compared kinds w count side before → (i : ℕ) → i + 1 < count → FirstDifference kinds side w i (get_or differences (i + 1) 0)
compares kinds w count side before area few most room e i less =
    subst (λ (x : List ℕ). FirstDifference kinds side w i (get_or x (i + 1) 0)) (sym e) (rows_are_compared kinds w count side before area few most room i less)

pub numbers : (kinds preferences place differences : List ℕ) (side : ℕ) {w u : List ℕ} → length kinds ≤ max_unknowns → length place ≤ max_rows
    → ((i : ℕ) → i < length place → (r : ℕ) × (r < length place) × (get_or place r 0 ≡ i)) → length differences ≡ max_rows → length w ≡ work_size
    → u ≡ numbered kinds preferences place differences side w → WantsFilled kinds preferences place differences side w u
numbers kinds preferences place differences side {w} few most met room area e =
    subst (λ (x : List ℕ). WantsFilled kinds preferences place differences side w x) (sym e)
    (wants_filled kinds preferences place differences side w few most met room
    area)

all_are_codes : (codes : List ℕ) → Coded max_unknowns codes → all_codes codes ≡ true
all_are_codes [] coded = refl
all_are_codes (zero ∷ codes) coded = all_are_codes codes (λ e less. coded (suc e) (omega arith))
all_are_codes (suc c ∷ codes) coded =
    let here = coded 0 (omega arith) (omega arith) in
    let same : suc c % 512 ≡ suc c = omega arith in
    rw (same, le-leb (suc c) last_code (omega arith), ne_eqb (suc c) 1 (λ e. omega arith)) (all_are_codes codes (λ e less. coded (suc e) (omega arith)))

-- The index that is filled is the one of the codes.
pub lists : (codes before : List ℕ) {index : List ℕ} → length codes ≤ max_entries → Coded max_unknowns codes → length before ≡ index_size →
    index ≡ indexed codes before → index ≡ index_of codes
unfolding indexed table_fits
lists codes before few coded size e = e ∙ whole
  where
    whole : indexed codes before ≡ index_of codes
    whole = rw (le-leb (length codes) max_entries few, eq-eqb (length before) index_size size, all_are_codes codes coded)

-- No code is a dropped one's, so that an end is a 0.
code_small : (codes : List ℕ) → Coded max_unknowns codes → (e : ℕ) → get_or codes e 0 < 512
code_small codes coded e = by_place (dec_lt e (length codes))
  where
    by_code : e < length codes → Dec (0 < get_or codes e 0) → get_or codes e 0 < 512
    by_code h (yes some) = let p = coded e h some in omega arith
    by_code h (no none) = omega arith

    by_place : Dec (e < length codes) → get_or codes e 0 < 512
    by_place (yes h) = by_code h (dec_lt 0 (get_or codes e 0))
    by_place (no h) = omega (arith, get_or-eq_default codes 0 {n = e} (omega arith))

-- So what stands between a list's begin and its end are starts of clauses.
pub lists_starts : (codes index : List ℕ) → length codes ≤ max_entries → Coded max_unknowns codes → index ≡ index_of codes → Listed codes index
lists_starts codes index few coded e = subst (λ (x : List ℕ). Listed codes x) (sym e) starts
  where
    start : (s : ℕ) → begins codes s ≡ true → s < length codes → Begins codes s
    start zero b h = inl refl
    start (suc s) b h =
        let back : suc s - 1 ≡ s = omega arith in
        let end = eqb-true (get_or codes s 1 % 512) 0 b in
        let same = get_or_inside codes s (omega arith) in
        let small = code_small codes coded s in
        inr (ap (λ (n : ℕ). get_or codes n 0) back ∙ omega arith)
      where
        get_or_inside : (l : List ℕ) (i : ℕ) → i < length l → get_or l i 1 ≡ get_or l i 0
        get_or_inside [] i h = absurd (omega arith)
        get_or_inside (x ∷ l) zero h = refl
        get_or_inside (x ∷ l) (suc i) h = get_or_inside l i (omega arith)

    starts : Listed codes (index_of codes)
    starts c at small low high =
        let names = read_names codes few c (omega arith) at low (omega (arith, end_is (index_of codes) c (omega arith))) in
        start (get_or (index_of codes) at 0) names.first names.inside

-- A table of zeros has 0 at every place, and past its end.
pub zero_at : (n x : ℕ) → ◌≡◌ {A = ℕ} (get_or (replicate n 0) x 0) 0
zero_at zero x = refl
zero_at (suc n) zero = refl
zero_at (suc n) (suc x) = zero_at n x

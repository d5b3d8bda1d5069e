-- A row's part, by what the code has made. Assumes nothing.
use Prim.Native.Nat.{ℕ, zero, suc, ◌+◌, ◌*◌, ◌≤◌, ◌<◌}
use native.Mathlib.Nat.{mul-suc}
use native.Mathlib.Omega.{arith}
use mathlib.Core.Path.{◌≡◌, refl, sym, ap, subst, ◌∙◌}
use mathlib.Core.Bool.{Bool, true, false}
use mathlib.Core.List.{List, [], ◌∷◌}
use lib.Dec.{eqb}
use lib.IntN.{ℤ}
use lib.ListN.{length, get_or}
use Rattle.formula.specs.Formula.{prefix, clauses, max_unknowns}
use Rattle.formula.specs.Causes.{zeros, is_zero}
use Rattle.formula.specs.Meaning.{bit}
use Rattle.formula.proofs.Accepted.{Accepted}
use Rattle.expansion.specs.Side.{flags}
use Rattle.expansion.specs.OtherSide.{side_of}
use Rattle.expansion.specs.Play.{Row}
use Rattle.expansion.specs.Cells.{others_before}
use Rattle.rows.specs.Row.{row_of}
use Rattle.rows.specs.Table.{row_at, rows_of, room}
use Rattle.rows.proofs.RowLaws.{get_or_row_of}
use Rattle.rows.proofs.TableLaws.{length_rows_of, get_or_rows_of}
use Rattle.judge.specs.Judge.{claims_true, width}
use Rattle.search_cells.specs.Cells.{owned}
use Rattle.search_cells.proofs.OwnedLaws.{owned_at, length_owned}
use Rattle.trimming_rules.proofs.RuleLaws.{Within}
use Rattle.trimming_rules.proofs.Trimmed.{entries_clauses, within_clauses}
use Rattle.writer.specs.Private.Steps.{Put}
use Rattle.writer.proofs.PutLaws.{put_as}
use Rattle.cnf_rules.specs.Clauses.{copy_number}
use Rattle.cnf_rules.specs.Text.{part}
use Rattle.cnf_text.specs.Private.Walk.{PlacesBelow, row_bytes, part_bytes}
use Rattle.cnf_text.proofs.PlaceLaws.{flags_owned, others_most, copy_is}
use Rattle.cnf_text.proofs.RowLaws.{Places, row_lines_so}

module _ (kinds : List ℕ) (literals : List ℤ) (claim : ℕ) (rows : List ℕ) (a : Accepted kinds literals) (either : claim ≤ 1) where
  abbrev ts : List Bool
  ts = owned kinds claim

  same_flags : flags (side_of (claims_true claim)) (prefix kinds) ≡ ts
  same_flags = flags_owned claim kinds either a.kinds_known

  few_others : (k : ℕ) → others_before ts k ≤ width kinds claim
  unfolding width
  few_others k = subst (λ (fs : List Bool). others_before fs k ≤ width kinds claim) same_flags (others_most (side_of (claims_true claim)) (prefix kinds) k)

  module _ (i : ℕ) (inside : i < room rows) (places : List ℕ) (below : PlacesBelow kinds claim rows i (length kinds) places) where
    abbrev w : ℕ
    w = width kinds claim

    abbrev row : Row
    row = row_of w (row_at rows i)

    abbrev name : ℕ → ℕ
    name = copy_number ts (rows_of w (room rows) rows) row

    is_own : (k : ℕ) → k < length ts → get_or ts k false ≡ eqb (get_or kinds k 0) claim
    is_own k l = owned_at kinds claim k (omega (arith, length_owned kinds claim))

    there : Places ts row name places
    there = record {
      copy = λ k l o.
          let found = (below k (omega (arith, length_owned kinds claim))).copy (sym (is_own k l) ∙ o) in
          found.2 ∙ ap (λ (n : ℕ). 2 + n) (sym (copy_is rows w (room rows) i (omega arith) inside ts k found.0 (few_others k) found.1));
      value = λ k l o.
          (below k (omega (arith, length_owned kinds claim))).value (sym (is_own k l) ∙ o)
          ∙ ap bit (sym (get_or_row_of w (row_at rows i) (others_before ts k) (narrow k l o)));
    }
      where
        narrow : (k : ℕ) → k < length ts → get_or ts k false ≡ false → others_before ts k < w
        narrow k l o = omega (arith, few_others (suc k), others_next ts k l o)
          where
            others_next : (fs : List Bool) (k : ℕ) → k < length fs → get_or fs k false ≡ false → others_before fs (suc k) ≡ suc (others_before fs k)
            others_next [] k h o = absurd (omega arith)
            others_next (true ∷ fs) zero h o = absurd (let z : ◌≡◌ {A = ℕ} 0 1 = cc in omega arith)
            others_next (false ∷ fs) zero h o = refl
            others_next (true ∷ fs) (suc k) h o = others_next fs k (omega arith) o
            others_next (false ∷ fs) (suc k) h o = ap suc (others_next fs k (omega arith) o)

    pub part_so : part_bytes kinds literals claim rows i ≡ row_bytes places claim (max_unknowns * room rows + zeros literals * i) literals
    unfolding part
    part_so =
        let cs = clauses literals in
        let within : Within (length ts) cs = within_clauses (length ts) literals (λ p. omega (arith, a.within p, length_owned kinds claim)) in
        let all = length_rows_of w (room rows) rows in
        let mine = get_or_rows_of w (room rows) rows i inside inside in
        rw (same_flags, all, mine, a.clauses_are_zeros)
        (sym (row_lines_so ts row name places there claim (max_unknowns * room rows + zeros literals * i) cs within)
        ∙ ap (row_bytes places claim (max_unknowns * room rows + zeros literals * i)) (entries_clauses literals (ap is_zero a.last_is_zero)))

-- ---- what `put_part` needs

times_most : (c i : ℕ) → c ≤ 2048 → c * i ≤ 2048 * i
times_most c zero few = omega arith
times_most c (suc i) few = omega (arith, mul-suc c i, times_most c i few)

pub first_most : (r c i : ℕ) → r ≤ 256 → c ≤ 2048 → i < r → max_unknowns * r + c * i ≤ 557056
first_most r c i few short inside = omega (arith, times_most c i short)

pub times_fit : (r c i : ℕ) → r ≤ 256 → c ≤ 2048 → i < r → c * i ≤ 524288
times_fit r c i few short inside = omega (arith, times_most c i short)

pub part_put : (kinds : List ℕ) (literals : List ℤ) (claim : ℕ) (rows : List ℕ) → Accepted kinds literals → claim ≤ 1 → (i : ℕ) → i < room rows → (count : ℕ) → count ≡ zeros literals
    → (places : List ℕ) {before after : List ℕ} {end : ℕ} → PlacesBelow kinds claim rows i (length kinds) places
    → Put (row_bytes places claim (max_unknowns * room rows + count * i) literals) 0 before end after → Put (part_bytes kinds literals claim rows i) 0 before end after
part_put kinds literals claim rows a either i inside count same places below put =
    put_as (ap (λ (n : ℕ). row_bytes places claim (max_unknowns * room rows + n * i) literals) same ∙ sym (part_so kinds literals claim rows a either i inside places below)) put

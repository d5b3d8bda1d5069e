-- The rows that fit, one row after the other. Assumes nothing.
use Prim.Native.Nat.{ℕ, zero, suc, ◌+◌, ◌-◌, ◌*◌, ◌/◌, ◌%◌, ◌^◌, ◌≤◌, ◌<◌}
use native.Mathlib.Decide.{dec_lt, ℕ_discrete}
use native.Mathlib.Omega.{arith}
use mathlib.Core.Path.{◌≡◌, refl, sym, ap, ap₂, ◌∙◌, subst}
use mathlib.Core.Bool.{Bool, true, false, cond, ◌&&◌}
use mathlib.Core.List.{List, [], ◌∷◌, ◌++◌, append-nil}
use lib.ListN.{length, take, drop, get_or, replicate, length-map}
use borrow.Author.Tests.{lt-ltb, le-ltb}
use Rattle.formula.specs.Formula.{prefix, max_unknowns}
use Rattle.preference.specs.Preference.{odd}
use Rattle.expansion.specs.Play.{Row}
use Rattle.rows.specs.Row.{bit_of, values, row_of}
use Rattle.rows.specs.Stray.{row_bits, stray}
use Rattle.rows.specs.Table.{row_at, rows_of, room}
use Rattle.rows.proofs.BitLaws.{odd_zero}
use Rattle.rows.proofs.RowLaws.{none_stray, no_bit_past_end}
use Rattle.rows.proofs.TableLaws.{rows_of_next, bit_of_row_at, row_at_outside}
use Rattle.restriction.specs.Outcome.{value_of, values_of}
use Rattle.case_rules.specs.Restricted.{kinds_behind}
use Rattle.reply_rules.specs.Position.{fitting}
use Rattle.reply.specs.Private.Fitting.{one_if, owned, fits, Blank, Copied, Kept, Fitted}
use Rattle.reply.proofs.BitLaws.{values_same, rows_of_same}
use Rattle.reply.proofs.FitLaws.{part_is, owned_few, owned_both, fitting_empty, fitting_append, fitting_one}

-- A table of zeros has no bit.
pub zeros_blank : (n : ℕ) → Blank 0 (replicate n 0)
zeros_blank n j low p below = go (dec_lt j (room (replicate n 0)))
  where
    zero_at : (n i : ℕ) → ◌≡◌ {A = ℕ} (get_or (replicate n 0) i 0) 0
    zero_at zero i = refl
    zero_at (suc n) zero = refl
    zero_at (suc n) (suc i) = zero_at n i

    go : Dec (j < room (replicate n 0)) → bit_of (row_at (replicate n 0) j) p ≡ false
    go (yes h) =
        bit_of_row_at (replicate n 0) j p h below ∙ ap (λ (x : ℕ). odd (x / 2 ^ (p % 8))) (zero_at n (16 * j + p / 8)) ∙ odd_zero (p % 8)
    go (no h) = ap (λ (b : List ℕ). bit_of b p) (row_at_outside (replicate n 0) j (omega arith)) ∙ no_bit_past_end [] p (omega arith)

module _ (claim : Bool) (kinds : List ℕ) (vs : List Bool) (rows : List ℕ) where
  pub none_fitted : (kept : List ℕ) → Blank 0 kept → Fitted claim kinds vs rows 0 kept 0
  none_fitted kept blank =
      record { few = omega arith; held = sym (fitting_empty claim (prefix kinds) vs); clean = λ j h. absurd (omega arith); blank = blank }

  module _ (i : ℕ) (kept : List ℕ) (to : ℕ) (done : Fitted claim kinds vs rows i kept to) (short : length vs ≤ length kinds) (into : i < room rows) where
    abbrev wide : ℕ
    wide = owned claim (prefix (kinds_behind vs kinds))

    abbrev skipped : ℕ
    skipped = owned claim (prefix (take (length vs) kinds))

    abbrev bits : ℕ → Bool
    bits = bit_of (row_at rows i)

    abbrev found : ℕ → List Row
    found n = fitting claim (prefix kinds) vs (rows_of (owned claim (prefix kinds)) n rows)

    row_values : (m : ℕ) (b : List ℕ) → row_of m b ≡ values m (bit_of b)
    unfolding row_of
    row_values m b = refl

    -- What the row adds.
    found_more : found (i + 1) ≡ found i ++ cond (fits claim (prefix kinds) vs bits) (values wide (λ p. bits (skipped + p)) ∷ []) []
    found_more =
        let one : i + 1 ≡ suc i = omega arith in
        let m = owned claim (prefix kinds) in
        ap found one
        ∙ ap (fitting claim (prefix kinds) vs) (rows_of_next m i rows into)
        ∙ fitting_append claim (prefix kinds) vs (rows_of m i rows) (row_of m (row_at rows i) ∷ [])
        ∙ ap (λ (r : Row). found i ++ fitting claim (prefix kinds) vs (r ∷ [])) (row_values m (row_at rows i))
        ∙ ap (λ (l : List Row). found i ++ l) (fitting_one claim kinds vs bits short)

    passed : fits claim (prefix kinds) vs bits ≡ false → Fitted claim kinds vs rows (i + 1) kept to
    passed misfit =
        let few = done.few in
        record {
          few = omega arith;
          held =
              done.held
              ∙ sym (append-nil (found i))
              ∙ ap (λ (b : Bool). found i ++ cond b (values wide (λ p. bits (skipped + p)) ∷ []) []) (sym misfit)
              ∙ sym found_more;
          clean = done.clean;
          blank = done.blank;
        }

    module _ (now : List ℕ) (copy : Copied bits skipped wide kept to now) (room_there : to < room kept) (narrow : wide ≤ row_bits) where
      abbrev next : ℕ
      next = to + 1

      row_now : row_of wide (row_at now to) ≡ values wide (λ p. bits (skipped + p))
      row_now =
          row_values wide (row_at now to)
          ∙ values_same wide (bit_of (row_at now to)) (λ p. bits (skipped + p)) (λ p below.
          copy.copied p (omega arith) ∙ ap (λ (b : Bool). b && bits (skipped + p)) (lt-ltb p wide below))

      copied : fits claim (prefix kinds) vs bits ≡ true → Fitted claim kinds vs rows (i + 1) now (to + 1)
      copied fit =
          let few = done.few in
          let size = copy.size in
          let one : to + 1 ≡ suc to = omega arith in
          record {
            few = omega arith;
            held =
                ap (λ (n : ℕ). rows_of wide n now) one
                ∙ rows_of_next wide to now (omega arith)
                ∙ ap₂ (λ (l : List Row) (r : Row). l ++ (r ∷ []))
                (rows_of_same wide to now kept (omega arith) (omega arith) (λ j h. copy.others j (λ e. omega arith)) ∙ done.held) row_now
                ∙ ap (λ (b : Bool). found i ++ cond b (values wide (λ p. bits (skipped + p)) ∷ []) []) (sym fit)
                ∙ sym found_more;
            clean = λ j h. clean_at j h (ℕ_discrete j to);
            blank = λ j low p below. ap (λ (r : List ℕ). bit_of r p) (copy.others j (λ e. omega arith)) ∙ done.blank j (omega arith) p below;
          }
        where
          clean_at : (j : ℕ) → j < to + 1 → Dec (j ≡ to) → stray wide (row_at now j) ≡ false
          clean_at j h (yes e) =
              ap (λ (n : ℕ). stray wide (row_at now n)) e
              ∙ none_stray wide (row_at now to) (λ k low high.
              copy.copied k high ∙ ap (λ (b : Bool). b && bits (skipped + k)) (le-ltb k wide low))
          clean_at j h (no e) = ap (stray wide) (copy.others j e) ∙ done.clean j (omega arith)

    -- Either way.
    pub one_fitted : (fit : Bool) (now : List ℕ) (next from width : ℕ) → fit ≡ fits claim (prefix kinds) vs bits → from ≡ skipped → width ≡ wide →
        to < room kept
        → wide ≤ row_bits → next ≡ to + one_if fit → Kept fit bits from width kept to now → Fitted claim kinds vs rows (i + 1) now next
    one_fitted true now next from width fit start size room_there narrow count copy =
        subst (Fitted claim kinds vs rows (i + 1) now) (sym count)
        (copied now (subst (λ (n : ℕ). Copied bits skipped n kept to now) size (subst (λ (n : ℕ). Copied bits n width kept to now) start copy)) room_there
        narrow (sym fit))
    one_fitted false now next from width fit start size room_there narrow count same =
        subst (λ (t : List ℕ). Fitted claim kinds vs rows (i + 1) t next) (sym same)
        (subst (Fitted claim kinds vs rows (i + 1) kept) (sym (count ∙ plus_none)) (passed (sym fit)))
      where
        plus_none : to + 0 ≡ to
        plus_none = omega arith

    pub kept_size : (fit : Bool) (now : List ℕ) (from width : ℕ) → Kept fit bits from width kept to now → length now ≡ length kept
    kept_size true now from width copy = copy.size
    kept_size false now from width same = ap length same

-- ---- a row that fits, or not, as it is handed back

module _ (fit : Bool) (bits : ℕ → Bool) (from width : ℕ) (before : List ℕ) (to : ℕ) where
  pub kept_copied : (now : List ℕ) → fit ≡ true → Copied bits from width before to now → (to + 1 ≡ to + one_if fit) × Kept fit bits from width before to now
  kept_copied now e copy = (ap (λ (b : Bool). to + one_if b) (sym e), subst (λ (b : Bool). Kept b bits from width before to now) (sym e) copy)

-- ---- as the loop hands it on

module _ (claim : Bool) (kinds moves : List ℕ) where
  abbrev vs : List Bool
  vs = values_of moves

  same_depth : length moves ≡ length vs
  same_depth = sym (length-map moves value_of)

  module _ {from width : ℕ} (few : length kinds ≤ max_unknowns) (short : length moves ≤ length kinds)
      (from_is : from ≡ owned claim (prefix (take (length moves) kinds)))
      (width_is : width ≡ owned claim (prefix (take (length kinds - length moves) (drop (length moves) kinds)))) where
    pub widths_few : from + width ≤ max_unknowns
    widths_few =
        let both = owned_both claim kinds (length moves) in
        let all = owned_few claim kinds in
        let rest = width_is ∙ ap (λ (l : List ℕ). owned claim (prefix l)) (part_is kinds (length moves)) in
        omega arith

    from_so : from ≡ owned claim (prefix (take (length vs) kinds))
    from_so = from_is ∙ ap (λ (n : ℕ). owned claim (prefix (take n kinds))) same_depth

    width_so : width ≡ owned claim (prefix (kinds_behind vs kinds))
    width_so =
        width_is
        ∙ ap (λ (l : List ℕ). owned claim (prefix l)) (part_is kinds (length moves))
        ∙ ap (λ (n : ℕ). owned claim (prefix (drop n kinds))) same_depth

module _ (claim : Bool) (kinds moves rows : List ℕ) (i : ℕ) (table : List ℕ) (to : ℕ) (done : Fitted claim kinds (values_of moves) rows i table to)
    (few : length kinds ≤ max_unknowns) (short : length moves ≤ length kinds) (into : i < room rows) {fit : Bool} {from width : ℕ}
    (fit_is : fit ≡ fits claim (prefix kinds) (values_of moves) (bit_of (row_at rows i))) (from_is : from ≡ owned claim (prefix (take (length moves) kinds)))
    (width_is : width ≡ owned claim (prefix (take (length kinds - length moves) (drop (length moves) kinds)))) (room_there : to < room table) where
  pub one_kept : {now : List ℕ} {next : ℕ} → next ≡ to + one_if fit → Kept fit (bit_of (row_at rows i)) from width table to now
      → (length now ≡ length table) × Fitted claim kinds (values_of moves) rows (i + 1) now next
  one_kept {now} {next} count copy =
      let shorter : length (values_of moves) ≤ length kinds = omega (arith, short, length-map moves value_of) in
      let narrow = widths_few claim kinds moves few short from_is width_is in
      let wide_so = width_so claim kinds moves few short from_is width_is in (
        kept_size claim kinds (values_of moves) rows i table to done shorter into fit now from width copy,
        one_fitted claim kinds (values_of moves) rows i table to done shorter into fit now next from width fit_is
            (from_so claim kinds moves few short from_is width_is) wide_so room_there
            (omega (arith, narrow, wide_so)) count copy,
      )

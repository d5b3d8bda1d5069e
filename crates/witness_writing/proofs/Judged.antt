-- Rows that the judge's definition accepts are accepted as bytes, with a work area of zeros. Assumes nothing.
use Prim.Native.Nat.{ℕ, ◌*◌, ◌%◌, ◌≤◌}
use Rattle.std.specs.Prelude.{Ok}
use native.Mathlib.Omega.{arith}
use mathlib.Core.Path.{◌≡◌, refl, sym, ap, ap₂, ◌∙◌}
use mathlib.Core.Bool.{Bool, true, false, cond, not, ◌&&◌, ◌||◌}
use mathlib.Core.List.{List, [], ◌∷◌, ◌++◌}
use lib.Dec.{eqb, ltb}
use lib.IntN.{ℤ}
use lib.ListN.{length, replicate, length-replicate}
use borrow.Author.Tests.{le-leb, le-ltb, eq-eqb}
use Rattle.formula.specs.Formula.{max_unknowns, max_rows, work_size, prefix, clauses}
use Rattle.formula.specs.Meaning.{matrix, bit}
use Rattle.formula.specs.Causes as Causes
use Rattle.rows.specs.Table.{rows_of, table_of, room, table_fits}
use Rattle.rows.specs.Stray.{stray_rows}
use Rattle.rows.proofs.TableLaws.{length_table_of}
use Rattle.expansion.specs.OtherSide.{side_of, other}
use Rattle.expansion.specs.Play.{Row}
use Rattle.expansion.specs.Judge.{accepted}
use Rattle.cause.specs.Cause.{unless_cause}
use Rattle.judge.specs.declared.Judgement.TheVariants as Judgement
use Rattle.judge.specs.Judge.{claims_true, other_claim, width, cause, borne_out, answer, outcome}
use Rattle.engine.proofs.run.ByteLaws.{Wide, rows_of_table, no_stray_rows}
use Rattle.engine.proofs.run.ExtendLaws.{few_unknowns}

pub none_behind : (l : List ℕ) → l ++ [] ≡ l
none_behind [] = refl
none_behind (x ∷ l) = ap (λ (m : List ℕ). x ∷ m) (none_behind l)

pub claims_so : (claim : Bool) → claims_true (bit claim) ≡ claim
claims_so true = refl
claims_so false = refl

none_over : (claim : Bool) (n : ℕ) → (other_claim (bit claim) || ltb n n) ≡ false
none_over true n = le-ltb n n (omega arith)
none_over false n = le-ltb n n (omega arith)

no_cause_by : (formula : ℕ) (fits sized over stray : Bool) → formula ≡ 0 → fits ≡ true → sized ≡ true → over ≡ false → stray ≡ false
    → cond (eqb formula 0) (cond (not fits) 4 (cond (not sized) 5 (cond over 7 (cond stray 8 0)))) formula ≡ 0
no_cause_by formula fits sized over stray a b c d e = rw (a, b, c, d, e) refl

module _ (kinds : List ℕ) (literals : List ℤ) (passes : Causes.checked kinds literals ≡ Ok (Causes.sizes kinds literals))
    (claim : Bool) (xs : List Row)
    (wide : Wide (width kinds (bit claim)) xs) (some_rows : 1 ≤ length xs) (few_rows : length xs ≤ max_rows) where
  abbrev t : List ℕ
  t = table_of xs

  abbrev m : ℕ
  m = width kinds (bit claim)

  few : m ≤ max_unknowns
  unfolding width
  few = few_unknowns kinds literals passes (other (side_of (claims_true (bit claim))))

  bytes : length t ≡ 16 * length xs
  bytes = length_table_of xs

  pub room_so : room t ≡ length xs
  room_so = omega (arith, bytes)

  fits : table_fits t ≡ true
  unfolding table_fits
  fits =
      ap₂ (λ (a b : Bool). a && b && eqb (length t % 16) 0) (le-leb 16 (length t) (omega (arith, bytes, some_rows)))
      (le-leb (length t) (max_rows * 16) (omega (arith, bytes, few_rows)))
      ∙ eq-eqb (length t % 16) 0 (omega (arith, bytes))

  no_stray : stray_rows m (room t) t ≡ false
  no_stray =
      ap₂ (λ (n : ℕ) (b : List ℕ). stray_rows m n b) room_so (sym (none_behind t)) ∙ no_stray_rows m few xs [] wide

  rows_so : rows_of m (room t) t ≡ xs
  rows_so = ap₂ (λ (n : ℕ) (b : List ℕ). rows_of m n b) room_so (sym (none_behind t)) ∙ rows_of_table m few xs [] wide

  abbrev zeros : List ℕ
  zeros = replicate work_size 0

  no_cause : cause kinds literals (bit claim) t (room t) zeros ≡ 0
  unfolding cause
  no_cause =
      no_cause_by (Causes.number (Causes.checked kinds literals)) (table_fits t) (eqb (length zeros) work_size)
      (other_claim (bit claim) || ltb (room t) (room t)) (stray_rows m (room t) t)
      (ap Causes.number passes) fits (ap (λ (n : ℕ). eqb n work_size) (length-replicate {A = ℕ} work_size 0)) (none_over claim (room t)) no_stray

  pub judge_accepts : accepted claim (prefix kinds) (matrix (clauses literals)) xs ≡ true
      → outcome kinds literals (bit claim) t (room t) zeros ≡ Ok Judgement.Accepted
  unfolding outcome borne_out
  judge_accepts right =
      let borne : borne_out kinds literals (bit claim) t (room t) ≡ true =
      ap₂ (λ (c : Bool) (rows : List Row). accepted c (prefix kinds) (matrix (clauses literals)) rows) (claims_so claim) rows_so ∙ right in
      ap (λ (n : ℕ). unless_cause n (answer (borne_out kinds literals (bit claim) t (room t)))) no_cause ∙ ap (λ (b : Bool). Ok (answer b)) borne

-- Any run of a formula over at most 256 rows a side, with any preferences, limit and clearing: its rows as they were left make a file, and the judge
-- accepts that file. Assumes nothing.
use Prim.Native.Nat.{ℕ, suc, ◌*◌, ◌≤◌}
use Rattle.std.specs.Prelude.{Ok}
use native.Mathlib.Omega.{arith}
use mathlib.Core.Path.{◌≡◌, refl, sym, ap, ap₂, subst, ◌∙◌}
use mathlib.Core.Bool.{Bool, true, false}
use mathlib.Core.List.{List, []}
use lib.IntN.{ℤ}
use lib.ListN.{length, take, drop, replicate, length-append, length-map}
use lib.Seq.{take_all, take_at}
use Rattle.formula.specs.Formula.{max_rows, work_size, Kind, universal, existential, prefix, clauses}
use Rattle.formula.specs.Meaning.{matrix}
use Rattle.formula.specs.Causes.{checked, sizes}
use Rattle.rows.specs.Table.{table_of, room}
use Rattle.rows.proofs.TableLaws.{length_table_of}
use Rattle.expansion.specs.Judge.{accepted}
use Rattle.judge.specs.declared.Judgement.TheVariants as Judgement
use Rattle.judge.specs.Judge.{width, outcome}
use Rattle.rounds.specs.Run.{Entry, Table, rows, is_false, is_true, Outcome, Lent, run}
use Rattle.rounds.proofs.Bounds.{row_length, count_in_room}
use Rattle.rounds.proofs.RunLaws.{run_reached}
use Rattle.engine.specs.declared.run.Outcome.{Outcome as Returned}
use Rattle.engine.specs.Outcome.{reported, row_bytes}
use Rattle.engine.proofs.run.ByteLaws.{Wide}
use Rattle.engine.proofs.run.GrowingLaws.{wide_of_sized}
use Rattle.witness.specs.declared.Record.{Record}
use Rattle.witness.specs.File.{file, size, write_cause}
use Rattle.judgement.specs.declared.Finding.TheVariants as Finding
use Rattle.judgement.specs.Finding as judging
use Rattle.judgement.proofs.FindingLaws.{same_sizes, record_claimed, formula_read}
use Rattle.witness_writing.specs.WitnessFile.{side_record}
use Rattle.witness_writing.specs.Private.Steps.{Front, Ran}
use Rattle.witness_writing.proofs.Settled.{rows_accepted, some_row}
use Rattle.witness_writing.proofs.Judged.{judge_accepts}
use Rattle.witness_writing.proofs.FileLaws.{again, read_so, true_fine, false_fine, true_same, false_same, true_size, false_size}

-- The record of the side that settled a run, by its outcome.
abbrev pub true_record : ℕ → ℕ → Outcome → Record
true_record unknowns clauses o = side_record true unknowns clauses (length o.S) o.round

abbrev pub false_record : ℕ → ℕ → Outcome → Record
false_record unknowns clauses o = side_record false unknowns clauses (length o.A) o.round

-- ---- what such a run comes to

pub record Borne (kinds : List ℕ) (literals : List ℤ) (o : Outcome) : Type 0 where
  pub few_a : length o.A ≤ max_rows
  pub few_s : length o.S ≤ max_rows
  pub few_rounds : o.round ≤ suc max_rows
  pub wide_a : Wide (width kinds 0) (rows o.A)
  pub wide_s : Wide (width kinds 1) (rows o.S)
  -- The rows of the side that settled it bear out its answer.
  pub false_borne : o.answer ≡ is_false → accepted false (prefix kinds) (matrix (clauses literals)) (rows o.A) ≡ true
  pub true_borne : o.answer ≡ is_true → accepted true (prefix kinds) (matrix (clauses literals)) (rows o.S) ≡ true

-- What is lent to it: the formula, preferences, room for rows of each side, and how often the universal table is cleared.
abbrev pub lending : List ℕ → List ℤ → (ℕ → Bool) → ℕ → ℕ → ℕ → Lent
lending kinds literals prefer room_a room_s clear_every =
    record { ks = prefix kinds; phi = matrix (clauses literals); prefer = prefer; room_a = room_a; room_s = room_s; clear_every = clear_every }

module _ (kinds : List ℕ) (literals : List ℤ) (prefer : ℕ → Bool) (room_a room_s clear_every limit : ℕ) where
  abbrev l : Lent
  l = lending kinds literals prefer room_a room_s clear_every

  pub borne_so : 1 ≤ room_a → room_a ≤ max_rows → 1 ≤ room_s → room_s ≤ max_rows → Borne kinds literals (run l limit)
  unfolding width
  borne_so some_a most_a some_s most_s =
      let in_s : length (run l limit).S ≤ room_s = count_in_room l limit existential some_s in
      record {
        few_a = omega (arith, count_in_room l limit universal some_a, most_a);
        few_s = omega (arith, in_s, most_s);
        few_rounds = omega (arith, (run_reached l limit).round_s, in_s, most_s);
        wide_a = wide_of_sized (width kinds 0) (rows (run l limit).A) (row_length l limit universal);
        wide_s = wide_of_sized (width kinds 1) (rows (run l limit).S) (row_length l limit existential);
        false_borne = rows_accepted l limit false;
        true_borne = rows_accepted l limit true;
      }

length_rows : (t : Table) → length (rows t) ≡ length t
length_rows t = length-map t (λ (x : Entry). x.row)

bytes_of_table : (t : Table) → length (table_of (rows t)) ≡ 16 * length t
bytes_of_table t = omega (arith, length_table_of (rows t), length_rows t)

-- ---- its rows as they were left

module _ {kinds : List ℕ} {literals : List ℤ} {o : Outcome} (b : Borne kinds literals o) where
  pub some_a : o.answer ≡ is_false → 1 ≤ length o.A
  some_a is = omega (arith, length_rows o.A, some_row false (prefix kinds) (matrix (clauses literals)) (rows o.A) (b.false_borne is))

  pub some_s : o.answer ≡ is_true → 1 ≤ length o.S
  some_s is = omega (arith, length_rows o.S, some_row true (prefix kinds) (matrix (clauses literals)) (rows o.S) (b.true_borne is))

  front : (t : Table) (found : List ℕ) → Front t (row_bytes t found)
  unfolding row_bytes
  front t found = take_at (table_of (rows t)) (drop (16 * length t) found) (16 * length t) (omega (arith, bytes_of_table t))

  there : (t : Table) (found : List ℕ) → 16 * length t ≤ length (row_bytes t found)
  unfolding row_bytes
  there t found = omega (arith, length-append (table_of (rows t)) (drop (16 * length t) found), bytes_of_table t)

  pub ran_so : (ks : List Kind) (found_a found_s : List ℕ) {r : Returned} {U E : List ℕ}
      → r ≡ reported ks o → U ≡ row_bytes o.A found_a → E ≡ row_bytes o.S found_s → Ran o r U E
  ran_so ks found_a found_s reported_so u_so e_so =
      record {
        answer_so = ap (λ (x : Returned). x.answer) reported_so;
        round_so = ap (λ (x : Returned). x.round) reported_so;
        universal_so = ap (λ (x : Returned). x.universal) reported_so;
        existential_so = ap (λ (x : Returned). x.existential) reported_so;
        universal_front = subst (Front o.A) (sym u_so) (front o.A found_a);
        existential_front = subst (Front o.S) (sym e_so) (front o.S found_s);
        universal_there = subst (λ (bytes : List ℕ). 16 * length o.A ≤ length bytes) (sym u_so) (there o.A found_a);
        existential_there = subst (λ (bytes : List ℕ). 16 * length o.S ≤ length bytes) (sym e_so) (there o.S found_s);
        few_universal = b.few_a;
        few_existential = b.few_s;
        few_rounds = b.few_rounds;
        some_universal = some_a;
        some_existential = some_s;
      }

-- ---- the file of the side that settled it

-- The answer by its number.
all_rows : (t : Table) (k : ℕ) → k ≡ length t → take (16 * k) (table_of (rows t)) ≡ table_of (rows t)
all_rows t k e = take_all (16 * k) (table_of (rows t)) (omega (arith, e, bytes_of_table t))

front_at : (t : Table) (bytes : List ℕ) (k : ℕ) → k ≡ length t → Front t bytes → take (16 * k) bytes ≡ take (16 * k) (table_of (rows t))
front_at t bytes k e front = ap (λ (n : ℕ). take (16 * n) bytes) e ∙ front ∙ sym (all_rows t k e)

module _ (unknowns clause_count : ℕ) {o : Outcome} {r : Returned} {U E : List ℕ} (ran : Ran o r U E) where
  module _ (is : o.answer ≡ is_true) where
    abbrev r_s : Record
    r_s = side_record true unknowns clause_count r.existential r.round

    least_s : 1 ≤ r.existential
    least_s = omega (arith, ran.existential_so, ran.some_existential is)

    most_s : r.existential ≤ max_rows
    most_s = omega (arith, ran.existential_so, ran.few_existential)

    pub true_writes : write_cause r_s E E (size r_s) ≡ 0
    true_writes = true_fine unknowns clause_count r.existential r.round least_s most_s E E (omega (arith, ran.existential_so, ran.existential_there))

    pub true_bytes : file r_s E E ≡ file (true_record unknowns clause_count o) [] (table_of (rows o.S))
    true_bytes =
        true_same unknowns clause_count r.existential r.round least_s most_s E E (table_of (rows o.S))
        (front_at o.S E r.existential ran.existential_so ran.existential_front)
        ∙ ap₂ (λ (k n : ℕ). file (side_record true unknowns clause_count k n) [] (table_of (rows o.S))) ran.existential_so ran.round_so

  module _ (is : o.answer ≡ is_false) where
    abbrev r_a : Record
    r_a = side_record false unknowns clause_count r.universal r.round

    least_a : 1 ≤ r.universal
    least_a = omega (arith, ran.universal_so, ran.some_universal is)

    most_a : r.universal ≤ max_rows
    most_a = omega (arith, ran.universal_so, ran.few_universal)

    pub false_writes : write_cause r_a U U (size r_a) ≡ 0
    false_writes = false_fine unknowns clause_count r.universal r.round least_a most_a U U (omega (arith, ran.universal_so, ran.universal_there))

    pub false_bytes : file r_a U U ≡ file (false_record unknowns clause_count o) (table_of (rows o.A)) []
    false_bytes =
        false_same unknowns clause_count r.universal r.round least_a most_a U U (table_of (rows o.A))
        (front_at o.A U r.universal ran.universal_so ran.universal_front)
        ∙ ap₂ (λ (k n : ℕ). file (side_record false unknowns clause_count k n) (table_of (rows o.A)) []) ran.universal_so ran.round_so

-- ---- the judge over that file

abbrev zeros : List ℕ
zeros = replicate work_size 0

-- A file whose record has the formula's sizes and a claim, and whose rows the judge accepts.
claim_accepted : (kinds : List ℕ) (literals : List ℤ) (f : List ℕ) (claim : ℕ) (bytes : List ℕ) → judging.claimed_rows f claim ≡ bytes
    → outcome kinds literals claim bytes (room bytes) zeros ≡ Ok Judgement.Accepted
    → judging.Finds (judging.on_claim kinds literals f claim) zeros (Finding.Accepted claim) (judging.on_claim kinds literals f claim zeros).work
unfolding judging.on_claim
claim_accepted kinds literals f claim bytes same right =
    record {
      found =
          sym (ap (λ (x : List ℕ). judging.judged claim (outcome kinds literals claim x (room x) zeros)) same ∙ ap (judging.judged claim) right);
      area = refl;
    }

module _ (kinds : List ℕ) (literals : List ℤ) (clause_count : ℕ) (passes : checked kinds literals ≡ Ok (sizes kinds literals)) (o : Outcome)
    (b : Borne kinds literals o) where
  module _ (is : o.answer ≡ is_true) where
    abbrev r_true : Record
    r_true = true_record (length kinds) clause_count o

    abbrev f_true : List ℕ
    f_true = file r_true [] (table_of (rows o.S))

    fine_true : write_cause r_true [] (table_of (rows o.S)) (size r_true) ≡ 0
    fine_true =
        true_fine (length kinds) clause_count (length o.S) o.round (some_s b is) b.few_s [] (table_of (rows o.S))
        (omega (arith, bytes_of_table o.S))

    rows_true : judging.claimed_rows f_true 1 ≡ table_of (rows o.S)
    rows_true = (again r_true [] (table_of (rows o.S)) fine_true).existential_back ∙ all_rows o.S (length o.S) refl

    judged_true : outcome kinds literals 1 (table_of (rows o.S)) (room (table_of (rows o.S))) zeros ≡ Ok Judgement.Accepted
    judged_true =
        judge_accepts kinds literals passes true (rows o.S) b.wide_s (omega (arith, some_s b is, length_rows o.S))
        (omega (arith, b.few_s, length_rows o.S))
        (b.true_borne is)

    pub found_true : Finding.Accepted 1 ≡ (judging.on_formula kinds literals clause_count f_true zeros).finding
    found_true =
        (formula_read kinds literals f_true zeros clause_count r_true (read_so r_true [] (table_of (rows o.S)) fine_true refl)
        (record_claimed kinds literals f_true zeros clause_count r_true (same_sizes r_true (length kinds) clause_count refl refl refl) refl
        (claim_accepted kinds literals f_true 1 (table_of (rows o.S)) rows_true judged_true))).found

    pub short_true : length f_true ≤ 4106
    short_true =
        let most = true_size (length kinds) clause_count (length o.S) o.round (some_s b is) b.few_s in
        omega (arith, (again r_true [] (table_of (rows o.S)) fine_true).whole, most)

  module _ (is : o.answer ≡ is_false) where
    abbrev r_false : Record
    r_false = false_record (length kinds) clause_count o

    abbrev f_false : List ℕ
    f_false = file r_false (table_of (rows o.A)) []

    fine_false : write_cause r_false (table_of (rows o.A)) [] (size r_false) ≡ 0
    fine_false =
        false_fine (length kinds) clause_count (length o.A) o.round (some_a b is) b.few_a (table_of (rows o.A)) []
        (omega (arith, bytes_of_table o.A))

    rows_false : judging.claimed_rows f_false 0 ≡ table_of (rows o.A)
    rows_false = (again r_false (table_of (rows o.A)) [] fine_false).universal_back ∙ all_rows o.A (length o.A) refl

    judged_false : outcome kinds literals 0 (table_of (rows o.A)) (room (table_of (rows o.A))) zeros ≡ Ok Judgement.Accepted
    judged_false =
        judge_accepts kinds literals passes false (rows o.A) b.wide_a (omega (arith, some_a b is, length_rows o.A))
        (omega (arith, b.few_a, length_rows o.A))
        (b.false_borne is)

    pub found_false : Finding.Accepted 0 ≡ (judging.on_formula kinds literals clause_count f_false zeros).finding
    found_false =
        (formula_read kinds literals f_false zeros clause_count r_false (read_so r_false (table_of (rows o.A)) [] fine_false refl)
        (record_claimed kinds literals f_false zeros clause_count r_false (same_sizes r_false (length kinds) clause_count refl refl refl) refl
        (claim_accepted kinds literals f_false 0 (table_of (rows o.A)) rows_false judged_false))).found

    pub short_false : length f_false ≤ 4106
    short_false =
        let most = false_size (length kinds) clause_count (length o.A) o.round (some_a b is) b.few_a in
        omega (arith, (again r_false (table_of (rows o.A)) [] fine_false).whole, most)

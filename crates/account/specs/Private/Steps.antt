-- What private functions ask and promise. Assumes nothing.
use Rattle.std.specs.Prelude.{ℕ, ◌+◌, ◌*◌, ◌-◌, ◌≤◌, ◌≡◌, List, [], ◌∷◌, ℤ, length, take, Ok}
use Rattle.formula.specs.Formula.{max_unknowns, max_rows}
use Rattle.formula.specs.Causes.{checked, sizes}
use Rattle.rows.specs.Row.{row_of}
use Rattle.rows.specs.Table.{row_at, rows_of}
use Rattle.expansion.specs.Play.{Row}
use Rattle.rounds.specs.Run.{Table, under_mark}
use Rattle.engine.specs.Outcome.{number_of}
use Rattle.engine.specs.declared.run.Outcome.{Outcome}
use Rattle.account.specs.Account.{each, Facts}

-- Rows with their marks.
abbrev pub joined : List Row → List ℕ → Table
joined rows marks = each (λ (row : Row) (mark : ℕ). under_mark mark row ∷ []) rows marks

-- A formula that is accepted, with as many names as kinds.
pub record Accepts (kinds : List ℕ) (literals : List ℤ) (names : List ℕ) : Type 0 where
  pub passes : checked kinds literals ≡ Ok (sizes kinds literals)
  pub as_many : length names ≡ length kinds

-- What a run returned and left, read below the counts.
abbrev pub told : List ℕ → List ℕ → ℕ → ℕ → ℕ → Outcome → List ℕ → List ℕ → List ℕ → List ℕ → List ℕ → List ℕ → Facts
told kinds names universals variables clauses end A a_marks a_counts S s_marks s_counts =
    record {
      answer = number_of end.answer;
      variables = variables;
      clauses = clauses;
      round = end.round;
      kinds = kinds;
      names = names;
      opening = row_of end.block (row_at end.opening 0);
      A = joined (rows_of universals end.universal A) (take end.universal a_marks);
      a_counts = take end.universal a_counts;
      S = joined (rows_of (length kinds - universals) end.existential S) (take end.existential s_marks);
      s_counts = take end.existential s_counts;
    }

-- The sizes of all that.
pub record Tables (kinds names : List ℕ) (universals : ℕ) (end : Outcome) (A a_marks a_counts S s_marks s_counts : List ℕ) : Type 0 where
  pub as_many : length names ≡ length kinds
  pub few : length kinds ≤ max_unknowns
  pub fewer : universals ≤ length kinds
  pub first : end.block ≤ length kinds
  pub few_a : end.universal ≤ max_rows
  pub few_s : end.existential ≤ max_rows
  pub rows_a : length A ≡ 16 * max_rows
  pub marks_a : length a_marks ≡ max_rows
  pub counts_a : length a_counts ≡ max_rows
  pub rows_s : length S ≡ 16 * max_rows
  pub marks_s : length s_marks ≡ max_rows
  pub counts_s : length s_counts ≡ max_rows

-- A side's rows have a mark and a count each, and there is room for their lines.
pub record Side (text : List ℕ) (at : ℕ) (label : List ℕ) (m : ℕ) (rows marks counts : List ℕ) : Type 0 where
  pub few : m ≤ max_unknowns
  pub short : length label ≤ 12
  pub there : 16 * length marks ≤ length rows
  pub counted : length counts ≡ length marks
  pub fits : at + 192 * length marks ≤ length text

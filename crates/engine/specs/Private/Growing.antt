-- What the functions below `run` promise each other: how a table's bytes stand for a table of the run, and what a side's step of a round
-- makes of it.
-- Assumes nothing.
use Rattle.std.specs.Prelude.{ℕ, ◌*◌, ◌-◌, ◌≤◌, ◌<◌, ◌≡◌, Bool, true, false, cond, List, [], ℤ, length, get_or, replicate, Result, Ok, Err}
use Rattle.std.specs.Prelude.{Option as CodeOption, None, Some}
use Rattle.std.proofs.Math.Option.{Option, none, some}
use Rattle.cause.specs.declared.Cause.{Cause}
use Rattle.cause.specs.Cause.{told}
use Rattle.formula.specs.Formula.{work_size, Kind, existential, universal, prefix, clauses}
use Rattle.formula.specs.Meaning.{matrix}
use Rattle.formula.specs.Causes.{count, checked, sizes}
use Rattle.preference.specs.Preference.{prefer}
use Rattle.rows.specs.Table.{room, table_fits, zeroed}
use Rattle.expansion.specs.OtherSide.{side_of, other}
use Rattle.expansion.specs.Play.{Row}
use Rattle.expansion.specs.Model.{search}
use Rattle.engine.specs.Private.Prepared.{Prepared, KnownLeads}
use Rattle.engine.specs.declared.search.Search.{Search}
use Rattle.engine.specs.declared.search.Search.TheVariants.{Found as ModelFound, NoModel}
use Rattle.engine.specs.declared.run.Answer.{Answer}
use Rattle.engine.specs.declared.run.Answer.TheVariants.{False, True, Spent, NoRoomUniversal, NoRoomExistential, Refused}
use Rattle.engine.specs.declared.run.End.{End}
use Rattle.engine.specs.declared.run.Outcome.{Outcome}
use Rattle.engine.specs.declared.run.Step.{Step}
use Rattle.engine.specs.declared.run.Step.TheVariants.{NoModel as WithoutModel, NoRoom as WithoutRoom, Grown as GrownTo}
use Rattle.opening.specs.Start.{equal_from_start, first_bits}
use Rattle.rounds.specs.Run.{Table, rows, grown, if_fits, clears, highest, Outcome as RunOutcome}
use Rattle.engine.specs.Outcome.{Given, lent, reached, tables_fit, tables_counted, cause, named, row_bytes, mark_numbers}

-- None of the causes 1 to 3 applies.
abbrev pub Passes : List ℕ → List ℤ → Type 0
Passes kinds literals = checked kinds literals ≡ Ok (sizes kinds literals)

-- What holds of the formula that tables were made of (search), where the last row below `known` of a side's own leads its models over the others' rows.
abbrev pub Over : List ℕ → List ℕ → List ℕ → List ℕ → List ℕ → List ℕ → ℕ → List ℕ → ℕ → Bool → (List ℤ → Type 0) → Type 0
Over kinds codes index terms preferences own known others other_count side P =
    (literals : List ℤ) → Prepared kinds literals codes index terms → KnownLeads kinds literals preferences own known others other_count side → P literals

-- The model was found.
abbrev pub is_found : Result Search Cause → Bool
is_found (Ok ModelFound) = true
is_found (Ok NoModel) = false
is_found (Err cause) = false

-- The lent bytes hold the rows of a side's table from the start, and what was found behind them ..
pub record HoldsRows (kinds : List ℕ) (side : Kind) (t : Table) (found row_part : List ℕ) : Type 0 where
  pub fits : table_fits found ≡ true
  pub in_room : length t ≤ room found
  pub sized : (i : ℕ) → i < length (rows t) → length (get_or (rows t) i []) ≡ count side (prefix kinds)
  pub in_bytes : row_part ≡ row_bytes t found

-- .. and so the marks.
pub record Holds (kinds : List ℕ) (side : Kind) (t : Table) (found found_marks row_part mark_part : List ℕ) : Type 0 where
  pub in_rows : HoldsRows kinds side t found row_part
  pub one_a_row : length found_marks ≡ room found
  pub in_marks : mark_part ≡ mark_numbers t found_marks

-- A side's step of a round: no model, no room, or the table grown.
pub data Half : Type 0 where
  no_model no_room : Half
  grows : Table → Half

abbrev pub half_fit : Option Table → Half
half_fit none = no_room
half_fit (some t) = grows t

abbrev pub half : ℕ → ℕ → Table → Option (List Row) → Half
half place r t none = no_model
half place r t (some yielded) = half_fit (if_fits place (grown r t yielded))

abbrev pub half_table : Table → Half → Table
half_table t no_model = t
half_table t no_room = t
half_table t (grows u) = u

abbrev pub half_end : Half → Step
half_end no_model = WithoutModel
half_end no_room = WithoutRoom
half_end (grows u) = GrownTo (length u)

-- Step of a side over the other's rows, in the terms of the lent bytes.
abbrev pub half_of : List ℕ → List ℤ → List ℕ → Kind → ℕ → ℕ → Table → Table → Half
half_of kinds literals preferences side place r from t =
    half place r t (search (prefer preferences) side (prefix kinds) (matrix (clauses literals)) (rows from))

pub record Extended (kinds : List ℕ) (side : Kind) (t : Table) (h : Half) (found found_marks : List ℕ) (result : Step) (row_part mark_part work : List ℕ) : Type 0 where
  pub ended : result ≡ half_end h
  pub holds : Holds kinds side (half_table t h) found found_marks row_part mark_part
  pub work_long : length work ≡ work_size

-- What a side's step makes of a table t that the lent bytes hold, whatever was found behind its rows.
abbrev pub Extends : List ℕ → List ℤ → List ℕ → List ℕ → ℕ → Bool → List ℕ → List ℕ → ℕ → ℕ → List ℕ → Step → List ℕ → List ℕ → List ℕ → Type 0
Extends kinds literals preferences others other_count side row_part mark_part n mark work result row_part' mark_part' work' =
    (from t : Table) (from_found found found_marks : List ℕ)
    → Passes kinds literals
    → other_count ≡ length from
    → n ≡ length t
    → HoldsRows kinds (other (side_of side)) from from_found others
    → Holds kinds (side_of side) t found found_marks row_part mark_part
    → length work ≡ work_size
    → Extended kinds (side_of side) t (half_of kinds literals preferences (side_of side) (room found) mark from t) found found_marks result row_part' mark_part' work'

-- What was found is zero at the first n places, in rows and marks.
pub record Blank (n : ℕ) (found found_marks : List ℕ) : Type 0 where
  pub no_rows : zeroed (16 * n) found ≡ found
  pub no_marks : zeroed n found_marks ≡ found_marks

-- The same of the universal table in round r, which may clear it: it then grows from the empty one. As many places as it had rows were found zero, so
-- that they are as found where they are given up.
abbrev pub ExtendsUniversal : List ℕ → List ℤ → List ℕ → List ℕ → ℕ → List ℕ → List ℕ → ℕ → ℕ → ℕ → ℕ → List ℕ → Step → List ℕ → List ℕ → List ℕ → Type 0
ExtendsUniversal kinds literals preferences others other_count row_part mark_part n clear_every r mark work result row_part' mark_part' work' =
    (from t : Table) (from_found found found_marks : List ℕ) (place : ℕ)
    → Passes kinds literals
    → other_count ≡ length from
    → n ≡ length t
    → HoldsRows kinds existential from from_found others
    → Holds kinds universal t found found_marks row_part mark_part
    → Blank (length t) found found_marks
    → room found ≡ place
    → length work ≡ work_size
    → Extended kinds universal t (half_of kinds literals preferences universal place mark from (cond (clears clear_every r) [] t))
    found found_marks result row_part' mark_part' work'

-- A step that has a model, by what it adds.
abbrev pub step_of : CodeOption ℕ → Step
step_of (Some end) = GrownTo end
step_of None = WithoutRoom

abbrev pub said : Answer → ℕ → ℕ → ℕ → End
said a r n k = record { answer = a; round = r; universal = n; existential = k }

-- The answer where a side's step ends the run: it has no model, or no room. Spent, where the run goes on.
abbrev pub existential_stop : Step → Answer
existential_stop WithoutModel = False
existential_stop WithoutRoom = NoRoomExistential
existential_stop (GrownTo end) = Spent

abbrev pub universal_stop : Step → Answer
universal_stop WithoutModel = True
universal_stop WithoutRoom = NoRoomUniversal
universal_stop (GrownTo end) = Spent

-- The end of a run with the first bits of a table's last row, as many as the prefix has unknowns of a kind in front.
abbrev pub opened_from : End → List ℕ → ℕ → List ℕ → ℕ → Outcome
opened_from e kinds kind table n =
    record {
      answer = e.answer;
      round = e.round;
      universal = e.universal;
      existential = e.existential;
      opening = first_bits table (n - 1) (equal_from_start kind kinds);
      block = equal_from_start kind kinds;
    }

abbrev pub not_opened : End → Outcome
not_opened e = record { answer = e.answer; round = e.round; universal = e.universal; existential = e.existential; opening = replicate 16 0; block = 0 }

abbrev pub opened_by : Answer → End → List ℕ → List ℕ → List ℕ → Outcome
opened_by True e kinds A S = opened_from e kinds 0 S e.existential
opened_by False e kinds A S = opened_from e kinds 1 A e.universal
opened_by Spent e kinds A S = not_opened e
opened_by NoRoomUniversal e kinds A S = not_opened e
opened_by NoRoomExistential e kinds A S = not_opened e
opened_by (Refused n) e kinds A S = not_opened e

-- By the answer: true is opened from the existential rows, false from the universal ones.
abbrev pub with_opening : End → List ℕ → List ℕ → List ℕ → Outcome
with_opening e kinds A S = opened_by e.answer e kinds A S

-- The four lent tables hold an outcome's two.
pub record HoldsBoth (kinds a_found a_marks_found s_found s_marks_found : List ℕ) (o : RunOutcome) (a_rows a_marks s_rows s_marks : List ℕ) : Type 0 where
  pub holds_a : Holds kinds universal o.A a_found a_marks_found a_rows a_marks
  pub holds_s : Holds kinds existential o.S s_found s_marks_found s_rows s_marks

-- What is returned and left is that of an outcome.
pub record Shows (kinds a_found a_marks_found s_found s_marks_found : List ℕ) (o : RunOutcome) (result : End) (a_rows a_marks s_rows s_marks work : List ℕ) : Type 0 where
  pub as_returned : result ≡ said (named o.answer) o.round (length o.A) (length o.S)
  pub both : HoldsBoth kinds a_found a_marks_found s_found s_marks_found o a_rows a_marks s_rows s_marks
  pub work_long : length work ≡ work_size

-- What is returned and left is that of the run.
abbrev pub ShowsRun : Given → End → List ℕ → List ℕ → List ℕ → List ℕ → List ℕ → Type 0
ShowsRun g =
    Shows g.kinds
    (zeroed (16 * highest (lent g) g.limit) g.found.universal_rows) (zeroed (highest (lent g) g.limit) g.found.universal_marks)
    g.found.existential_rows g.found.existential_marks
    (reached g)

-- The formula is accepted, the tables fit and the work area has its size.
pub record Ready (kinds : List ℕ) (literals : List ℤ) (a_rows a_marks a_counts s_rows s_marks s_counts work : List ℕ) (universals : ℕ) : Type 0 where
  pub passes : Passes kinds literals
  pub tables : tables_fit a_rows a_marks s_rows s_marks ≡ true
  pub counts : tables_counted a_rows a_counts s_rows s_counts ≡ true
  pub work_long : length work ≡ work_size
  pub counted : universals ≡ count universal (prefix kinds)

-- The first cause that applies, or where none does and all is ready for a run the number of the universal unknowns.
pub record FirstCause (g : Given) (result : Result ℕ Cause) : Type 0 where
  pub first : told result ≡ cause g
  pub ready : (universals : ℕ) → result ≡ Ok universals
      → Ready g.kinds g.literals g.found.universal_rows g.found.universal_marks g.found.universal_counts g.found.existential_rows
      g.found.existential_marks g.found.existential_counts g.found.work universals
  pub some_limit : (universals : ℕ) → result ≡ Ok universals → 1 ≤ g.limit

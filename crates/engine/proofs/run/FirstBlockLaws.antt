-- The memory of a search, in bytes: the last row that a side's table holds leads its models over the rows that the other's bytes hold. Assumes nothing.
use Prim.Native.Nat.{ℕ, ◌+◌, ◌-◌, ◌<◌}
use native.Mathlib.Omega.{arith}
use mathlib.Core.Path.{◌≡◌, refl, sym, ap, subst, ◌∙◌}
use mathlib.Core.Bool.{Bool, true, false, cond}
use mathlib.Core.List.{List, [], ◌∷◌}
use mathlib.Core.Option.{Option, none, some}
use lib.Dec.{leb}
use lib.IntN.{ℤ}
use lib.ListN.{length}
use Rattle.formula.specs.Formula.{work_size, Kind, existential, prefix, clauses}
use Rattle.formula.specs.Meaning.{matrix}
use Rattle.formula.specs.Causes.{count}
use Rattle.preference.specs.Preference.{prefer}
use Rattle.rows.specs.Row.{row_of}
use Rattle.rows.specs.Table.{room, row_at}
use Rattle.rows.proofs.RowLaws.{row_of_bytes_of}
use Rattle.expansion.specs.Side.{flags, goal}
use Rattle.expansion.specs.OtherSide.{side_of, other}
use Rattle.expansion.specs.Play.{Row}
use Rattle.expansion.specs.Model.{search}
use Rattle.expansion.specs.Private.Memory.{LeadsModels}
use Rattle.engine.specs.Private.Prepared.{KnownLeads}
use Rattle.rounds.specs.Run.{Table, rows, grown, clears, run}
use Rattle.rounds.specs.Opening.{last_row}
use Rattle.rounds.proofs.TableLaws.{extends_itself, extends_grown, Extends as ExtendsTable}
use Rattle.rounds.proofs.RunLaws.{existential_led, universal_led}
use Rattle.engine.specs.declared.run.Step.{Step}
use Rattle.engine.specs.declared.run.Step.TheVariants.{Grown as GrownTo}
use Rattle.engine.specs.Outcome.{Given, lent}
use Rattle.engine.specs.Private.Growing.{Passes, HoldsRows, half, half_fit, half_table, Extends}
use Rattle.engine.proofs.run.ExtendLaws.{few_unknowns, read_rows}
use Rattle.engine.proofs.run.LoopLaws.{Going, first, grown_to}
use Rattle.engine.proofs.run.OpeningLaws.{last_row_at, length_last_row}

-- The last row, by its bytes.
last_row_read : (kinds : List ℕ) (literals : List ℤ) → Passes kinds literals → (side : Kind) (t : Table) (found R : List ℕ) → HoldsRows kinds side t found R
    → 0 < length t → row_of (count side (prefix kinds)) (row_at R (length t - 1)) ≡ last_row (rows t)
last_row_read kinds literals passes side [] found R held some_row = absurd (omega arith)
last_row_read kinds literals passes side (x ∷ t) found R held some_row =
    ap (λ (b : List ℕ). row_of (count side (prefix kinds)) (row_at b (length (x ∷ t) - 1))) held.in_bytes
    ∙ ap (row_of (count side (prefix kinds))) (last_row_at x t found)
    ∙ row_of_bytes_of (count side (prefix kinds)) (last_row (rows (x ∷ t))) (length_last_row (count side (prefix kinds)) x t held.sized)
    (few_unknowns kinds literals passes side)

known_leads : (kinds : List ℕ) (literals : List ℤ) (preferences others : List ℕ) (n : ℕ) (side? : Bool) (work : List ℕ) (from : Table) (from_found : List ℕ)
    (t : Table) (found R : List ℕ) (known : ℕ)
    → Passes kinds literals → n ≡ length from → HoldsRows kinds (other (side_of side?)) from from_found others → length work ≡ work_size → HoldsRows kinds
    (side_of side?) t found R
    → known ≡ length t
    → (0 < length t → LeadsModels (prefer preferences) (flags (side_of side?) (prefix kinds)) (goal (side_of side?) (matrix (clauses literals))) (rows from)
    (last_row (rows t)))
    → KnownLeads kinds literals preferences R known others n side?
known_leads kinds literals preferences others n side? work from from_found t found R known passes counted held_from long held known_is led some_Known =
    let Leads : List Row → Row → Type 0 = LeadsModels (prefer preferences) (flags (side_of side?) (prefix kinds))
    (goal (side_of side?) (matrix (clauses literals))) in
    let some_row : 0 < length t = omega arith in
    subst (λ (xs : List Row). Leads xs (row_of (count (side_of side?) (prefix kinds)) (row_at R (known - 1))))
    (sym (read_rows kinds literals preferences others n side? work from from_found passes counted held_from long))
    (subst (Leads (rows from))
    (sym (ap (λ (k : ℕ). row_of (count (side_of side?) (prefix kinds)) (row_at R (k - 1))) known_is ∙ last_row_read kinds literals passes (side_of side?) t
    found R held some_row))
    (led some_row))

-- A side's step only adds to its table.
half_extends : (place r : ℕ) (t : Table) (s : Option (List Row)) → ExtendsTable t (half_table t (half place r t s))
half_extends place r t none = extends_itself t
half_extends place r t (some new) = go (leb (length (grown r t new)) place)
  where
    go : (b : Bool) → ExtendsTable t (half_table t (half_fit (cond b (some (grown r t new)) none)))
    go true = extends_grown r t new
    go false = extends_itself t

module _ (g : Given) (made u x : ℕ) (AR AM SR SM W : List ℕ) (now_going : Going g made u x AR AM SR SM W) where
  -- The existential side's memory holds unless the last round has cleared the universal table.
  pub known_s : (known : ℕ) → known ≡ cond (clears g.clear_every made) 0 x → KnownLeads g.kinds g.literals g.preferences SR known AR u false
  known_s known = go (clears g.clear_every made) refl
    where
      go : (b : Bool) → clears g.clear_every made ≡ b → known ≡ cond b 0 x → KnownLeads g.kinds g.literals g.preferences SR known AR u false
      go true e is = λ some_Known. absurd (omega arith)
      go false e is =
          known_leads g.kinds g.literals g.preferences AR u false W _ _ _ _ SR known now_going.passes now_going.counted_a
          now_going.both.holds_a.in_rows
          now_going.work_long now_going.both.holds_s.in_rows (is ∙ now_going.counted_s) (existential_led (lent g) made now_going.going e)

  -- The universal side's holds over the rows that the round's first step has left.
  pub known_a : (step : Step) (SR' SM' W' : List ℕ) → Extends g.kinds g.literals g.preferences AR u false SR SM x (made + 1) W step SR' SM' W' →
      made < g.limit
      → (k : ℕ) → step ≡ GrownTo k → KnownLeads g.kinds g.literals g.preferences AR u SR' k true
  known_a step SR' SM' W' extends below k goes =
      let first_made = first g made u x AR AM SR SM W now_going step SR' SM' W' extends below in
      known_leads g.kinds g.literals g.preferences SR' k true W' _ _ _ _ AR u now_going.passes (grown_to _ _ step k goes first_made.ended)
      first_made.holds.in_rows
      first_made.work_long now_going.both.holds_a.in_rows now_going.counted_a
      (λ _. universal_led (lent g) made now_going.going _ (half_extends (room g.found.existential_rows) (made + 1) (run (lent g) made).S
      (search (prefer g.preferences) existential (prefix g.kinds) (matrix (clauses g.literals)) (rows (run (lent g) made).A))))

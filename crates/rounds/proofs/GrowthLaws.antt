-- What a step of a round makes of a table: for either side, the table grown by what a search over the other side's rows yields. Assumes nothing.
use Prim.Native.Nat.{ℕ, suc, ◌^◌, ◌≤◌, ◌<◌}
use native.Mathlib.Omega.{arith}
use mathlib.Core.Path.{◌≡◌, refl, sym, ap, subst, ◌∙◌}
use mathlib.Core.Bool.{Bool, true, false, not, cond}
use mathlib.Core.List.{List, [], ◌∷◌, ◌++◌}
use mathlib.Core.Logic.{◌⊎◌, ⊎_elim}
use mathlib.Core.Option.{Option, none, some}
use lib.Dec.{T, leb, leb→le, nleb→lt}
use lib.ListN.{length, take, length-map}
use Rattle.formula.specs.Formula.{Kind, existential, universal}
use Rattle.formula.specs.Causes.{count}
use Rattle.expansion.specs.Side.{flags, goal}
use Rattle.expansion.specs.OtherSide.{other}
use Rattle.expansion.specs.Play.{Row, Strategy, part, later_values}
use Rattle.expansion.specs.Copies.{fresh}
use Rattle.expansion.specs.Model.{search}
use Rattle.expansion.specs.Private.Memory.{LeadsModels}
use Rattle.expansion.proofs.Booleans.{never_both}
use Rattle.expansion.proofs.Membership.{In, Distinct, in_append_cases, in_append_left, in_append_right, in_map_cases, in_or_not, in_fresh, fresh_in}
use Rattle.expansion.proofs.Progress.{Answers, search_answers, yields_fresh}
use Rattle.expansion.proofs.Counting.{Sized, at_most_all_rows}
use Rattle.expansion.proofs.Memory.{found_leads}
use Rattle.rounds.specs.Run.{Entry, Table, rows, under_mark, grown, if_fits, Lent}
use Rattle.rounds.specs.Claim.{Stands, NewRow}
use Rattle.rounds.specs.Opening.{block, last_row, first_values}
use Rattle.rounds.specs.GivenUp.{room}
use Rattle.rounds.proofs.Blocks.{begins, begins_take, same_start, last_behind}
use Rattle.rounds.proofs.TableLaws.{distinct_grown, rows_grown, marks_grown, Extends, extends_grown, grown_new, adds_to_part, length_grown}

-- A side's table is in order: no row twice, in each row a value for each unknown of the side, and no more rows than there is room for.
pub record Held (l : Lent) (side : Kind) (t : Table) : Type 0 where
  pub distinct : Distinct (rows t)
  pub sized : Sized (count side l.ks) (rows t)
  pub fits : 1 ≤ room side l → length t ≤ room side l

-- There are no more rows than there are values for the side's unknowns.
pub length_at_most : (l : Lent) (side : Kind) (t : Table) → Distinct (rows t) → Sized (count side l.ks) (rows t) → length t ≤ 2 ^ count side l.ks
length_at_most l side t distinct sized = omega (arith, at_most_all_rows _ (rows t) distinct sized, length-map t (λ (x : Entry). x.row))

-- A yielded row has a value for each unknown of the side.
length_part : (side : Kind) (ks : List Kind) (vs : List Bool) → length (part (flags side ks) vs) ≡ count side ks
length_part side [] vs = refl
length_part existential (existential ∷ ks) vs = ap suc (length_part existential ks (later_values vs))
length_part existential (universal ∷ ks) vs = length_part existential ks (later_values vs)
length_part universal (existential ∷ ks) vs = length_part universal ks (later_values vs)
length_part universal (universal ∷ ks) vs = ap suc (length_part universal ks (later_values vs))

-- So has each row that a search yields.
pub sized_found : (prefer : ℕ → Bool) (side : Kind) (ks : List Kind) (phi : List Bool → Bool) (from new : List Row)
    → search prefer side ks phi from ≡ some new → Sized (count side ks) new
sized_found prefer side ks phi from new found x h =
    let model = search_answers prefer side ks phi from new found in
    let p = in_map_cases _ x from (subst (λ (n : List Row). In x n) model.2 h) in
    rw p.1 (length_part side ks _)

-- What is asked of a table by the room: `if_fits` by its outcomes.
abbrev pub Fitted : ℕ → Table → Option Table → Type 0
Fitted n t none = n < length t
Fitted n t (some u) = (t ≡ u) × (length t ≤ n)

pub fitted : (n : ℕ) (t : Table) → Fitted n t (if_fits n t)
fitted n t = by_test (leb (length t) n) (leb→le (length t) n) (nleb→lt (length t) n)
  where
    by_test : (b : Bool) → (T b → length t ≤ n) → (T (not b) → n < length t) → Fitted n t (cond b (some t) none)
    by_test true le lt = (refl, le tt)
    by_test false le lt = lt tt

-- What a step of round r makes of a side's table t, of which it keeps the part q, over the other side's rows: q grows, to u, by a row at least
-- that is new against t, and a strategy that wins over the other side's rows has all that it yields in u. Rows of u that begin otherwise than
-- its last row are rows of q; and the last row leads the models over the other side's rows.
pub record Growth (l : Lent) (side : Kind) (r : ℕ) (from : List Row) (t q u : Table) : Type 0 where
  pub held : Held l side u
  pub more : suc (length q) ≤ length u
  pub extends : Extends q u
  pub new_row : (end : Table) → Extends u end → NewRow r t u end
  pub marks : (i : ℕ) (x : Entry) → Stands u i x → Stands q i x ⊎ (x ≡ under_mark r x.row)
  pub σ : Strategy
  pub answers : Answers side l.ks l.phi σ (λ x. In x from) (λ x. In x (rows u))
  pub apart : (x : Row) → In x (rows u) → begins (first_values side l.ks (rows u)) x ≡ false → In x (rows q)
  pub led : LeadsModels l.prefer (flags side l.ks) (goal side l.phi) from (last_row (rows u))

module _ (l : Lent) (side : Kind) (r : ℕ) (from : List Row) (q : Table) (held : Held l side q) (new : List Row)
    (found : search l.prefer side l.ks l.phi from ≡ some new) where
  sized_grown : Sized (count side l.ks) (rows (grown r q new))
  sized_grown x h = ⊎_elim (held.sized x) of_new (in_append_cases x (rows q) (fresh (rows q) new) (rw rows_grown at h))
    where
      of_new : In x (fresh (rows q) new) → length x ≡ count side l.ks
      of_new f = sized_found l.prefer side l.ks l.phi from new found x (fresh_in x (rows q) new f)

  yielded_in_grown : (x : Row) → In x new → In x (rows (grown r q new))
  yielded_in_grown x h = rw rows_grown (⊎_elim old fresh_now (in_or_not x (rows q)))
    where
      old : In x (rows q) → In x (rows q ++ fresh (rows q) new)
      old = in_append_left x (rows q) (fresh (rows q) new)

      fresh_now : (In x (rows q) → ⊥) → In x (rows q ++ fresh (rows q) new)
      fresh_now n = in_append_right x (rows q) (fresh (rows q) new) (in_fresh x (rows q) new h n)

  -- A grown table that does not fit has less room than there are rows.
  pub room_below_all_rows : room side l < length (grown r q new) → room side l < 2 ^ count side l.ks
  room_below_all_rows full =
      let most = length_at_most l side (grown r q new) (distinct_grown r q new held.distinct) sized_grown in
      omega arith

  -- All that the search yields begins with the same values.
  starts_alike : (x y : Row) → In x new → In y new → begins (take (block side l.ks) y) x ≡ true
  starts_alike x y in_x in_y =
      let model = search_answers l.prefer side l.ks l.phi from new found in
      let p = in_map_cases _ x from (subst (λ (n : List Row). In x n) model.2 in_x) in
      let p' = in_map_cases _ y from (subst (λ (n : List Row). In y n) model.2 in_y) in
      let alike : take (block side l.ks) y ≡ take (block side l.ks) x =
      ap (take (block side l.ks)) p'.1 ∙ same_start side l.ks model.0 p'.0 p.0 ∙ sym (ap (take (block side l.ks)) p.1) in
      subst (λ (vs : List Bool). begins vs x ≡ true) (sym alike) (begins_take (block side l.ks) x)

  apart_grown : (fresh (rows q) new ≡ [] → ⊥) → (x : Row) → In x (rows (grown r q new))
      → begins (first_values side l.ks (rows (grown r q new))) x ≡ false → In x (rows q)
  apart_grown adds x h otherwise =
      let last : In (last_row (rows q ++ fresh (rows q) new)) (fresh (rows q) new) = last_behind (rows q) (fresh (rows q) new) adds in
      let y : Row = last_row (rows q ++ fresh (rows q) new) in
      let is_y : last_row (rows (grown r q new)) ≡ y = ap last_row (rows_grown r q new) in
      ⊎_elim (λ o. o)
      (λ f. absurd (never_both (subst (λ (z : Row). begins (take (block side l.ks) z) x ≡ true) (sym is_y)
      (starts_alike x y (fresh_in x (rows q) new f) (fresh_in y (rows q) new last))) otherwise))
      (in_append_cases x (rows q) (fresh (rows q) new) (subst (λ (n : List Row). In x n) (rows_grown r q new) h))

  led_grown : (fresh (rows q) new ≡ [] → ⊥) → LeadsModels l.prefer (flags side l.ks) (goal side l.phi) from (last_row (rows (grown r q new)))
  led_grown adds =
      subst (LeadsModels l.prefer (flags side l.ks) (goal side l.phi) from) (sym (ap last_row (rows_grown r q new)))
      (found_leads l.prefer side l.ks l.phi from new _ found (fresh_in _ (rows q) new (last_behind (rows q) (fresh (rows q) new) adds)))

  -- A step yields a row that is new against t: else the two strategies would keep within each other's rows.
  pub growth : (t : Table) → ((x : Row) → In x (rows q) → In x (rows t)) → (τ : Strategy)
      → Answers (other side) l.ks l.phi τ (λ x. In x (rows t)) (λ x. In x from) → (x : Row) → In x from → length (grown r q new) ≤ room side l
      → Growth l side r from t q (grown r q new)
  growth t part τ before x in_from fits =
      let model = search_answers l.prefer side l.ks l.phi from new found in
      let yields_new : fresh (rows t) new ≡ [] → ⊥ =
      yields_fresh l.prefer side l.ks l.phi from (rows t) new τ x in_from found before in
      let adds : fresh (rows q) new ≡ [] → ⊥ = adds_to_part t q new part yields_new in
      record {
        held = record { distinct = distinct_grown r q new held.distinct; sized = sized_grown; fits = λ _. fits };
        more = length_grown r q new adds;
        extends = extends_grown r q new;
        new_row = λ end. grown_new r t q new end part yields_new;
        marks = marks_grown r q (fresh (rows q) new);
        σ = model.0;
        answers = record { wins = model.1.wins; within = λ y h. yielded_in_grown _ (model.1.within y h) };
        apart = apart_grown adds;
        led = led_grown adds;
      }

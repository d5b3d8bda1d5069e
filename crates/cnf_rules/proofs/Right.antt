-- What specs/Right.antt says of the clauses holds. Assumes nothing.
use Prim.Native.Nat.{◌*◌, ◌+◌, ◌≤◌}
use native.Mathlib.Omega.{arith}
use mathlib.Core.Path.{◌≡◌, sym, subst, ◌∙◌}
use mathlib.Core.Logic.{◌↔◌}
use mathlib.Core.Bool.{Bool, true, false}
use mathlib.Core.List.{List, ◌++◌}
use lib.ListN.{length, length-append, length-map, get_or-append}
use Rattle.formula.specs.Formula.{Kind, Clause, max_unknowns}
use Rattle.formula.specs.Meaning.{matrix}
use Rattle.expansion.specs.Side.{own, flags, goal}
use Rattle.expansion.specs.OtherSide.{side_of}
use Rattle.expansion.specs.Play.{Row, Strategy}
use Rattle.expansion.specs.Copies.{copies}
use Rattle.expansion.specs.Model.{wins, strategy_of, is_model}
use Rattle.expansion.specs.Judge.{accepted}
use Rattle.expansion.proofs.Booleans.{never_both, false_if_not_true}
use Rattle.expansion.proofs.Engine.{length_tabulate}
use Rattle.expansion.proofs.FirstModel.{values_of, is_model_of_values}
use Rattle.expansion.proofs.Judged.{accepted_exactly, accepted_verdict}
use Rattle.cnf_rules.specs.Clauses.{copy_number, expansion, variables}
use Rattle.cnf_rules.specs.Right.{AllNamed, Satisfiable, Unsatisfiable, HasModel, ExpansionRight}
use Rattle.cnf_rules.proofs.LeftOver.{all_true_value}
use Rattle.cnf_rules.proofs.Breaks.{wins_if_some_false}
use Rattle.cnf_rules.proofs.Extended.{At, all_marks, length_all_marks, at_behind, some_false_if_wins}
use Rattle.cnf_rules.proofs.NamedLaws.{all_true_named, some_false_named}
use Rattle.cnf_rules.proofs.Numbering.{Numbers, strategy_by, values_by, agrees_to, agrees_from, below_in}
use Rattle.cnf_rules.proofs.FirstRow.{by_first_row}

module _ (ks : List Kind) (cs : List Clause) (rows : List Row) (few : length ks ≤ max_unknowns) where
  abbrev own_flags : Bool → List Bool
  own_flags claim = flags (side_of claim) ks

  numbers : (claim : Bool) → Numbers (own_flags claim) rows (copy_number (own_flags claim) rows) (max_unknowns * length rows)
  numbers claim = by_first_row (own_flags claim) rows (omega (arith, length-map ks (own (side_of claim)), few))

  abbrev strategy : Bool → List Bool → Strategy
  strategy claim vs = strategy_by (own_flags claim) rows (copy_number (own_flags claim) rows) (max_unknowns * length rows) (numbers claim) vs

  -- A solver's values are a strategy that wins ..
  wins_by : (claim : Bool) (vs : List Bool) → matrix (expansion claim ks cs rows) vs ≡ true
      → wins (own_flags claim) (goal (side_of claim) (matrix cs)) (strategy claim vs) rows ≡ true
  unfolding expansion
  wins_by false vs e =
      let ts = own_flags false in
      let name = copy_number ts rows in
      let m = max_unknowns * length rows in
      sym (all_true_value ts name cs (strategy false vs) vs m rows (agrees_to ts rows name m (numbers false) vs)) ∙ e
  wins_by true vs e =
      let ts = own_flags true in
      let name = copy_number ts rows in
      let m = max_unknowns * length rows in
      wins_if_some_false ts name cs (strategy true vs) vs m rows (agrees_to ts rows name m (numbers true) vs) e

  -- .. and a strategy that wins has values.
  values_for : (claim : Bool) (σ : Strategy) → wins (own_flags claim) (goal (side_of claim) (matrix cs)) σ rows ≡ true
      → Satisfiable (variables claim ks cs rows) (expansion claim ks cs rows)
  unfolding expansion variables
  values_for false σ w =
      let ts = own_flags false in
      let name = copy_number ts rows in
      let m = max_unknowns * length rows in
      let vs = values_by ts rows name m (numbers false) σ in
      (vs, length_tabulate m _, all_true_value ts name cs σ vs m rows (agrees_from ts rows name m (numbers false) σ) ∙ w)
  values_for true σ w =
      let ts = own_flags true in
      let name = copy_number ts rows in
      let m = max_unknowns * length rows in
      let vs = values_by ts rows name m (numbers true) σ in
      let sized : length vs ≡ m = length_tabulate m _ in
      let more = all_marks vs ts name cs rows in (
        vs ++ more,
        omega (arith, length-append vs more, sized, length_all_marks vs ts name cs rows),
        some_false_if_wins vs (vs ++ more) m (λ i l. get_or-append vs more false i (omega arith)) ts name cs σ m rows
            (agrees_from ts rows name m (numbers true) σ) (below_in ts rows name m (numbers true))
            (subst (λ n. At (vs ++ more) n more) sized (at_behind vs more)) w,
      )

  models : (claim : Bool) → Satisfiable (variables claim ks cs rows) (expansion claim ks cs rows) ↔ HasModel claim ks cs rows
  unfolding is_model
  models claim =
      let ts = own_flags claim in
      let psi = goal (side_of claim) (matrix cs) in (
        λ s.
            let σ = strategy claim s.0 in
            (values_of ts rows σ, length-map (copies ts rows) _, is_model_of_values ts psi rows σ ∙ wins_by claim s.0 s.2),
        λ model. values_for claim (strategy_of ts rows model.0) model.2,
      )

  exactly : (claim : Bool) → (accepted claim ks (matrix cs) rows ≡ true) ↔ Unsatisfiable (variables claim ks cs rows) (expansion claim ks cs rows)
  exactly claim =
      let judged = accepted_exactly claim ks (matrix cs) rows in (
        λ e vs sized. false_if_not_true (matrix (expansion claim ks cs rows) vs) (λ s. never_both (wins_by claim vs s) (judged.0 e (strategy claim vs))),
        λ none. judged.1 (λ σ. false_if_not_true (wins (own_flags claim) (goal (side_of claim) (matrix cs)) σ rows)
            (λ w. let p = values_for claim σ w in never_both p.2 (none p.0 p.1))),
      )

  pub named : (claim : Bool) → AllNamed (variables claim ks cs rows) (expansion claim ks cs rows)
  unfolding expansion variables
  named false =
      let ts = own_flags false in
      let m = max_unknowns * length rows in
      all_true_named m m (omega arith) ts (copy_number ts rows) cs m rows (below_in ts rows (copy_number ts rows) m (numbers false))
  named true =
      let ts = own_flags true in
      let m = max_unknowns * length rows in
      some_false_named m (m + length cs * length rows) (omega arith) ts (copy_number ts rows) cs m rows
      (below_in ts rows (copy_number ts rows) m (numbers true)) (omega arith)

  pub expansion_right : (claim : Bool) → ExpansionRight claim ks cs rows
  expansion_right claim =
      record {
        models = models claim;
        exactly = exactly claim;
        verdict = λ none. accepted_verdict claim ks (matrix cs) rows ((exactly claim).1 none);
        named = named claim;
      }

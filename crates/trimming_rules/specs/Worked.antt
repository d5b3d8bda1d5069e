-- Trimmings worked by hand: one list, with what is left of each.
-- Assumes nothing.
use Rattle.std.specs.Prelude.{ℕ, ◌≡◌, List, [], ◌∷◌, map, pos, negsuc}
use Rattle.formula.specs.Formula.{Clause}
use Rattle.trimming_rules.specs.Trimming.{entries, trimmed}

-- What is lent, and the clauses that are left. The literal -v is `negsuc (v - 1)`.
pub record WorkedTrimming : Type 0 where
  pub kinds : List ℕ
  pub clauses : List Clause
  pub left : List Clause

abbrev pub case : List ℕ → List Clause → List Clause → WorkedTrimming
case kinds clauses left = record { kinds = kinds; clauses = clauses; left = left }

-- Nothing applies: 1 0; 1 2, -1 -2; left 1 2, -1 -2.
abbrev pub nothing_applies : WorkedTrimming
nothing_applies = case (1 ∷ 0 ∷ []) ((pos 1 ∷ pos 2 ∷ []) ∷ (negsuc 0 ∷ negsuc 1 ∷ []) ∷ []) ((pos 1 ∷ pos 2 ∷ []) ∷ (negsuc 0 ∷ negsuc 1 ∷ []) ∷ [])

-- Always true, before reduction: 1; 1 -1; left none.
abbrev pub always_true_before_reduction : WorkedTrimming
always_true_before_reduction = case (1 ∷ []) ((pos 1 ∷ negsuc 0 ∷ []) ∷ []) []

-- Reduced and set to false: 0 1; 2 1, -2 -1; left (empty).
abbrev pub reduced_and_set_to_false : WorkedTrimming
reduced_and_set_to_false = case (0 ∷ 1 ∷ []) ((pos 2 ∷ pos 1 ∷ []) ∷ (negsuc 1 ∷ negsuc 0 ∷ []) ∷ []) ([] ∷ [])

-- Reduced behind the last existential literal: 1 0 1 1; 1 2 3 -4, -1 -2 3, -1 2 4, 1 -2 -4; left 1 2, -1 -2, -1 2, 1 -2.
abbrev pub reduced_behind_the_last_existential_literal : WorkedTrimming
reduced_behind_the_last_existential_literal = case (1 ∷ 0 ∷ 1 ∷ 1 ∷ []) ((pos 1 ∷ pos 2 ∷ pos 3 ∷ negsuc 3 ∷ []) ∷ (negsuc 0 ∷ negsuc 1 ∷ pos 3 ∷ []) ∷
    (negsuc 0 ∷ pos 2 ∷ pos 4 ∷ []) ∷ (pos 1 ∷ negsuc 1 ∷ negsuc 3 ∷ []) ∷ []) ((pos 1 ∷ pos 2 ∷ []) ∷ (negsuc 0 ∷ negsuc 1 ∷ []) ∷ (negsuc 0 ∷ pos 2 ∷ []) ∷
    (pos 1 ∷ negsuc 1 ∷ []) ∷ [])

-- The prefix's order, not the clause's: 0 1 0; 3 2, -3 -2, 2 1 -3, -1 3 -2; left 3 2, -3 -2, 2 1 -3, -1 3 -2.
abbrev pub the_prefix_order_not_the_clause : WorkedTrimming
the_prefix_order_not_the_clause = case (0 ∷ 1 ∷ 0 ∷ []) ((pos 3 ∷ pos 2 ∷ []) ∷ (negsuc 2 ∷ negsuc 1 ∷ []) ∷ (pos 2 ∷ pos 1 ∷ negsuc 2 ∷ []) ∷
    (negsuc 0 ∷ pos 3 ∷ negsuc 1 ∷ []) ∷ []) ((pos 3 ∷ pos 2 ∷ []) ∷ (negsuc 2 ∷ negsuc 1 ∷ []) ∷ (pos 2 ∷ pos 1 ∷ negsuc 2 ∷ []) ∷
    (negsuc 0 ∷ pos 3 ∷ negsuc 1 ∷ []) ∷ [])

-- The first of two units gives the sign: 0 0 0; -1, 1, 1 2 3, -1 -2 3, 2 -3, -2 -3; left (empty), 2 3, 2 -3, -2 -3.
abbrev pub the_first_of_two_units_gives_the_sign : WorkedTrimming
the_first_of_two_units_gives_the_sign = case (0 ∷ 0 ∷ 0 ∷ []) ((negsuc 0 ∷ []) ∷ (pos 1 ∷ []) ∷ (pos 1 ∷ pos 2 ∷ pos 3 ∷ []) ∷
    (negsuc 0 ∷ negsuc 1 ∷ pos 3 ∷ []) ∷ (pos 2 ∷ negsuc 2 ∷ []) ∷ (negsuc 1 ∷ negsuc 2 ∷ []) ∷ [])
    ([] ∷ (pos 2 ∷ pos 3 ∷ []) ∷ (pos 2 ∷ negsuc 2 ∷ []) ∷ (negsuc 1 ∷ negsuc 2 ∷ []) ∷ [])

-- Twice the same literal is no unit: 0; 1 1, -1 -1; left 1 1, -1 -1.
abbrev pub twice_the_same_literal_is_no_unit : WorkedTrimming
twice_the_same_literal_is_no_unit = case (0 ∷ []) ((pos 1 ∷ pos 1 ∷ []) ∷ (negsuc 0 ∷ negsuc 0 ∷ []) ∷ [])
    ((pos 1 ∷ pos 1 ∷ []) ∷ (negsuc 0 ∷ negsuc 0 ∷ []) ∷ [])

-- Every place of the opposite literal: 0 0 0; -1, 1 2 1 3, -2 -3, 2 -3, -2 3 1; left 2 3, -2 -3, 2 -3, -2 3.
abbrev pub every_place_of_the_opposite_literal : WorkedTrimming
every_place_of_the_opposite_literal = case (0 ∷ 0 ∷ 0 ∷ []) ((negsuc 0 ∷ []) ∷ (pos 1 ∷ pos 2 ∷ pos 1 ∷ pos 3 ∷ []) ∷ (negsuc 1 ∷ negsuc 2 ∷ []) ∷
    (pos 2 ∷ negsuc 2 ∷ []) ∷ (negsuc 1 ∷ pos 3 ∷ pos 1 ∷ []) ∷ []) ((pos 2 ∷ pos 3 ∷ []) ∷ (negsuc 1 ∷ negsuc 2 ∷ []) ∷ (pos 2 ∷ negsuc 2 ∷ []) ∷
    (negsuc 1 ∷ pos 3 ∷ []) ∷ [])

-- The lowest unit, not the first: 0 0; -1 -2, 2, 1, 2; left (empty), (empty).
abbrev pub the_lowest_unit_not_the_first : WorkedTrimming
the_lowest_unit_not_the_first = case (0 ∷ 0 ∷ []) ((negsuc 0 ∷ negsuc 1 ∷ []) ∷ (pos 2 ∷ []) ∷ (pos 1 ∷ []) ∷ (pos 2 ∷ []) ∷ []) ([] ∷ [] ∷ [])

-- Rule 2 before rule 3: 0 1; 2 -1, 1, -1; left (empty).
abbrev pub rule_2_before_rule_3 : WorkedTrimming
rule_2_before_rule_3 = case (0 ∷ 1 ∷ []) ((pos 2 ∷ negsuc 0 ∷ []) ∷ (pos 1 ∷ []) ∷ (negsuc 0 ∷ []) ∷ []) ([] ∷ [])

-- Rule 3 before rule 4: 1 0; -1 2, -2, -2; left (empty).
abbrev pub rule_3_before_rule_4 : WorkedTrimming
rule_3_before_rule_4 = case (1 ∷ 0 ∷ []) ((negsuc 0 ∷ pos 2 ∷ []) ∷ (negsuc 1 ∷ []) ∷ (negsuc 1 ∷ []) ∷ []) ([] ∷ [])

-- The lowest of one sign first: 1 1 0; -3 -1, -3 -1, 3 -2; left (empty).
abbrev pub the_lowest_of_one_sign_first : WorkedTrimming
the_lowest_of_one_sign_first = case (1 ∷ 1 ∷ 0 ∷ []) ((negsuc 2 ∷ negsuc 0 ∷ []) ∷ (negsuc 2 ∷ negsuc 0 ∷ []) ∷ (pos 3 ∷ negsuc 1 ∷ []) ∷ []) ([] ∷ [])

-- Starting over: 0 1 1 1 0; 3 -5, 5 -2, 5 -2; left (empty).
abbrev pub starting_over : WorkedTrimming
starting_over = case (0 ∷ 1 ∷ 1 ∷ 1 ∷ 0 ∷ []) ((pos 3 ∷ negsuc 4 ∷ []) ∷ (pos 5 ∷ negsuc 1 ∷ []) ∷ (pos 5 ∷ negsuc 1 ∷ []) ∷ []) ([] ∷ [])

-- An empty clause stops nothing: 0 0; (), 1, 1 2, -2 1; left (empty).
abbrev pub an_empty_clause_stops_nothing : WorkedTrimming
an_empty_clause_stops_nothing = case (0 ∷ 0 ∷ []) ([] ∷ (pos 1 ∷ []) ∷ (pos 1 ∷ pos 2 ∷ []) ∷ (negsuc 1 ∷ pos 1 ∷ []) ∷ []) ([] ∷ [])

-- 01's K12: 1 0 1 0; 1 2 4, -1 -2 4, 3 -4; left 1 2, -1 -2.
abbrev pub K12 : WorkedTrimming
K12 = case (1 ∷ 0 ∷ 1 ∷ 0 ∷ []) ((pos 1 ∷ pos 2 ∷ pos 4 ∷ []) ∷ (negsuc 0 ∷ negsuc 1 ∷ pos 4 ∷ []) ∷ (pos 3 ∷ negsuc 3 ∷ []) ∷ [])
    ((pos 1 ∷ pos 2 ∷ []) ∷ (negsuc 0 ∷ negsuc 1 ∷ []) ∷ [])

-- A universal unknown of one sign: 1 0 0; -1 2 3, -1 -3 -2, -2 3, 2 -3; left 2 3, -3 -2, -2 3, 2 -3.
abbrev pub a_universal_unknown_of_one_sign : WorkedTrimming
a_universal_unknown_of_one_sign = case (1 ∷ 0 ∷ 0 ∷ []) ((negsuc 0 ∷ pos 2 ∷ pos 3 ∷ []) ∷ (negsuc 0 ∷ negsuc 2 ∷ negsuc 1 ∷ []) ∷ (negsuc 1 ∷ pos 3 ∷ []) ∷
    (pos 2 ∷ negsuc 2 ∷ []) ∷ []) ((pos 2 ∷ pos 3 ∷ []) ∷ (negsuc 2 ∷ negsuc 1 ∷ []) ∷ (negsuc 1 ∷ pos 3 ∷ []) ∷ (pos 2 ∷ negsuc 2 ∷ []) ∷ [])

abbrev pub worked_trimmings : List WorkedTrimming
worked_trimmings =
    nothing_applies ∷
    always_true_before_reduction ∷
    reduced_and_set_to_false ∷
    reduced_behind_the_last_existential_literal ∷
    the_prefix_order_not_the_clause ∷
    the_first_of_two_units_gives_the_sign ∷
    twice_the_same_literal_is_no_unit ∷
    every_place_of_the_opposite_literal ∷
    the_lowest_unit_not_the_first ∷
    rule_2_before_rule_3 ∷
    rule_3_before_rule_4 ∷
    the_lowest_of_one_sign_first ∷
    starting_over ∷
    an_empty_clause_stops_nothing ∷
    K12 ∷
    a_universal_unknown_of_one_sign ∷
    []

-- Each comes out as worked.
abbrev pub Worked : Type 0
Worked = map (λ k. trimmed k.kinds (entries k.clauses)) worked_trimmings ≡ map (λ (k : WorkedTrimming). entries k.left) worked_trimmings

-- Cases worked by hand, of 01's formulas K1 and K2 and of one in three unknowns. Assumes nothing.
use Rattle.std.specs.Prelude.{◌≡◌, true, false, List, [], ◌∷◌, ℤ, pos, negsuc}
use Rattle.std.proofs.Math.Option.{none}
use Rattle.case_rules.specs.Restricted.{restricted}
use Rattle.case_rules.specs.Casebook.{Casebook, end, one, both, holds, gathered}
use Rattle.case_rules.specs.ByCases.{Study, decided, tried}
use Rattle.case_rules.specs.Evidence.{Finding, evidence, shown}

-- 1 2, -1 -2: the clauses of K1, and, but for the order of their literals, of K2.
abbrev pub unlike : List ℤ
unlike = pos 1 ∷ pos 2 ∷ pos 0 ∷ negsuc 0 ∷ negsuc 1 ∷ pos 0 ∷ []

-- 1 2 -3, -2 3, an empty clause, 3 1.
abbrev pub three : List ℤ
three = pos 1 ∷ pos 2 ∷ negsuc 2 ∷ pos 0 ∷ negsuc 1 ∷ pos 3 ∷ pos 0 ∷ pos 0 ∷ pos 3 ∷ pos 1 ∷ pos 0 ∷ []

-- K1's casebook: for both values of the universal unknown, the value of the existential one, and one empty row.
abbrev pub book_1 : Casebook
book_1 = both (one false (end ([] ∷ []))) (one true (end ([] ∷ [])))

-- K2's: for both values of the existential unknown, a row of the universal one.
abbrev pub book_2 : Casebook
book_2 = both (end ((true ∷ []) ∷ [])) (end ((false ∷ []) ∷ []))

abbrev pub no_study : Study
no_study path kinds literals = none

abbrev pub no_finding : Finding
no_finding path kinds literals = none

pub record WorkedCases : Type 0 where
  -- Unknown 1 true: the first clause is dropped, and of the second -2 is left, which is now -1.
  pub first_true : restricted (true ∷ []) unlike ≡ (negsuc 0 ∷ pos 0 ∷ [])
  pub first_false : restricted (false ∷ []) unlike ≡ (pos 1 ∷ pos 0 ∷ [])
  -- Both set: an empty clause if they are alike, no clause if not.
  pub alike : restricted (true ∷ true ∷ []) unlike ≡ (pos 0 ∷ [])
  pub not_alike : restricted (false ∷ true ∷ []) unlike ≡ []
  -- 1 2 -3, -2 3, (empty), 3 1 with 1 false and 2 true: left 1 (from -2 3), the empty clause, and 1.
  pub two_of_three : restricted (false ∷ true ∷ []) three ≡ (pos 1 ∷ pos 0 ∷ pos 0 ∷ pos 1 ∷ pos 0 ∷ [])
  pub k1_holds : holds true (1 ∷ 0 ∷ []) unlike book_1 ≡ true
  pub k1_gathered : gathered true (1 ∷ 0 ∷ []) book_1 ≡ ((false ∷ []) ∷ (true ∷ []) ∷ [])
  pub k2_holds : holds false (0 ∷ 1 ∷ []) unlike book_2 ≡ true
  pub k2_gathered : gathered false (0 ∷ 1 ∷ []) book_2 ≡ ((true ∷ []) ∷ (false ∷ []) ∷ [])
  -- One case of an unknown of the searching side's is not enough, and no claim is shown for the other formula.
  pub one_not_enough : holds false (0 ∷ 1 ∷ []) unlike (one true (end ((true ∷ []) ∷ []))) ≡ false
  pub k1_not_false : holds false (1 ∷ 0 ∷ []) unlike book_2 ≡ false
  pub k1_decided : decided no_study (1 ∷ 0 ∷ []) unlike ≡ true
  pub k2_decided : decided no_study (0 ∷ 1 ∷ []) unlike ≡ false
  pub not_tried : tried no_study 1 (0 ∷ 1 ∷ []) unlike ≡ none
  pub k1_shown : shown no_finding (1 ∷ 0 ∷ []) unlike ≡ evidence true book_1

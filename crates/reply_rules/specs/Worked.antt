-- Games worked by hand, over 01's formulas K1 and K2 and one in three unknowns. Assumes nothing.
use Rattle.std.specs.Prelude.{◌≡◌, Bool, true, false, List, [], ◌∷◌, ℤ, pos, negsuc}
use Rattle.std.proofs.Math.Option.{none, some}
use Rattle.expansion.specs.Play.{Row}
use Rattle.case_rules.specs.Worked.{unlike}
use Rattle.reply_rules.specs.Position.{borne_out, reply_value}

-- 1, 2 3, -2 -3.
abbrev pub chain : List ℤ
chain = pos 1 ∷ pos 0 ∷ pos 2 ∷ pos 3 ∷ pos 0 ∷ negsuc 1 ∷ negsuc 2 ∷ pos 0 ∷ []

abbrev pub both_values : List Row
both_values = (false ∷ []) ∷ (true ∷ []) ∷ []

pub record WorkedGames : Type 0 where
  -- K1 is true: whichever value the universal unknown gets, the reply is the other one.
  pub k1_true : reply_value true (1 ∷ 0 ∷ []) unlike both_values (true ∷ []) ≡ some false
  pub k1_false : reply_value true (1 ∷ 0 ∷ []) unlike both_values (false ∷ []) ≡ some true
  -- K2 is false: whichever value the existential unknown gets, the reply is the same.
  pub k2_true : reply_value false (0 ∷ 1 ∷ []) unlike both_values (true ∷ []) ≡ some true
  pub k2_false : reply_value false (0 ∷ 1 ∷ []) unlike both_values (false ∷ []) ≡ some false
  -- Existential, universal, existential: 1 is to be true, and 3 what 2 is not; behind a wrong first move there is no reply.
  pub chain_first : reply_value true (0 ∷ 1 ∷ 0 ∷ []) chain ((true ∷ false ∷ []) ∷ (true ∷ true ∷ []) ∷ []) [] ≡ some true
  pub chain_last : reply_value true (0 ∷ 1 ∷ 0 ∷ []) chain ((true ∷ false ∷ []) ∷ (true ∷ true ∷ []) ∷ []) (true ∷ true ∷ []) ≡ some false
  pub chain_lost : reply_value true (0 ∷ 1 ∷ 0 ∷ []) chain ((true ∷ false ∷ []) ∷ (true ∷ true ∷ []) ∷ []) (false ∷ true ∷ []) ≡ none
  -- Rows that the judge would not accept may still have a reply, but not in every position.
  pub half_the_rows : reply_value true (1 ∷ 0 ∷ []) unlike ((true ∷ []) ∷ []) (true ∷ []) ≡ none

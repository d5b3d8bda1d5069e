-- Copies worked by hand, with their numbers. Assumes nothing.
use Rattle.std.specs.Prelude.{◌≡◌, true, false, [], ◌∷◌}
use Rattle.expansion.specs.Copies.{copies, copy_at}

pub record CopyCases : Type 0 where
  -- Unknowns 2 and 4 are one's own, at positions 1 and 3. The rows 10, 11, 10, 01 have two different values of unknown 1, and three of unknowns 1 and 3.
  pub by_restriction :
      copies
      (false ∷ true ∷ false ∷ true ∷ [])
      ((true ∷ false ∷ []) ∷ (true ∷ true ∷ []) ∷ (true ∷ false ∷ []) ∷ (false ∷ true ∷ []) ∷ [])
      ≡ (
      copy_at 1 (true ∷ [])
      ∷ copy_at 1 (false ∷ [])
      ∷ copy_at 3 (true ∷ false ∷ [])
      ∷ copy_at 3 (true ∷ true ∷ [])
      ∷ copy_at 3 (false ∷ true ∷ [])
      ∷ []
      )
  -- An unknown with none of the other kind before it has one copy, if there is a row, and none without rows.
  pub in_front : copies (true ∷ false ∷ []) ((true ∷ []) ∷ (false ∷ []) ∷ []) ≡ (copy_at 0 [] ∷ [])
  pub no_rows : copies (true ∷ false ∷ true ∷ []) [] ≡ []

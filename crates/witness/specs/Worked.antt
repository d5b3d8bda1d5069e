-- Files worked by hand, which fix what the round trip leaves open: the order of fields and of bytes.
-- Assumes nothing.
use Rattle.std.specs.Prelude.{ℕ, zero, suc, ◌≡◌, List, [], ◌∷◌, ◌++◌, replicate}
use Rattle.witness.specs.File.{made, file, file_cause}

-- `count` numbers, rising from `first`.
abbrev pub from : ℕ → ℕ → List ℕ
from zero first = []
from (suc count) first = first ∷ from count (suc first)

pub record WorkedFiles : Type 0 where
  -- Claim 1, one universal row of ff, two existential rows of the bytes 0 to 31, rounds 300: 56 bytes.
  pub rows_of_both : file (made 29 1 0 0 1 2 300) (replicate 16 255) (from 32 0)
      ≡ 29 ∷ 1 ∷ 1 ∷ 0 ∷ replicate 16 255 ++ (2 ∷ 0 ∷ from 32 0 ++ (44 ∷ 1 ∷ []))
  -- n 128 and 2,048 clauses alone.
  pub sizes_alone : file (made 2 0 128 2048 0 0 0) [] [] ≡ 2 ∷ 128 ∷ 0 ∷ 0 ∷ 8 ∷ []
  -- Claim 0 and rounds 257; what else the record holds does not count.
  pub claim_and_rounds : file (made 17 0 5 6 7 8 257) [] [] ≡ 17 ∷ 0 ∷ 1 ∷ 1 ∷ []
  -- Nothing but the map.
  pub map_alone : file (made 0 9 9 9 9 9 9) [] [] ≡ 0 ∷ []
  -- The causes in their order.
  pub empty : file_cause [] ≡ 18
  pub bit_five : file_cause (32 ∷ []) ≡ 17
  pub accepted : file_cause (0 ∷ []) ≡ 0
  pub claim_two : file_cause (1 ∷ 2 ∷ []) ≡ 7
  pub goes_on : file_cause (1 ∷ 2 ∷ 0 ∷ []) ≡ 18
  pub no_rows : file_cause (4 ∷ 0 ∷ 0 ∷ []) ≡ 4
  pub rows_missing : file_cause (4 ∷ 1 ∷ 0 ∷ []) ≡ 18
  pub many_rows : file_cause (8 ∷ 44 ∷ 1 ∷ replicate 4800 0) ≡ 4
  pub fewer_rows : file_cause (8 ∷ 44 ∷ 1 ∷ replicate 4096 0) ≡ 18

-- Lent bands worked by hand: what is refused of two columns at each edge, and what a round costs about a band's first. Assumes nothing.
use Rattle.std.specs.Prelude.{ℕ, ◌≡◌, List, [], ◌∷◌, map}
use Rattle.fee.specs.Bands.{cause_with, price_with}

-- Two columns, with the cause that refuses them, or 0, for a study without unknowns.
pub record Columns : Type 0 where
  pub firsts : List ℕ
  pub prices : List ℕ
  pub refused : ℕ

abbrev pub columns : List ℕ → List ℕ → ℕ → Columns
columns firsts prices refused = record { firsts = firsts; prices = prices; refused = refused }

abbrev pub worked_columns : List Columns
worked_columns =
    -- 21: either column the longer one, no band, a first band from round 0 or 2.
    columns (1 ∷ 9 ∷ []) (400 ∷ []) 21
    ∷ columns (1 ∷ []) (400 ∷ 250 ∷ []) 21
    ∷ columns [] [] 21
    ∷ columns (0 ∷ 9 ∷ []) (400 ∷ 250 ∷ []) 21
    ∷ columns (2 ∷ 9 ∷ []) (400 ∷ 250 ∷ []) 21
    -- 21 before 22.
    ∷ columns (2 ∷ 2 ∷ []) (400 ∷ 100001 ∷ []) 21
    -- 22: the first pair or the last one not rising, the first price or the last one over 100,000.
    ∷ columns (1 ∷ 1 ∷ 9 ∷ []) (400 ∷ 250 ∷ 120 ∷ []) 22
    ∷ columns (1 ∷ 9 ∷ 9 ∷ []) (400 ∷ 250 ∷ 120 ∷ []) 22
    ∷ columns (1 ∷ 9 ∷ 8 ∷ []) (400 ∷ 250 ∷ 120 ∷ []) 22
    ∷ columns (1 ∷ 9 ∷ []) (100001 ∷ 250 ∷ []) 22
    ∷ columns (1 ∷ 9 ∷ []) (400 ∷ 100001 ∷ []) 22
    -- Accepted: prices of 0 and of 100,000, a band alone.
    ∷ columns (1 ∷ 2 ∷ []) (0 ∷ 100000 ∷ []) 0
    ∷ columns (1 ∷ []) (0 ∷ []) 0
    ∷ []

pub record BandCases : Type 0 where
  pub refusals : map (λ (c : Columns). cause_with c.firsts c.prices []) worked_columns ≡ map (λ (c : Columns). c.refused) worked_columns
  -- Rounds 1, 8, 9, 10 by bands from rounds 1 and 9.
  pub prices : map (price_with (1 ∷ 9 ∷ []) (400 ∷ 250 ∷ [])) (1 ∷ 8 ∷ 9 ∷ 10 ∷ []) ≡ (400 ∷ 400 ∷ 250 ∷ 250 ∷ [])

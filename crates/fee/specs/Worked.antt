-- Fees worked by hand: one list, with what the definitions must give. Assumes nothing.
use Rattle.std.specs.Prelude.{ℕ, ◌≡◌, List, [], ◌∷◌, map}
use Rattle.fee.specs.HalfUp.{half_up}
use Rattle.fee.specs.Fee.{price, total, changes, risen, fee}

-- A fee worked by hand: the rounds and the kinds, the changes among these, the thousandths of a cent, the cents, and the cents of the sheet
-- before.
pub record WorkedFee : Type 0 where
  pub rounds : ℕ
  pub kinds : List ℕ
  pub figures : List ℕ

abbrev pub worked_fee : ℕ → List ℕ → ℕ → ℕ → ℕ → ℕ → WorkedFee
worked_fee rounds kinds changes thousandths cents before =
    record { rounds = rounds; kinds = kinds; figures = changes ∷ thousandths ∷ cents ∷ before ∷ [] }

-- What the definitions give.
abbrev pub figures_of : WorkedFee → List ℕ
figures_of w =
    let thousandths : ℕ = risen (total price w.rounds) (changes w.kinds) in
    changes w.kinds ∷ thousandths ∷ fee w.kinds w.rounds ∷ half_up thousandths ∷ []

abbrev pub worked_fees : List WorkedFee
worked_fees =
    -- 'Nine rounds and two changes give 3,553.5, so 3,554.'
    worked_fee 9 (0 ∷ 1 ∷ 0 ∷ []) 2 3553500 3554 3554
    -- 'Eleven rounds and two changes give 4,068.5, which was 4,069 and becomes 4,068.'
    ∷ worked_fee 11 (0 ∷ 1 ∷ 0 ∷ []) 2 4068500 4068 4069
    -- The first amount that changes: 3,760.5.
    ∷ worked_fee 9 (0 ∷ 1 ∷ 0 ∷ 1 ∷ 0 ∷ 1 ∷ 0 ∷ []) 6 3760500 3760 3761
    -- '0 rounds cost 0.'
    ∷ worked_fee 0 (0 ∷ 1 ∷ 0 ∷ []) 2 0 0 0
    -- The last round of each band, with no change: no unknown, one, or several of one kind.
    ∷ worked_fee 8 [] 0 3200000 3200 3200
    ∷ worked_fee 8 (1 ∷ []) 0 3200000 3200 3200
    ∷ worked_fee 64 (1 ∷ 1 ∷ []) 0 17200000 17200 17200
    -- The first round of the last band, with a change: 17,579.8.
    ∷ worked_fee 65 (1 ∷ 1 ∷ 0 ∷ 0 ∷ []) 1 17579800 17580 17580
    ∷ []

pub record Worked : Type 0 where
  pub fees : map figures_of worked_fees ≡ map (λ (w : WorkedFee). w.figures) worked_fees

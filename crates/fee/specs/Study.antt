-- Who pays for what (02, C-21), over what a run is lent and returns. Assumes nothing.
use Rattle.std.specs.Prelude.{ℕ, ◌≡◌, true, false, List, Ok}
use Rattle.engine.specs.declared.run.Answer.{Answer}
use Rattle.engine.specs.declared.run.Answer.TheVariants.{False, True, Spent, NoRoomUniversal, NoRoomExistential, Refused}
use Rattle.engine.specs.Outcome.{Given, accepted, returned}
use Rattle.fee.specs.Fee.{fee, charged}
use Rattle.fee.specs.Bands.{Loads, fee_with, charged_with}

-- 'Spent and no-room studies pay for the rounds reached; a refused one pays nothing': what a study with this answer pays, given the fee
-- for the round that it returned.
abbrev pub pays : Answer → ℕ → ℕ
pays False fee = fee
pays True fee = fee
pays Spent fee = fee
pays NoRoomUniversal fee = fee
pays NoRoomExistential fee = fee
pays (Refused cause) fee = 0

-- What a study pays, a run over all that it is lent, by a fee for kinds and rounds.
unfoldable pub study_fee : (List ℕ → ℕ → ℕ) → Given → ℕ
study_fee fee_for g = pays (returned g).answer (fee_for g.kinds (returned g).round)

-- For everything that a run can be lent.
pub record StudyPays (g : Given) : Type 0 where
  -- An accepted study pays what `fee::fee` answers for the returned round and the kinds, whatever the run's answer; and what `fee::fee_with`
  -- answers, if it is charged by bands that loading accepts.
  pub accepted_pays : accepted g ≡ true → charged g.kinds (returned g).round ≡ Ok (study_fee fee g)
  pub accepted_pays_with : (firsts prices : List ℕ) → Loads firsts prices → accepted g ≡ true
      → charged_with firsts prices g.kinds (returned g).round ≡ Ok (study_fee (fee_with firsts prices) g)
  -- A refused one returns round 0 and pays nothing, by whatever fee.
  pub refused_round : accepted g ≡ false → (returned g).round ≡ 0
  pub refused_pays : (fee_for : List ℕ → ℕ → ℕ) → accepted g ≡ false → study_fee fee_for g ≡ 0

-- What `study` returns and leaves, for everything that is lent: the causes in order, then runs of one formula, each under a setting of its own, one
-- after the other until one of them gives a verdict.
-- Assumes nothing.
use Rattle.std.specs.Prelude.{ℕ, zero, suc, ◌*◌, ◌%◌, Bool, true, false, not, ◌||◌, cond, List, [], ◌∷◌, eqb, ltb, ℤ, length, get_or}
use Rattle.formula.specs.Causes.{any}
use Rattle.trimming_rules.specs.Trimming.{trimmed}
use Rattle.engine.specs.declared.run.Answer.{Answer}
use Rattle.engine.specs.declared.run.Answer.TheVariants.{False, True, Spent, NoRoomUniversal, NoRoomExistential, Refused}
use Rattle.engine.specs.declared.run.Outcome.{Outcome}
use Rattle.engine.specs.Outcome.{Areas, Given, given, cause as run_cause, refusal, returned, left}
use Rattle.study.specs.declared.Setting.{Setting}
use Rattle.study.specs.declared.Studied.{Studied}

-- A list of settings is lent as a table of four numbers a setting: whether the formula is trimmed first (0 or 1), the preference byte (256 for house
-- preferences), how often the universal table is cleared, and the limit of rounds.
abbrev pub max_settings : ℕ
max_settings = 8

abbrev pub house : ℕ
house = 256

-- The setting that a table begins with.
abbrev pub setting_from : List ℕ → Setting
setting_from table = record { trim = get_or table 0 0; preference = get_or table 1 0; clearing = get_or table 2 0; limit = get_or table 3 0 }

unfoldable pub settings_of : List ℕ → List Setting
settings_of [] = []
settings_of (t ∷ []) = []
settings_of (t ∷ p ∷ []) = []
settings_of (t ∷ p ∷ k ∷ []) = []
settings_of (t ∷ p ∷ k ∷ n ∷ rest) = record { trim = t; preference = p; clearing = k; limit = n } ∷ settings_of rest

-- Whether the run of a setting is over the trimmed formula.
abbrev pub trims : Setting → Bool
trims s = not (eqb s.trim 0)

-- What the run of a setting is given: the lent formula or the trimmed one ..
abbrev pub formula_of : ℕ → List ℕ → List ℤ → List ℤ
formula_of zero kinds literals = literals
formula_of (suc n) kinds literals = trimmed kinds literals

-- .. one preference byte or none, by which house preferences are used ..
unfoldable pub preferences_of : ℕ → List ℕ
preferences_of p = cond (ltb p house) (p ∷ []) []

-- .. the areas as they are found, the limit and how often the universal table is cleared.
abbrev pub given_of : List ℕ → List ℤ → Setting → Areas → Given
given_of kinds literals s found =
    given kinds (formula_of s.trim kinds literals) (preferences_of s.preference) found s.limit s.clearing

-- An unknown field: neither 0 nor 1 for trimming, or no byte and not the number for house preferences.
unfoldable pub unknown : Setting → Bool
unknown s = ltb 1 s.trim || ltb house s.preference

-- Cause 26: no setting, more than eight, a table that is not in fours, or an unknown field.
unfoldable pub cause_26 : List ℕ → Bool
cause_26 settings =
    eqb (length settings) 0
    || (ltb (max_settings * 4) (length settings) || (not (eqb (length settings % 4) 0) || any unknown (settings_of settings)))

-- Cause 6, 'limit 0', of any setting.
abbrev pub no_round : Setting → Bool
no_round s = eqb s.limit 0

unfoldable pub list_cause : List ℕ → ℕ
list_cause settings = cond (cause_26 settings) 26 (cond (any no_round (settings_of settings)) 6 0)

-- The first of the causes that applies, or 0: those of a run over what is lent, whatever its limit, then those of the list.
unfoldable pub cause : List ℕ → List ℤ → List ℕ → Areas → ℕ
cause kinds literals settings found =
    let of_run : ℕ = run_cause (given kinds literals [] found 1 0) in
    cond (eqb of_run 0) (list_cause settings) of_run

-- What is returned, the outcome of a run and which setting gave it, counted from 0; and what is left in the areas.
pub record Ending : Type 0 where
  pub result : Studied
  pub areas_left : Areas

abbrev pub ending : Outcome → ℕ → Areas → Ending
ending o i a = record { result = record { outcome = o; setting = i }; areas_left = a }

abbrev pub is_verdict : Answer → Bool
is_verdict False = true
is_verdict True = true
is_verdict Spent = false
is_verdict NoRoomUniversal = false
is_verdict NoRoomExistential = false
is_verdict (Refused n) = false

-- The runs of settings from number i on, the first one over the areas as found, each further one over what the run before it has left: the first
-- that gives a verdict ends the study, and so does the last.
unfoldable pub in_turn : List ℕ → List ℤ → List Setting → ℕ → Areas → Ending
in_turn kinds literals [] i found = ending (refusal 26) i found
in_turn kinds literals (s ∷ rest) i found =
    let g = given_of kinds literals s found in
    let later = in_turn kinds literals rest (suc i) (left g) in
    cond (is_verdict (returned g).answer || eqb (length rest) 0) (ending (returned g) i (left g)) later

-- After a refusal everything lent is as found.
unfoldable pub studied : List ℕ → List ℤ → List ℕ → Areas → Ending
studied kinds literals settings found =
    let answered = in_turn kinds literals (settings_of settings) 0 found in
    cond (eqb (cause kinds literals settings found) 0) answered (ending (refusal (cause kinds literals settings found)) 0 found)

-- What the runs in turn ask for and make. Cited by contracts of private functions alone.
-- Assumes nothing.
use Rattle.std.specs.Prelude.{ℕ, zero, suc, ◌*◌, ◌≤◌, ◌≡◌, ◌⊎◌, Bool, true, false, not, cond, List, [], ◌∷◌, eqb, ℤ, length, take, drop, Result, Ok, Err, ⊤}
use Rattle.formula.specs.Causes.{any}
use Rattle.trimming_rules.specs.Trimming.{trimmed}
use Rattle.engine.specs.declared.run.Answer.{Answer}
use Rattle.engine.specs.declared.run.Answer.TheVariants.{False, True, Spent, NoRoomUniversal, NoRoomExistential, Refused}
use Rattle.engine.specs.Outcome.{Areas}
use Rattle.study.specs.declared.Setting.{Setting}
use Rattle.study.specs.Study.{setting_from, settings_of, trims, list_cause, cause}

-- The setting at a place of a table.
abbrev pub setting_at : List ℕ → ℕ → Setting
setting_at settings i = setting_from (drop (4 * i) settings)

-- The lent literals, or those that are trimmed.
abbrev pub formula_from : ℕ → List ℤ → List ℤ → List ℤ
formula_from zero literals trimmed_ones = literals
formula_from (suc n) literals trimmed_ones = trimmed_ones

-- What a test tells of a list's settings: whether one of them passes it, told by the first that does or by all.
unfoldable pub Tells : (Setting → Bool → Type 0) → List Setting → Bool → Type 0
Tells told [] r = r ≡ false
Tells told (s ∷ ss) r = (told s true × (r ≡ true)) ⊎ (told s false × Tells told ss r)

-- A cause's number is refused with, 0 is none's.
abbrev pub numbered : ℕ → Result ⊤ ℕ
numbered n = cond (eqb n 0) (Ok tt) (Err n)

-- A list without a cause, none of whose settings trims.
unfoldable pub at_once : List ℕ → Bool
at_once settings = cond (eqb (list_cause settings) 0) (not (any trims (settings_of settings))) false

-- No run follows a verdict, nor a refusal: the next one would be refused too.
abbrev pub is_end : Answer → Bool
is_end False = true
is_end True = true
is_end Spent = false
is_end NoRoomUniversal = false
is_end NoRoomExistential = false
is_end (Refused n) = true

-- Where a setting trims, the first entries of a table are the trimmed literals.
pub record Holds (trim : Bool) (kinds : List ℕ) (literals table : List ℤ) (entries : ℕ) : Type 0 where
  pub inside : entries ≤ length table
  pub held : trim ≡ true → take entries table ≡ trimmed kinds literals

-- What the runs in turn ask for: a list without a cause, and where a setting trims that no cause applies, and the trimmed literals.
pub record Ready (kinds : List ℕ) (literals : List ℤ) (settings : List ℕ) (found : Areas) (table : List ℤ) (entries : ℕ) : Type 0 where
  pub listed : list_cause settings ≡ 0
  pub known : any trims (settings_of settings) ≡ true → cause kinds literals settings found ≡ 0
  pub holds : Holds (any trims (settings_of settings)) kinds literals table entries

-- Areas of one size.
pub record SameSizes (a b : Areas) : Type 0 where
  pub universal_rows : length a.universal_rows ≡ length b.universal_rows
  pub universal_marks : length a.universal_marks ≡ length b.universal_marks
  pub universal_counts : length a.universal_counts ≡ length b.universal_counts
  pub existential_rows : length a.existential_rows ≡ length b.existential_rows
  pub existential_marks : length a.existential_marks ≡ length b.existential_marks
  pub existential_counts : length a.existential_counts ≡ length b.existential_counts
  pub work : length a.work ≡ length b.work

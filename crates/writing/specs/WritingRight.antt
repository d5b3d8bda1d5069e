-- The text that is written of a formula is read as that formula, for all that can be read of a text; and it fits 58,651 bytes. Assumes nothing.
use Rattle.std.specs.Prelude.{ℕ, ◌≤◌, ◌≡◌, List, [], ◌∷◌, ℤ, length}
use Rattle.formula.specs.Causes.{zeros, checked, number}
use Rattle.lines.specs.Lines.{Bytes}
use Rattle.named.specs.Names.{Distinct}
use Rattle.text.specs.Reading.{max_variables, Read, taken, text_read}
use Rattle.writing.specs.Writing.{written}

-- 'A name is 1 to V.'
abbrev pub Range : ℕ → List ℕ → Type 0
Range variables [] = Unit {0}
Range variables (v ∷ vs) = (1 ≤ v) × (v ≤ variables) × Range variables vs

-- What a formula needs to have a text: none of the causes 1 to 3 applies, and there is a name for each unknown, no two alike, from 1 to V.
pub record Writable (kinds : List ℕ) (literals : List ℤ) (names : List ℕ) (variables : ℕ) : Type 0 where
  pub accepted : number (checked kinds literals) ≡ 0
  pub a_name_each : length names ≡ length kinds
  pub different : Distinct names
  pub in_range : Range variables names
  pub few_variables : variables ≤ max_variables

-- What is read again.
abbrev pub again : List ℕ → List ℤ → List ℕ → ℕ → Read
again kinds literals names variables = record { kinds = kinds; names = names; literals = literals; variables = variables; clauses = zeros literals }

pub record WritingRight (kinds : List ℕ) (literals : List ℤ) (names : List ℕ) (variables : ℕ) : Type 0 where
  pub read_again : Writable kinds literals names variables → text_read (written kinds literals names variables) ≡ taken (again kinds literals names variables)
  pub short : Writable kinds literals names variables → length (written kinds literals names variables) ≤ 58651

-- Whatever is read of a text has one.
abbrev pub ReadWritable : Bytes → Type 0
ReadWritable text = (r : Read) → text_read text ≡ taken r → Writable r.kinds r.literals r.names r.variables

-- The place that a decision by cases has reached, as the values of the unknowns that are set: the formula there, and what the whole comes to once the
-- place has been told. Cited by contracts of private functions alone.
-- Assumes nothing.
use Rattle.std.specs.Prelude.{ℕ, zero, suc, ◌+◌, ◌-◌, ◌≤◌, ◌<◌, ◌≡◌, Bool, true, false, cond, List, [], ◌∷◌, ◌++◌, ltb, ℤ, nat_abs, length, get_or, take, drop}
use Rattle.std.specs.Prelude.{Option, Some, None}
use Rattle.std.proofs.Math.Option.{some}
use Rattle.formula.specs.Causes.{any}
use Rattle.judge.specs.Judge.{outcome as judged, work_after}
use Rattle.case_rules.specs.Restricted.{restricted}
use Rattle.case_rules.specs.ByCases.{names_first}
use Rattle.case_rules.specs.Budget.{most_studies}
use Rattle.restriction.specs.Outcome.{values_of}
use Rattle.study.specs.declared.Setting.{Setting}
use Rattle.case_study.specs.declared.Progress.{Progress}
use Rattle.case_study.specs.declared.Reply.{Reply as Found}
use Rattle.case_study.specs.declared.Reply.TheVariants.{Is, Undecided, Stopped}
use Rattle.case_study.specs.Cases.{is_accepted, State, Reply, is, undecided, stopped, Told, told, second_value, first_value, half, agree, both_cases}
use Rattle.case_study.specs.Cases.{Asking, by_run, sharing, decide_by}

-- The formula with one unknown more set; one that no clause names is passed over.
abbrev pub step : Setting → List ℕ → List ℤ → Bool → List ℤ
step s kinds literals value = cond (any names_first literals) (half s kinds literals value) (restricted (value ∷ []) literals)

unfoldable pub formula_at : Setting → List ℕ → List ℤ → List Bool → List ℤ
formula_at s [] literals path = literals
formula_at s (kind ∷ kinds) literals [] = literals
formula_at s (kind ∷ kinds) literals (value ∷ path) = formula_at s kinds (step s kinds literals value) path

-- A level in its first case waits for what that is told; one in its second, or passed over, hands it on.
abbrev pub at_level : ℕ → Bool → Told → (Bool → State → Told) → Told
at_level kind value inner second = cond (agree value (first_value kind)) (both_cases kind inner second) inner

unfoldable pub resume : Setting → ℕ → ℕ → List ℕ → List ℤ → List Bool → Told → Told
resume s bound n [] literals path t = t
resume s bound n (kind ∷ kinds) literals [] t = t
resume s bound n (kind ∷ kinds) literals (value ∷ path) t =
    at_level kind value (resume s bound n kinds (step s kinds literals value) path t)
    (λ v later. decide_by s bound n (sharing v) kinds (step s kinds literals (second_value kind)) later)

-- How many formulas may still be asked: all below the place, and those of the second cases on the way to it.
abbrev pub second_ones : Bool → ℕ → ℕ
second_ones true n = most_studies n
second_ones false n = 0

unfoldable pub to_ask : List ℕ → List Bool → ℕ
to_ask [] path = most_studies 0
to_ask (kind ∷ kinds) [] = most_studies (length (kind ∷ kinds))
to_ask (kind ∷ kinds) (value ∷ path) = second_ones (agree value (first_value kind)) (length kinds) + to_ask kinds path

-- The way down from a formula that is not decided: unknowns that no clause names are passed over, the next one is set to its first value.
unfoldable pub way_down : List ℕ → List ℤ → List Bool
way_down [] literals = []
way_down (kind ∷ kinds) literals =
    let passed = way_down kinds (restricted (second_value kind ∷ []) literals) in
    cond (any names_first literals) (first_value kind ∷ []) (second_value kind ∷ passed)

-- How many unknowns in front no clause names, at most m: the place of the nearest name.
abbrev pub nearer : ℕ → ℕ → ℕ
nearer m zero = m
nearer m (suc v) = cond (ltb v m) v m

unfoldable pub unnamed : ℕ → List ℤ → ℕ
unnamed m [] = m
unnamed m (z ∷ literals) = unnamed (nearer m (nat_abs z)) literals

-- The way down where j unknowns are passed over.
unfoldable pub way_of : List ℕ → ℕ → List Bool
way_of [] j = []
way_of (kind ∷ kinds) zero = first_value kind ∷ []
way_of (kind ∷ kinds) (suc j) = second_value kind ∷ way_of kinds j

-- The first entries of a table are a formula.
pub record Laid (formula table : List ℤ) (used : ℕ) : Type 0 where
  pub inside : used ≤ length table
  pub laid : take used table ≡ formula

-- Bytes that are 0 or 1.
abbrev pub Known : List ℕ → Type 0
Known bytes = (i : ℕ) → get_or bytes i 0 ≤ 1

-- The values of the first unknowns, and behind them the second value of each.
pub record Placed (kinds values : List ℕ) (depth : ℕ) : Type 0 where
  pub as_long : length values ≡ length kinds
  pub below : depth ≤ length kinds
  pub known : Known values
  pub behind : drop depth values ≡ drop depth kinds

abbrev pub path_of : List ℕ → ℕ → List Bool
path_of values depth = values_of (take depth values)

-- The way down was gone.
pub record Descended (kinds : List ℕ) (literals : List ℤ) (values : List ℕ) (depth : ℕ) (after : List ℕ) (deeper : ℕ) : Type 0 where
  pub placed : Placed kinds after deeper
  pub gone : path_of after deeper ≡ path_of values depth ++ way_of (drop depth kinds) (unnamed (length kinds - depth) literals)

-- The way up was gone with a verdict: to the top, or to a level whose second case is next.
pub record Climbed (kinds values : List ℕ) (depth : ℕ) (v : Bool) (after : List ℕ) (level : ℕ) : Type 0 where
  pub placed : Placed kinds after level
  pub told_at_top : level ≡ 0
      → (s : Setting) (bound n : ℕ) (literals : List ℤ) (st : State)
      → resume s bound n kinds literals (path_of values depth) (told (some v) st) ≡ told (some v) st
  pub turned : (level ≡ 0 → ⊥)
      → (s : Setting) (bound n : ℕ) (literals : List ℤ) (st : State)
      → resume s bound n kinds literals (path_of values depth) (told (some v) st)
      ≡ resume s bound n kinds literals (path_of after level)
      (decide_by s bound n (sharing v) (drop level kinds) (formula_at s kinds literals (path_of after level)) st)
  pub fewer : (level ≡ 0 → ⊥) → to_ask kinds (path_of after level) < to_ask kinds (path_of values depth)

-- The code's replies, and how a claim asks: a verdict's claim by rows that serve twice, no claim by a run.
abbrev pub replied : Found → Reply
replied (Is v) = is v
replied Undecided = undecided
replied Stopped = stopped

abbrev pub asking_by : Option Bool → Asking
asking_by (Some v) = sharing v
asking_by None = by_run

-- Whether the rows of the last run serve, by the claim: universal ones for false, existential ones for true; and what the judge leaves.
unfoldable pub shares : Bool → List ℕ → List ℤ → List ℕ → List ℕ → Progress → List ℕ → Bool
shares false kinds literals A S made work = is_accepted (judged kinds literals 0 A made.universal work)
shares true kinds literals A S made work = is_accepted (judged kinds literals 1 S made.existential work)

unfoldable pub shared_work : Bool → List ℕ → List ℤ → List ℕ → List ℕ → Progress → List ℕ → List ℕ
shared_work false kinds literals A S made work = work_after kinds literals 0 A made.universal work
shared_work true kinds literals A S made work = work_after kinds literals 1 S made.existential work

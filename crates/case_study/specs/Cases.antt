-- Deciding by cases: a formula that a run does not decide is decided by the two cases of its first unknown, each a formula of one unknown less, in the
-- same way, and with the areas as the runs before have left them.
-- Assumes nothing.
use Rattle.std.specs.Prelude.{ℕ, ◌+◌, ◌-◌, Bool, true, false, not, ◌&&◌, cond, List, [], ◌∷◌, eqb, leb, ltb, ℤ, length, Result, Ok, Err}
use Rattle.std.proofs.Math.Option.{Option, none, some}
use Rattle.cause.specs.declared.Cause.{Cause}
use Rattle.formula.specs.Causes.{any}
use Rattle.formula.specs.Meaning.{bit}
use Rattle.engine.specs.declared.run.Answer.{Answer}
use Rattle.engine.specs.declared.run.Answer.TheVariants.{False, True, Spent, NoRoomUniversal, NoRoomExistential, Refused}
use Rattle.engine.specs.declared.run.Outcome.{Outcome}
use Rattle.engine.specs.Outcome.{Areas, areas, Given, given, returned, left}
use Rattle.judge.specs.declared.Judgement.{Judgement}
use Rattle.judge.specs.declared.Judgement.TheVariants.{NotBorneOut, Accepted}
use Rattle.judge.specs.Judge.{outcome as judged, work_after}
use Rattle.case_rules.specs.Restricted.{restricted}
use Rattle.case_rules.specs.ByCases.{names_first}
use Rattle.restriction.specs.Outcome.{value_of}
use Rattle.study.specs.declared.Setting.{Setting}
use Rattle.study.specs.Study.{formula_of, preferences_of}
use Rattle.case_study.specs.declared.Progress.{Progress}

-- ---- a formula's halves

-- The first case of an unknown is the value that is enough if it wins: true for an existential one, false for a universal one. The second is the other.
abbrev pub second_value : ℕ → Bool
second_value kind = value_of kind

abbrev pub first_value : ℕ → Bool
first_value kind = not (second_value kind)

-- The formula of a case, with the kinds of the unknowns behind the first one, trimmed if the setting trims.
abbrev pub half : Setting → List ℕ → List ℤ → Bool → List ℤ
half s kinds literals value = formula_of s.trim kinds (restricted (value ∷ []) literals)

-- ---- one run

-- What the runs have come to: the areas as they are, and the code's record of the runs made: counts of the last one, how many, the sum of their rounds,
-- and the most unknowns that were set.
pub record State : Type 0 where
  pub areas_so : Areas
  pub made : Progress

abbrev pub state : Areas → Progress → State
state a p = record { areas_so = a; made = p }

abbrev pub most_runs : ℕ
most_runs = 4294967295

abbrev pub most_rounds : ℕ
most_rounds = 999999999

-- Numbers that stop at their most.
unfoldable pub up_to : ℕ → ℕ → ℕ
up_to most n = cond (leb n most) n most

unfoldable pub larger : ℕ → ℕ → ℕ
larger m n = cond (ltb m n) n m

abbrev pub counted : ℕ → Outcome → Progress → Progress
counted depth o p =
    record {
      universal = o.universal;
      existential = o.existential;
      runs = up_to most_runs (p.runs + 1);
      rounds = up_to most_rounds (p.rounds + o.round);
      depth = larger p.depth depth;
    }

-- What a formula is found to be: a verdict; not decided, so that its cases follow; or nothing, since no further run is allowed.
pub data Reply : Type 0 where
  is : Bool → Reply
  undecided : Reply
  stopped : Reply

pub record Asked : Type 0 where
  pub reply : Reply
  pub state_then : State

abbrev pub asked : Reply → State → Asked
asked reply st = record { reply = reply; state_then = st }

abbrev pub reply_of : Answer → Reply
reply_of True = is true
reply_of False = is false
reply_of Spent = undecided
reply_of NoRoomUniversal = undecided
reply_of NoRoomExistential = undecided
reply_of (Refused n) = undecided

-- A bound of 0 is none.
unfoldable pub is_reached : ℕ → ℕ → Bool
is_reached bound runs = not (eqb bound 0) && leb bound runs

abbrev pub run_given : Setting → List ℕ → List ℤ → Areas → Given
run_given s kinds literals found = given kinds literals (preferences_of s.preference) found s.limit s.clearing

-- The run of a formula, whose first `depth` unknowns are set, over the areas as they are.
unfoldable pub run_of : Setting → ℕ → List ℕ → List ℤ → State → Asked
run_of s depth kinds literals st =
    let g = run_given s kinds literals st.areas_so in
    asked (reply_of (returned g).answer) (state (left g) (counted depth (returned g) st.made))

abbrev pub allowed_run : Setting → ℕ → ℕ → List ℕ → List ℤ → State → Asked
allowed_run s bound depth kinds literals st =
    cond (is_reached bound st.made.runs) (asked stopped st) (run_of s depth kinds literals st)

-- ---- rows that serve twice

-- The rows that bear out a claim, existential ones that the formula is true, as the last run has left them, and their count.
abbrev pub rows_for : Bool → Areas → List ℕ
rows_for true found = found.existential_rows
rows_for false found = found.universal_rows

abbrev pub count_for : Bool → Progress → ℕ
count_for true p = p.existential
count_for false p = p.universal

abbrev pub is_accepted : Result Judgement Cause → Bool
is_accepted (Ok NotBorneOut) = false
is_accepted (Ok Accepted) = true
is_accepted (Err cause) = false

-- The judge's judgement of them, and what it leaves.
unfoldable pub serves : Bool → List ℕ → List ℤ → State → Bool
serves v kinds literals st =
    is_accepted (judged kinds literals (bit v) (rows_for v st.areas_so) (count_for v st.made) st.areas_so.work)

abbrev pub with_work : Areas → List ℕ → Areas
with_work a work =
    areas a.universal_rows a.universal_marks a.universal_counts a.existential_rows a.existential_marks a.existential_counts work

unfoldable pub after_judge : Bool → List ℕ → List ℤ → State → State
after_judge v kinds literals st =
    state (with_work st.areas_so (work_after kinds literals (bit v) (rows_for v st.areas_so) (count_for v st.made) st.areas_so.work)) st.made

-- ---- all cases

-- How a formula is asked: by a run; or first by the rows that settled the first case, with its verdict; or not at all, where it is the formula before it
-- with an unknown passed over.
pub data Asking : Type 0 where
  by_run : Asking
  sharing : Bool → Asking
  passing : Asking

abbrev pub reply_to : Asking → Setting → ℕ → ℕ → List ℕ → List ℤ → State → Asked
reply_to by_run s bound depth kinds literals st = allowed_run s bound depth kinds literals st
reply_to (sharing v) s bound depth kinds literals st =
    cond (serves v kinds literals st) (asked (is v) (after_judge v kinds literals st))
    (allowed_run s bound depth kinds literals (after_judge v kinds literals st))
reply_to passing s bound depth kinds literals st = asked undecided st

-- With no unknown left there is always a run.
abbrev pub at_end : Asking → Asking
at_end by_run = by_run
at_end (sharing v) = sharing v
at_end passing = by_run

-- A verdict, or none where the bound was reached; and the state then.
pub record Told : Type 0 where
  pub answer : Option Bool
  pub state_then : State

abbrev pub told : Option Bool → State → Told
told answer st = record { answer = answer; state_then = st }

abbrev pub unless : Reply → State → (State → Told) → Told
unless (is v) st cases = told (some v) st
unless undecided st cases = cases st
unless stopped st cases = told none st

abbrev pub unless_asked : Asked → (State → Told) → Told
unless_asked a cases = unless a.reply a.state_then cases

-- The first case is all if it has the value that is enough, or if the bound was reached. Else the verdict is that of the second case.
abbrev pub agree : Bool → Bool → Bool
agree true w = w
agree false w = not w

abbrev pub second_unless : ℕ → Option Bool → State → (Bool → State → Told) → Told
second_unless kind none st second = told none st
second_unless kind (some v) st second = cond (agree v (first_value kind)) (told (some v) st) (second v st)

abbrev pub both_cases : ℕ → Told → (Bool → State → Told) → Told
both_cases kind first second = second_unless kind first.answer first.state_then second

abbrev pub if_named : Bool → (State → Told) → (State → Told) → State → Told
if_named true cases pass st = cases st
if_named false cases pass st = pass st

-- The verdict of a formula whose kinds are left of n in all. An unknown that no clause names is passed over.
unfoldable pub decide_by : Setting → ℕ → ℕ → Asking → List ℕ → List ℤ → State → Told
decide_by s bound n asking [] literals st = unless_asked (reply_to (at_end asking) s bound n [] literals st) (told none)
decide_by s bound n asking (kind ∷ kinds) literals st =
    unless_asked (reply_to asking s bound (n - length (kind ∷ kinds)) (kind ∷ kinds) literals st)
    (if_named (any names_first literals)
    (λ now.
    both_cases kind (decide_by s bound n by_run kinds (half s kinds literals (first_value kind)) now)
    (λ v later. decide_by s bound n (sharing v) kinds (half s kinds literals (second_value kind)) later))
    (λ now. decide_by s bound n passing kinds (restricted (second_value kind ∷ []) literals) now))

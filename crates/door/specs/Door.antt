-- 01's C door: 'Through a C door the bid tool lends the text's bytes and a work area with a round limit, and gets the answer number back, or
-- 100 plus the refusal number; it lends no preferences, has 256 rows a side of its own, and the text's faults come before 5 and 6.'
-- Assumes nothing.
use Rattle.std.specs.Prelude.{ℕ, ◌+◌, List}
use Rattle.engine.specs.Outcome.{Given, returned, left}
use Rattle.engine.specs.Numbers.{one_number}
use Rattle.text.specs.Reading.{Result, taken, refused, text_read}
use Rattle.decision.specs.Decision.{handed_on}

-- 'Gets the answer number back, or 100 plus the refusal number.'
abbrev pub run_number : Given → ℕ
run_number g = one_number (returned g).answer

-- 'The text's faults come before 5 and 6': a text that is refused is not handed on, and leaves the work area as found.
abbrev pub number_back : Result → List ℕ → ℕ → ℕ
number_back (refused number line) work limit = 100 + number
number_back (taken r) work limit = run_number (handed_on r.kinds r.literals work limit)

abbrev pub work_back : Result → List ℕ → ℕ → List ℕ
work_back (refused number line) work limit = work
work_back (taken r) work limit = (left (handed_on r.kinds r.literals work limit)).work

-- What the door returns, and what the work area holds afterwards.
unfoldable pub answer : List ℕ → List ℕ → ℕ → ℕ
answer text work limit = number_back (text_read text) work limit

unfoldable pub work_after : List ℕ → List ℕ → ℕ → List ℕ
work_after text work limit = work_back (text_read text) work limit

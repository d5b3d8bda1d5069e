-- What is lent, and the p line of a text: found or not, and without a cause within the limits. Assumes nothing.
use Prim.Native.Nat.{ℕ, zero, suc, ◌+◌, ◌-◌, ◌≤◌, ◌<◌}
use Rattle.std.specs.Prelude.{Result}
use mathlib.Core.Path.{◌≡◌, refl, ap, ◌∙◌}
use mathlib.Core.Bool.{Bool, true, false, cond, ◌&&◌, false≢true}
use mathlib.Core.List.{List, []}
use native.Mathlib.Numerals.{add-one}
use native.Mathlib.Omega.{arith}
use native.Mathlib.Decide.{dec_lt}
use borrow.Author.Tests.{eqb-true, ltb-false}
use lib.Dec.{leb, ltb, eqb}
use lib.ListN.{length, take, drop}
use Rattle.formula.specs.Formula.{max_unknowns, max_entries}
use Rattle.lines.specs.Lines.{Bytes, lines, fifth}
use Rattle.lines.specs.Numbers.{number, unsigned, negative}
use Rattle.lines.specs.Places.{before}
use Rattle.lines.proofs.LineLaws.{lines_line, lines_rest, lines_none}
use Rattle.text.specs.Reading.{max_bytes, max_variables, State, went, unless, Scan, stopped, go_on, max_items, output_range, items_of, body, opened}
use Rattle.text.specs.Reading.{problem_cause, problem, after_comments, lent_well, scan}
use Rattle.text.specs.declared.opening.Problem.{Problem}
use Rattle.text.specs.Private.Steps.{range_cause, items_at, ProblemSo}
use Rattle.cause.specs.declared.Cause.{Cause}
use Rattle.cause.specs.Cause.{number as number_of_cause, told, unless_cause}
use Rattle.cause.proofs.Numbers.{from_1, Known, known_cond, told_unless}

-- What is lent with the lengths that it may have.
module _ (text : Bytes) (kinds literals names : ℕ) (well : lent_well text kinds literals names ≡ true) where
  pub scan_lent : (gates : Bool) → scan gates text kinds literals names ≡ after_comments gates 1 (lines text)
  unfolding scan
  scan_lent gates = rw well refl

  pub lent_sizes : (kinds ≡ max_unknowns) × (literals ≡ max_entries) × (names ≡ max_unknowns)
  lent_sizes = go (leb (length text) max_bytes) (eqb kinds max_unknowns) (eqb literals max_entries) (eqb names max_unknowns) refl refl refl well
    where
      go : (a b c d : Bool) → eqb kinds max_unknowns ≡ b → eqb literals max_entries ≡ c → eqb names max_unknowns ≡ d → (a && b && c && d) ≡ true
          → (kinds ≡ max_unknowns) × (literals ≡ max_entries) × (names ≡ max_unknowns)
      go true true true true p q r h = (eqb-true kinds max_unknowns p, eqb-true literals max_entries q, eqb-true names max_unknowns r)
      go false b c d p q r h = absurd (false≢true h)
      go true false c d p q r h = absurd (false≢true h)
      go true true false d p q r h = absurd (false≢true h)
      go true true true false p q r h = absurd (false≢true h)

pub range_small : (gates good : Bool) (v c o : ℕ) → range_cause gates good v c o ≡ 0 → (v ≤ max_variables) × (gates ≡ true → o ≤ max_variables)
unfolding range_cause
range_small gates good v c o h = go good gates (ltb max_variables v) (ltb (max_items gates) c) (ltb max_variables o) refl refl h
  where
    go : (a gates b d e : Bool) → ltb max_variables v ≡ b → ltb max_variables o ≡ e → ◌≡◌ {A = ℕ} (cond a (cond b 11 (cond d 11 (output_range gates o))) 10) 0
        → (v ≤ max_variables) × (gates ≡ true → o ≤ max_variables)
    go true gates true d e q r h = absurd (omega arith)
    go true gates false true e q r h = absurd (omega arith)
    go true false false false e q r h = (ltb-false max_variables v q, λ g. absurd (false≢true g))
    go true true false false true q r h = let z : ◌≡◌ {A = ℕ} 11 0 = rw r at h in absurd (omega arith)
    go true true false false false q r h = (ltb-false max_variables v q, λ g. ltb-false max_variables o r)
    go false gates b d e q r h = absurd (omega arith)

-- The literal of the p line.
pub output_items : (gates : Bool) (ws : List Bytes) (v : ℕ) (minus : Bool) → v ≡ number (unsigned (fifth ws)) → minus ≡ negative (fifth ws) → (k : ℕ) →
    items_at gates minus v k ≡ items_of gates ws k
output_items false ws v minus a b k = refl
output_items true ws v minus a b k = rw (a, b) refl

go_on_refused : (cause : ℕ) → (cause ≡ 0 → ⊥) → (s : State) (k : ℕ) (more : State → Scan) → go_on (unless cause (went s)) k more ≡ stopped cause k
go_on_refused zero h s k more = absurd (h refl)
go_on_refused (suc c) h s k more = refl

module _ (gates : Bool) (text : Bytes) (at end line : ℕ) (e : end ≡ at + before 10 (drop at text)) where
  -- No line is left, or one that lacks its end.
  pub problem_none : at ≤ length text → end ≡ length text → problem gates line (lines (drop at text)) ≡ stopped 10 line
  problem_none h k = go (dec_lt at (length text))
    where
      go : Dec (at < length text) → problem gates line (lines (drop at text)) ≡ stopped 10 line
      go (yes some) = rw (lines_rest text at end e some k) refl
      go (no none) = rw (lines_none text at (omega arith)) refl

  module _ (inside : end < length text) where
    pub problem_refused : (cause : Cause) → number_of_cause cause ≡ problem_cause gates (take (end - at) (drop at text))
        → problem gates line (lines (drop at text)) ≡ stopped (number_of_cause cause) line
    problem_refused cause right = rw (lines_line text at end e inside, ← right) (go_on_refused (number_of_cause cause) (λ z. omega (arith, from_1 cause)) _ line
        _)

    pub problem_taken : {p : Problem} → ProblemSo gates (take (end - at) (drop at text)) p
        → problem gates line (lines (drop at text))
        ≡ body (items_at gates p.negative p.output line)
        (record { variables = p.variables; clauses = p.clauses; kinds = []; names = []; free = []; entries = []; clauses_read = 0; made = 0 }) (line + 1)
        (lines (drop (end + 1) text))
    unfolding opened
    problem_taken p = rw (lines_line text at end e inside, ← p.right, ← p.v, ← p.c, add-one line, p.items line) refl

-- The number of a p line's cause is told as it is.
known_0 : Known 0
known_0 = refl

known_10 : Known 10
known_10 = refl

known_11 : Known 11
known_11 = refl

range_known : (gates good : Bool) (v c o : ℕ) → Known (range_cause gates good v c o)
unfolding range_cause
range_known gates good v c o =
    known_cond good (known_cond (ltb max_variables v) known_11 (known_cond (ltb (max_items gates) c) known_11 (output_known gates))) known_10
  where
    output_known : (gates : Bool) → Known (output_range gates o)
    output_known false = known_0
    output_known true = known_cond (ltb max_variables o) known_11 known_0

-- So what the test of a p line tells is the definition's cause.
pub range_told : (gates good : Bool) (v c o : ℕ) {r : Result (Unit {0}) Cause} → r ≡ unless_cause (range_cause gates good v c o) tt
    → told r ≡ range_cause gates good v c o
range_told gates good v c o e = ap told e ∙ told_unless (range_cause gates good v c o) tt (range_known gates good v c o)

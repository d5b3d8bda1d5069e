-- Trimming keeps the verdict, its result is accepted, and trimming twice is trimming once.
-- Assumes nothing.
use Prim.Native.Nat.{ℕ, zero, suc, ◌-◌, ◌≤◌, ◌<◌}
use native.Mathlib.Omega.{arith}
use native.Mathlib.Numerals.{sub-one}
use mathlib.Core.Path.{◌≡◌, refl, sym, ◌∙◌, ap, subst}
use mathlib.Core.Bool.{true, false≢true}
use mathlib.Core.List.{List, [], ◌∷◌, ◌++◌}
use mathlib.Core.Option.{none}
use lib.IntN.{ℤ, pos, negsuc, nat_abs}
use lib.ListN.{length, get_or, length-map}
use Rattle.formula.specs.Formula.{prefix, kind_of, Clause, onto, clauses}
use Rattle.formula.specs.Causes.{zeros, is_zero, ended}
use Rattle.formula.specs.Meaning.{matrix, meaning, verdict}
use Rattle.formula.proofs.Accepted.{Accepted}
use Rattle.trimming_rules.specs.Trimming.{step, steps, entries, trimmed}
use Rattle.trimming_rules.proofs.ClauseLaws.{Named, Every}
use Rattle.trimming_rules.proofs.RuleLaws.{Within}
use Rattle.trimming_rules.proofs.StepLaws.{size, length_entries, steps_more, steps_kept, steps_end, steps_still}

-- ---- clauses as entries and back

-- A literal in front of a clause's entries.
clauses_onto : (n : ℕ) (z : ℤ) (zs : List ℤ) → Named n z → clauses (z ∷ zs) ≡ onto z (clauses zs)
clauses_onto n (pos zero) zs h = absurd (let e = h.from_one in omega arith)
clauses_onto n (pos (suc v)) zs h = refl
clauses_onto n (negsuc v) zs h = refl

clauses_clause : (n : ℕ) (c : Clause) (zs : List ℤ) → Every (Named n) c → clauses (c ++ (pos 0 ∷ zs)) ≡ c ∷ clauses zs
clauses_clause n [] zs named = refl
clauses_clause n (z ∷ c) zs named = clauses_onto n z (c ++ (pos 0 ∷ zs)) named.0 ∙ ap (onto z) (clauses_clause n c zs named.1)

pub clauses_entries : (n : ℕ) (cs : List Clause) → Within n cs → clauses (entries cs) ≡ cs
clauses_entries n [] within = refl
clauses_entries n (c ∷ cs) within = clauses_clause n c (entries cs) within.0 ∙ ap (λ x. c ∷ x) (clauses_entries n cs within.1)

-- A clause that is not the last has its end, so a literal goes in front of one.
abbrev pub Started : List Clause → Type 0
Started cs = 0 < length cs

size_onto : (z : ℤ) (cs : List Clause) → Started cs → size (onto z cs) ≡ suc (size cs)
size_onto z [] s = absurd (omega arith)
size_onto z (c ∷ cs) s = omega arith

within_onto : (n : ℕ) (z : ℤ) (cs : List Clause) → Named n z → Within n cs → Within n (onto z cs)
within_onto n z [] named within = ((named, tt), tt)
within_onto n z (c ∷ cs) named within = ((named, within.0), within.1)

started_onto : (z : ℤ) (cs : List Clause) → Started (onto z cs)
started_onto z [] = omega arith
started_onto z (c ∷ cs) = omega arith

pub ended_behind : (z y : ℤ) (zs : List ℤ) → ended (z ∷ y ∷ zs) ≡ ended (y ∷ zs)
ended_behind z y zs = simp sub-one

pub started : (z : ℤ) (zs : List ℤ) → Started (clauses (z ∷ zs))
started (pos zero) zs = omega arith
started (pos (suc v)) zs = started_onto (pos (suc v)) (clauses zs)
started (negsuc v) zs = started_onto (negsuc v) (clauses zs)

-- The clauses of entries that end in 0 have as many entries.
pub size_clauses : (zs : List ℤ) → ended zs ≡ true → size (clauses zs) ≡ length zs
size_clauses [] e = refl
size_clauses (pos zero ∷ []) e = refl
size_clauses (pos (suc v) ∷ []) e = absurd (false≢true e)
size_clauses (negsuc v ∷ []) e = absurd (false≢true e)
size_clauses (pos zero ∷ y ∷ zs) e = let h = size_clauses (y ∷ zs) (sym (ended_behind (pos zero) y zs) ∙ e) in omega arith
size_clauses (pos (suc v) ∷ y ∷ zs) e = size_onto (pos (suc v)) (clauses (y ∷ zs)) (started y zs) ∙ ap suc
    (size_clauses (y ∷ zs) (sym (ended_behind (pos (suc v)) y zs) ∙ e))
size_clauses (negsuc v ∷ y ∷ zs) e = size_onto (negsuc v) (clauses (y ∷ zs)) (started y zs) ∙ ap suc
    (size_clauses (y ∷ zs) (sym (ended_behind (negsuc v) y zs) ∙ e))

-- Entries that end in 0 are those of their clauses.
onto_entries : (z : ℤ) (cs : List Clause) → Started cs → entries (onto z cs) ≡ z ∷ entries cs
onto_entries z [] s = absurd (omega arith)
onto_entries z (c ∷ cs) s = refl

pub entries_clauses : (zs : List ℤ) → ended zs ≡ true → entries (clauses zs) ≡ zs
entries_clauses [] e = refl
entries_clauses (pos zero ∷ []) e = refl
entries_clauses (pos (suc v) ∷ []) e = absurd (false≢true e)
entries_clauses (negsuc v ∷ []) e = absurd (false≢true e)
entries_clauses (pos zero ∷ y ∷ zs) e = ap (λ (l : List ℤ). pos 0 ∷ l) (entries_clauses (y ∷ zs) (sym (ended_behind (pos zero) y zs) ∙ e))
entries_clauses (pos (suc v) ∷ y ∷ zs) e =
    onto_entries (pos (suc v)) (clauses (y ∷ zs)) (started y zs) ∙ ap (λ (l : List ℤ). pos (suc v) ∷ l)
    (entries_clauses (y ∷ zs) (sym (ended_behind (pos (suc v)) y zs) ∙ e))
entries_clauses (negsuc v ∷ y ∷ zs) e =
    onto_entries (negsuc v) (clauses (y ∷ zs)) (started y zs) ∙ ap (λ (l : List ℤ). negsuc v ∷ l)
    (entries_clauses (y ∷ zs) (sym (ended_behind (negsuc v) y zs) ∙ e))

pub within_clauses : (n : ℕ) (zs : List ℤ) → ((i : ℕ) → nat_abs (get_or zs i (pos 0)) ≤ n) → Within n (clauses zs)
within_clauses n [] h = tt
within_clauses n (pos zero ∷ zs) h = (tt, within_clauses n zs (λ i. h (suc i)))
within_clauses n (pos (suc v) ∷ zs) h = within_onto n (pos (suc v)) (clauses zs) (record { from_one = omega arith; to_last = h zero })
    (within_clauses n zs (λ i. h (suc i)))
within_clauses n (negsuc v ∷ zs) h = within_onto n (negsuc v) (clauses zs) (record { from_one = omega arith; to_last = h zero })
    (within_clauses n zs (λ i. h (suc i)))

-- ---- entries of clauses: as many zeros as clauses, the last entry is 0, and none is beyond the names

zeros_named : (z : ℤ) (zs : List ℤ) → 1 ≤ nat_abs z → zeros (z ∷ zs) ≡ zeros zs
zeros_named (pos zero) zs h = absurd (omega arith)
zeros_named (pos (suc v)) zs h = refl
zeros_named (negsuc v) zs h = refl

zeros_clause : (n : ℕ) (c : Clause) (zs : List ℤ) → Every (Named n) c → zeros (c ++ (pos 0 ∷ zs)) ≡ suc (zeros zs)
zeros_clause n [] zs named = refl
zeros_clause n (z ∷ c) zs named = zeros_named z (c ++ (pos 0 ∷ zs)) named.0.from_one ∙ zeros_clause n c zs named.1

zeros_entries : (n : ℕ) (cs : List Clause) → Within n cs → zeros (entries cs) ≡ length cs
zeros_entries n [] w = refl
zeros_entries n (c ∷ cs) w = zeros_clause n c (entries cs) w.0 ∙ ap suc (zeros_entries n cs w.1)

ended_clause : (c : Clause) (zs : List ℤ) → ended (pos 0 ∷ zs) ≡ true → ended (c ++ (pos 0 ∷ zs)) ≡ true
ended_clause [] zs e = e
ended_clause (z ∷ []) zs e = ended_behind z (pos 0) zs ∙ e
ended_clause (z ∷ y ∷ c) zs e = ended_behind z y (c ++ (pos 0 ∷ zs)) ∙ ended_clause (y ∷ c) zs e

ended_zero : (zs : List ℤ) → ended zs ≡ true → ended (pos 0 ∷ zs) ≡ true
ended_zero [] e = refl
ended_zero (y ∷ zs) e = ended_behind (pos 0) y zs ∙ e

pub ended_entries : (cs : List Clause) → ended (entries cs) ≡ true
ended_entries [] = refl
ended_entries (c ∷ cs) = ended_clause c (entries cs) (ended_zero (entries cs) (ended_entries cs))

pub zero_known : (z : ℤ) → is_zero z ≡ true → z ≡ pos 0
zero_known (pos zero) e = refl
zero_known (pos (suc v)) e = absurd (false≢true e)
zero_known (negsuc v) e = absurd (false≢true e)

names_clause : (n : ℕ) (c : Clause) (zs : List ℤ) → Every (Named n) c → ((i : ℕ) → nat_abs (get_or zs i (pos 0)) ≤ n)
    → (i : ℕ) → nat_abs (get_or (c ++ (pos 0 ∷ zs)) i (pos 0)) ≤ n
names_clause n [] zs named h zero = omega arith
names_clause n [] zs named h (suc i) = h i
names_clause n (z ∷ c) zs named h zero = named.0.to_last
names_clause n (z ∷ c) zs named h (suc i) = names_clause n c zs named.1 h i

pub names_entries : (n : ℕ) (cs : List Clause) → Within n cs → (i : ℕ) → nat_abs (get_or (entries cs) i (pos 0)) ≤ n
names_entries n [] w i = omega arith
names_entries n (c ∷ cs) w i = names_clause n c (entries cs) w.0 (names_entries n cs w.1) i

-- ---- the theorems

is_ended : (z : ℤ) → z ≡ pos 0 → is_zero z ≡ true
is_ended z e = ap is_zero e

module _ (kinds : List ℕ) (literals : List ℤ) (a : Accepted kinds literals) where
  unknowns : length (prefix kinds) ≡ length kinds
  unknowns = length-map kinds kind_of

  within : Within (length (prefix kinds)) (clauses literals)
  within = within_clauses (length (prefix kinds)) literals (λ i. subst (λ (n : ℕ). nat_abs (get_or literals i (pos 0)) ≤ n) (sym unknowns) (a.within i))

  few : size (clauses literals) ≤ length literals
  few = let e = size_clauses literals (is_ended (get_or literals (length literals - 1) (pos 0)) a.last_is_zero) in omega arith

  abbrev result : List Clause
  result = steps (length literals) (prefix kinds) (clauses literals)

  result_within : Within (length (prefix kinds)) result
  result_within = (steps_more (length literals) (prefix kinds) (length (prefix kinds)) (clauses literals)).within within

  back : clauses (trimmed kinds literals) ≡ result
  unfolding trimmed
  back = clauses_entries (length (prefix kinds)) result result_within

  -- 'The verdict of the trimmed formula is that of the lent one, for every accepted formula ..'
  pub verdict_kept : verdict kinds (trimmed kinds literals) ≡ verdict kinds literals
  unfolding verdict
  verdict_kept =
      ap (λ x. meaning (prefix kinds) (matrix x)) back
      ∙ sym (steps_kept (length literals) (prefix kinds) (clauses literals) within)

  -- No change applies to what is left.
  pub nothing_left : step (prefix kinds) (clauses (trimmed kinds literals)) ≡ none
  nothing_left = ap (step (prefix kinds)) back ∙ steps_end (length literals) (prefix kinds) (clauses literals) few

  -- '.. and trimming twice is trimming once.'
  pub trimmed_twice : trimmed kinds (trimmed kinds literals) ≡ trimmed kinds literals
  unfolding trimmed
  trimmed_twice =
      ap entries (steps_still (length (entries result)) (prefix kinds) (clauses (entries result)) (ap (step (prefix kinds)) back ∙ steps_end (length literals)
      (prefix kinds) (clauses literals) few))
      ∙ ap entries back

  -- 'A formula to which none of the causes 1 to 3 applies.'
  pub trimmed_accepted : Accepted kinds (trimmed kinds literals)
  unfolding trimmed
  trimmed_accepted =
      let more = steps_more (length literals) (prefix kinds) 0 (clauses literals) in
      record {
        few_unknowns = a.few_unknowns;
        kinds_known = a.kinds_known;
        few_entries = let f = more.falls in let g = few in let h = a.few_entries in let e = length_entries result in omega arith;
        few_clauses = let f = more.clauses in let h = a.few_clauses in let g = a.clauses_are_zeros in let e = zeros_entries (length (prefix kinds)) result
            result_within in omega arith;
        clauses_are_zeros = ap length (clauses_entries (length (prefix kinds)) result result_within) ∙ sym
            (zeros_entries (length (prefix kinds)) result result_within);
        last_is_zero = zero_known (get_or (entries result) (length (entries result) - 1) (pos 0)) (ended_entries result);
        within = λ i. subst (λ (n : ℕ). nat_abs (get_or (entries result) i (pos 0)) ≤ n) unknowns (names_entries (length (prefix kinds)) result result_within i);
      }

  -- No more entries than were lent.
  pub trimmed_fits : length (trimmed kinds literals) ≤ length literals
  unfolding trimmed
  trimmed_fits = let f = (steps_more (length literals) (prefix kinds) 0 (clauses literals)).falls in let g = few in let e = length_entries result in omega arith

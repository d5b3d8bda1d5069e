-- From the lent literals to what is left of them: the table as it is filled, and the table at the end.
-- Assumes nothing.
use Prim.Native.Nat.{ℕ, suc, ◌+◌, ◌%◌, ◌≤◌, ◌<◌}
use native.Mathlib.Omega.{arith}
use mathlib.Core.Path.{◌≡◌, refl, sym, ◌∙◌, ap, ap₂}
use mathlib.Core.Bool.{Bool, true, cond}
use mathlib.Core.List.{List, [], ◌∷◌, ◌++◌, map, append-nil, append_assoc}
use borrow.Author.Tests.{lt-ltb}
use lib.IntN.{ℤ, pos, negsuc, nat_abs}
use lib.ListN.{length, get_or, drop, length-map, drop_of_length-le}
use Rattle.formula.specs.Formula.{max_unknowns, prefix, Clause, clauses}
use Rattle.formula.specs.Causes.{is_zero, ended}
use Rattle.formula.proofs.Accepted.{Accepted}
use Rattle.codes.specs.Codes.{code_of, entry_by_entry}
use Rattle.codes.proofs.EncodeLaws.{accepted}
use Rattle.trimming_rules.specs.Trimming.{entries, steps, trimmed}
use Rattle.trimming_rules.specs.Private.Rounds.{untrue, rounds}
use Rattle.trimming_rules.proofs.ClauseLaws.{Every, Named}
use Rattle.trimming_rules.proofs.RuleLaws.{Within}
use Rattle.trimming_rules.proofs.Trimmed.{size_clauses, entries_clauses, within_clauses}
use Rattle.trimming_rules.proofs.InRounds.{in_rounds}
use Rattle.trimming.specs.Private.Table.{left, codes, clauses_left, Entry, Block, standing, Fine, laid, Laid, Passed}
use Rattle.trimming.proofs.CodeLaws.{literal_code}
use Rattle.trimming.proofs.BlockLaws.{map_append, left_entries, laid_clauses}

-- ---- rule 1, then the rounds

pub all_rules : (kinds : List ℕ) {table₁ table₂ table₃ : List ℕ} → Passed untrue table₁ table₂ →
    Passed (rounds (length table₂ + 1) (prefix kinds)) table₂ table₃
    → Passed (λ cs. rounds (length table₁ + 1) (prefix kinds) (untrue cs)) table₁ table₃
all_rules kinds {table₁} {table₂} a b =
    record {
      laid_out = b.laid_out;
      sized = b.sized ∙ a.sized;
      same_codes = b.same_codes ∙ a.same_codes;
      changed = b.changed ∙ ap₂ (λ (n : ℕ) (cs : List Clause). rounds (n + 1) (prefix kinds) cs) a.sized a.changed;
    }

-- ---- the table as it is filled

code_entry : (z : ℤ) → Named max_unknowns z → Entry (code_of z)
code_entry (pos v) n = let a = n.from_one in let b = n.to_last in record { literal = omega arith; known = omega arith; once = omega arith }
code_entry (negsuc v) n = let a = n.from_one in let b = n.to_last in record { literal = omega arith; known = omega arith; once = omega arith }

block_of : Clause → Block
block_of c = standing (map code_of c)

laid_codes : (cs : List Clause) → map code_of (entries cs) ≡ laid (map block_of cs)
unfolding block_of
laid_codes [] = refl
laid_codes (c ∷ cs) =
    map_append code_of c (pos 0 ∷ entries cs)
    ∙ ap (λ (l : List ℕ). map code_of c ++ (0 ∷ l)) (laid_codes cs)
    ∙ sym (append_assoc (map code_of c) (0 ∷ []) (laid (map block_of cs)))

fine_codes : (cs : List Clause) → Within max_unknowns cs → Every Fine (map block_of cs)
unfolding block_of
fine_codes [] w = tt
fine_codes (c ∷ cs) w = (each c w.0, fine_codes cs w.1)
  where
    each : (c : Clause) → Every (Named max_unknowns) c → Every Entry (map code_of c)
    each [] n = tt
    each (z ∷ c) n = (code_entry z n.0, each c n.1)

small_code : (z : ℤ) → nat_abs z ≤ max_unknowns → code_of z < 512
small_code (pos v) h = omega arith
small_code (negsuc v) h = omega arith

left_codes : (zs : List ℤ) → ((i : ℕ) → nat_abs (get_or zs i (pos 0)) ≤ max_unknowns) → left (map code_of zs) ≡ zs
left_codes [] h = refl
left_codes (z ∷ zs) h = rw (lt-ltb (code_of z) 512 (small_code z (h 0))) (ap₂ ◌∷◌ (literal_code z) (left_codes zs (λ i. h (suc i))))

same_codes : (zs : List ℤ) → ((i : ℕ) → nat_abs (get_or zs i (pos 0)) ≤ max_unknowns) → codes (map code_of zs) ≡ map code_of zs
same_codes [] h = refl
same_codes (z ∷ zs) h = ap₂ ◌∷◌ (let s = small_code z (h 0) in let e : code_of z % 512 ≡ code_of z = omega arith in e) (same_codes zs (λ i. h (suc i)))

module _ (kinds : List ℕ) (literals : List ℤ) (a : Accepted kinds literals) where
  named : (i : ℕ) → nat_abs (get_or literals i (pos 0)) ≤ max_unknowns
  named i = let h = a.within i in let k = a.few_unknowns in omega arith

  is_ended : ended literals ≡ true
  is_ended = ap is_zero a.last_is_zero

  pub filled_codes : (table : List ℕ) → length table ≡ length literals → entry_by_entry literals table ≡ map code_of literals
  filled_codes table sized =
      ap (λ (b : Bool). cond b table (map code_of literals ++ drop (length literals) table))
      (accepted literals (length table) (omega arith) (λ i below. named i))
      ∙ ap (λ (l : List ℕ). map code_of literals ++ l) (drop_of_length-le table {i = length literals} (omega arith))
      ∙ append-nil (map code_of literals)

  pub codes_laid : (table : List ℕ) → table ≡ map code_of literals → Laid table
  codes_laid table e =
      record {
        blocks = map block_of (clauses literals);
        is = e ∙ ap (map code_of) (sym (entries_clauses literals is_ended)) ∙ laid_codes (clauses literals);
        fine = fine_codes (clauses literals) (within_clauses max_unknowns literals named);
      }

  -- ---- the table at the end

  module _ (table₁ table₂ : List ℕ) (filled : table₁ ≡ map code_of literals) (settled : Passed (λ cs. rounds (length table₁ + 1) (prefix kinds) (untrue cs))
      table₁ table₂) where
    as_many : length table₁ ≡ length literals
    as_many = ap length filled ∙ length-map literals code_of

    pub same_codes_left : codes table₂ ≡ map code_of literals
    same_codes_left = settled.same_codes ∙ ap codes filled ∙ same_codes literals named

    lent_clauses : clauses_left table₁ ≡ clauses literals
    unfolding clauses_left
    lent_clauses = ap clauses (ap left filled ∙ left_codes literals named)

    all_steps : clauses_left table₂ ≡ steps (length literals) (prefix kinds) (clauses literals)
    all_steps =
        let sized = size_clauses literals is_ended in
        settled.changed
        ∙ ap (λ (cs : List Clause). rounds (length table₁ + 1) (prefix kinds) (untrue cs)) lent_clauses
        ∙ sym (in_rounds (length table₁ + 1) (prefix kinds) (clauses literals) (let m = as_many in omega arith))
        ∙ ap (λ (n : ℕ). steps n (prefix kinds) (clauses literals)) sized

    pub left_trimmed : left table₂ ≡ trimmed kinds literals
    unfolding trimmed
    left_trimmed =
        let l = settled.laid_out in
        ap left l.is
        ∙ left_entries l.blocks l.fine
        ∙ ap entries (sym (ap clauses_left l.is ∙ laid_clauses l.blocks l.fine))
        ∙ ap entries all_steps

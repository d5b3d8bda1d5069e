-- The rounds: every clause is reduced, then one literal is made true.
-- Assumes nothing.
use Prim.Native.Nat.{ℕ, zero, suc, ◌+◌, ◌-◌, ◌≤◌, ◌<◌}
use native.Mathlib.Omega.{arith}
use mathlib.Core.Path.{◌≡◌, refl, sym, ◌∙◌, ap}
use mathlib.Core.List.{List}
use mathlib.Core.Option.{Option, some}
use lib.ListN.{length}
use Rattle.formula.specs.Formula.{Kind, Clause}
use Rattle.codes.specs.Codes.{last_code}
use Rattle.trimming_rules.specs.Trimming.{from_step, set_true}
use Rattle.trimming_rules.specs.Private.Rounds.{reduced, set_one, rounds}
use Rattle.trimming.specs.Private.Table.{literal_of, codes, clauses_left, Laid, Passed, made_true, Next}

-- What is left to do gives what all rounds give.
pub record Settling (ks : List Kind) (all : ℕ) (table₀ table : List ℕ) (left : ℕ) : Type 0 where
  pub laid_out : Laid table
  pub sized : length table ≡ length table₀
  pub same_codes : codes table ≡ codes table₀
  pub to_go : rounds left ks (clauses_left table) ≡ rounds all ks (clauses_left table₀)

module _ (ks : List Kind) (all : ℕ) (table₀ : List ℕ) where
  pub settling_begins : Laid table₀ → Settling ks all table₀ table₀ all
  settling_begins l = record { laid_out = l; sized = refl; same_codes = refl; to_go = refl }

  pub settling_ends : {table : List ℕ} {left : ℕ} → Settling ks all table₀ table left → left ≡ 0 → Passed (rounds all ks) table₀ table
  settling_ends {table} {left} p e =
      record {
        laid_out = p.laid_out;
        sized = p.sized;
        same_codes = p.same_codes;
        changed = sym (ap (λ (m : ℕ). rounds m ks (clauses_left table)) e) ∙ p.to_go;
      }

  module _ {table : List ℕ} {left : ℕ} (p : Settling ks all table₀ table left) (some_left : 0 < left) (reduced_table : List ℕ)
      (r : Passed (reduced ks) table reduced_table) (c : ℕ)
      (n : Next ks (clauses_left reduced_table) c) where
    one_round : rounds left ks (clauses_left table) ≡ from_step (made_true c (clauses_left reduced_table)) (rounds (left - 1) ks) (clauses_left reduced_table)
    one_round =
        ap (λ (m : ℕ). rounds m ks (clauses_left table)) (let e : left ≡ suc (left - 1) = omega arith in e)
        ∙ ap (λ (cs : List Clause). set_one (rounds (left - 1) ks) ks cs) (sym r.changed)
        ∙ ap (λ (o : Option (List Clause)). from_step o (rounds (left - 1) ks) (clauses_left reduced_table)) n.change

    pub settled_here : c ≡ 0 → Passed (rounds all ks) table₀ reduced_table
    settled_here z =
        record {
          laid_out = r.laid_out;
          sized = r.sized ∙ p.sized;
          same_codes = r.same_codes ∙ p.same_codes;
          changed = sym (one_round ∙ ap (λ (k : ℕ). from_step (made_true k (clauses_left reduced_table)) (rounds (left - 1) ks) (clauses_left reduced_table)) z)
              ∙ p.to_go;
        }

    pub code_bounds : (c ≡ 0 → ⊥) → (2 ≤ c) × (c < last_code + 1)
    code_bounds never = (go n.chosen.code, n.chosen.small)
      where
        go : (c ≡ 1 → ⊥) → 2 ≤ c
        go other = omega arith

    pub settling_more : (c ≡ 0 → ⊥) → (set_table : List ℕ) → Passed (set_true (literal_of c)) reduced_table set_table →
        Settling ks all table₀ set_table (left - 1)
    settling_more never set_table s =
        record {
          laid_out = s.laid_out;
          sized = s.sized ∙ r.sized ∙ p.sized;
          same_codes = s.same_codes ∙ r.same_codes ∙ p.same_codes;
          to_go =
              ap (rounds (left - 1) ks) s.changed
              ∙ sym (one_round ∙ ap (λ (o : Option (List Clause)). from_step o (rounds (left - 1) ks) (clauses_left reduced_table))
              (made c (clauses_left reduced_table) never))
              ∙ p.to_go;
        }
      where
        made : (c : ℕ) (cs : List Clause) → (c ≡ 0 → ⊥) → made_true c cs ≡ some (set_true (literal_of c) cs)
        made zero cs never = absurd (never refl)
        made (suc c) cs never = refl

-- The definition's bytes, part by part, as the code tests and reads. Assumes nothing.
use Prim.Native.Nat.{ℕ, zero, suc, ◌+◌, ◌-◌, ◌<◌}
use native.Mathlib.Numerals.{sub-one}
use native.Mathlib.Omega.{arith}
use mathlib.Core.Path.{◌≡◌, refl, ap}
use mathlib.Core.Bool.{Bool, true, false}
use mathlib.Core.List.{List, [], ◌∷◌, ◌++◌, append_assoc}
use borrow.Author.Tests.{eq-eqb, ne_eqb}
use lib.ListN.{length, get_or, drop, length-append}
use Rattle.formula.proofs.Places.{drop_front}
use Rattle.named.specs.Named.{signed}
use Rattle.report.specs.Report.{ascii, decimal}
use Rattle.writing.specs.Writing.{p_line, letter, unknown, blocks, prefix_lines}
use Rattle.writer.specs.Private.Steps.{entry}

-- ---- the p line

pub p_line_length : (variables clauses : ℕ) → length (p_line variables clauses) ≡ 6 + (length (decimal variables) + (1 + (length (decimal clauses) + 1)))
unfolding p_line
p_line_length variables clauses =
    omega (
      arith,
      length-append (ascii "p cnf " ++ decimal variables ++ ascii " " ++ decimal clauses) (ascii "\n"),
      length-append (ascii "p cnf " ++ decimal variables ++ ascii " ") (decimal clauses),
      length-append (ascii "p cnf " ++ decimal variables) (ascii " "),
      length-append (ascii "p cnf ") (decimal variables),
    )

-- ---- the prefix

pub letter_zero : (kind : ℕ) → kind ≡ 0 → letter kind ≡ ascii "e "
letter_zero zero e = refl
letter_zero (suc k) e = absurd (omega arith)

pub letter_other : (kind : ℕ) → (kind ≡ 0 → ⊥) → letter kind ≡ ascii "a "
letter_other zero other = absurd (other refl)
letter_other (suc k) other = refl

module _ (before kind name : ℕ) where
  pub unknown_same : kind ≡ before → unknown before kind name ≡ decimal name ++ ascii " "
  unknown_same e = rw (eq-eqb kind before e) refl

  pub unknown_other : (kind ≡ before → ⊥) → unknown before kind name ≡ ascii "0\n" ++ letter kind ++ (decimal name ++ ascii " ")
  unknown_other other = rw (ne_eqb kind before other) (append_assoc (ascii "0\n" ++ letter kind) (decimal name) (ascii " "))

  pub unknown_length : (kind ≡ before → ⊥) → length (unknown before kind name) ≡ 2 + (length (letter kind) + length (decimal name ++ ascii " "))
  unknown_length other =
      omega (
        arith,
        ap length (unknown_other other),
        length-append (ascii "0\n" ++ letter kind) (decimal name ++ ascii " "),
        length-append (ascii "0\n")
            (letter kind),
      )

pub next_unknown : (before : ℕ) (kinds names : List ℕ) (i : ℕ) {kind name : ℕ} → length names ≡ length kinds → i < length kinds
    → kind ≡ get_or kinds i 0 → name ≡ get_or names i 0
    → blocks before (drop i kinds) (drop i names) ≡ unknown before kind name ++ blocks kind (drop (i + 1) kinds) (drop (i + 1) names)
next_unknown before kinds names i same below k n = rw (k, n, drop_front kinds i 0 below, drop_front names i 0 (omega arith)) refl

pub prefix_none : (kinds names : List ℕ) → length kinds ≡ 0 → prefix_lines kinds names ≡ []
prefix_none [] names e = refl
prefix_none (k ∷ ks) names e = absurd (omega arith)

pub prefix_some : (kinds names : List ℕ) → (length kinds ≡ 0 → ⊥) →
    prefix_lines kinds names ≡ letter (get_or kinds 0 0) ++ blocks (get_or kinds 0 0) kinds names
prefix_some [] names other = absurd (other refl)
prefix_some (k ∷ ks) names other = refl

-- ---- the clauses

module _ (names : List ℕ) where
  pub entry_end : (minus : Bool) (m : ℕ) → m ≡ 0 → entry names (signed minus m) ≡ ascii "0\n"
  entry_end true zero e = refl
  entry_end false zero e = refl
  entry_end minus (suc m) e = absurd (omega arith)

  pub entry_positive : (minus : Bool) (m : ℕ) → minus ≡ false → (m ≡ 0 → ⊥) → entry names (signed minus m) ≡ decimal (get_or names (m - 1) 0) ++ ascii " "
  entry_positive minus zero e other = absurd (other refl)
  entry_positive minus (suc m) e other = rw e (simp sub-one)

  pub entry_negative : (minus : Bool) (m : ℕ) → minus ≡ true → (m ≡ 0 → ⊥) →
      entry names (signed minus m) ≡ ascii "-" ++ (decimal (get_or names (m - 1) 0) ++ ascii " ")
  entry_negative minus zero e other = absurd (other refl)
  entry_negative minus (suc m) e other = rw e (simp sub-one)

-- What a clause shows: if it is not 1, each literal of the clause is false or is the one shown, which is open. Assumes nothing.
use Prim.Native.Nat.{ℕ, zero, suc, ◌≤◌, ◌<◌}
use mathlib.Core.Path.{◌≡◌, refl, sym, subst}
use mathlib.Core.Logic.{◌⊎◌, inl, inr, ⊎_elim}
use mathlib.Core.Bool.{Bool, true, false}
use mathlib.Core.List.{List, [], ◌∷◌}
use native.Mathlib.Omega.{arith}
use lib.ListN.{length, drop}
use Rattle.formula.specs.Formula.{max_unknowns, work_size, max_rows}
use Rattle.expansion.proofs.ClauseCuts.{Every, Some}
use Rattle.search_cells.specs.Cells.{cells}
use Rattle.codes.specs.Private.Clauses.{position, clause_of, HasEnd, Coded}
use Rattle.codes.proofs.CodeLaws.{clause_coded}
use Rattle.search_evaluation.specs.Evaluation.{is_set, is_true, shown_with, look_on, look_at}
use Rattle.search_evaluation.specs.Private.Looked.{IsAt, Looked}
use Rattle.search_evaluation.proofs.ReadingLaws.{look_one}
use Rattle.search_evaluation.proofs.LiteralLaws.{IsLiteral, has_this_row, is_at, is_open}

module _ (w : List ℕ) (i : ℕ) where
  abbrev look : ℕ → List ℕ → ℕ
  look shown cs = look_on (is_set w i) (is_true w i) shown cs

  -- The codes cs end a clause of which the codes before show `shown`, and all show `found`.
  record Shows (shown : ℕ) (cs : List ℕ) (found : ℕ) : Type 0 where
    ends : (found ≡ 1 → ⊥) → HasEnd cs
    rest : (found ≡ 1 → ⊥) → Every (λ c. (c ≡ found) ⊎ IsAt w i false c) (clause_of cs)
    kept : (found ≡ 1 → ⊥) → 0 < shown → found ≡ shown
    named : 2 ≤ found → (found ≡ shown) ⊎ Some (λ c. c ≡ found) (clause_of cs)
    unset : 2 ≤ found → (found ≡ shown) ⊎ (((cells w).level i (position found) ≡ 0) × (position found < max_unknowns))

  shows_nothing : (shown : ℕ) (cs : List ℕ) (found : ℕ) → found ≡ 1 → Shows shown cs found
  shows_nothing shown cs found one = record {
    ends = λ n. absurd (n one);
    rest = λ n. absurd (n one);
    kept = λ n. absurd (n one);
    named = λ two. absurd (omega arith);
    unset = λ two. absurd (omega arith);
  }

  shows_end : (shown : ℕ) (cs : List ℕ) → Shows shown (zero ∷ cs) shown
  shows_end shown cs = record {
    ends = λ n. tt;
    rest = λ n. tt;
    kept = λ n p. refl;
    named = λ two. inl refl;
    unset = λ two. inl refl;
  }

  module _ (c : ℕ) (cs : List ℕ) (found : ℕ) where
    shows_false : (shown : ℕ) → IsAt w i false (suc c) → Shows shown cs found → Shows shown (suc c ∷ cs) found
    shows_false shown is so = record {
      ends = so.ends;
      rest = λ n. (inr is, so.rest n);
      kept = so.kept;
      named = λ two. ⊎_elim (λ q. inl q) (λ s. inr (inr s)) (so.named two);
      unset = so.unset;
    }

    shows_open : (cells w).level i (position (suc c)) ≡ 0 → position (suc c) < max_unknowns → Shows (suc c) cs found → Shows 0 (suc c ∷ cs) found
    shows_open level fits so = record {
      ends = so.ends;
      rest = λ n. (inl (sym (so.kept n (omega arith))), so.rest n);
      kept = λ n p. absurd (omega arith);
      named = λ two. inr (⊎_elim (λ q. inl (sym q)) (λ s. inr s) (so.named two));
      unset = λ two.
          inr (⊎_elim
          (λ q. subst (λ (x : ℕ). ((cells w).level i (position x) ≡ 0) × (position x < max_unknowns)) (sym q) (level, fits))
          (λ s. s)
          (so.unset two));
    }

  shows_literal : (c : ℕ) (cs : List ℕ) → IsLiteral (suc c) → ((n : ℕ) → Shows n cs (look n cs)) → (s t : Bool) → is_set w i (suc c) ≡ s →
      is_true w i (suc c) ≡ t → (shown : ℕ)
      → Shows shown (suc c ∷ cs) (look (shown_with s t shown (suc c)) cs)
  shows_literal c cs literal later true true set truth shown = shows_nothing shown (suc c ∷ cs) (look 1 cs) (look_one (is_set w i) (is_true w i) cs)
  shows_literal c cs literal later true false set truth shown =
      shows_false c cs (look shown cs) shown (is_at w i (suc c) literal false set truth) (later shown)
  shows_literal c cs literal later false t set truth zero =
      shows_open c cs (look (suc c) cs) (is_open w i (suc c) literal set) literal.1 (later (suc c))
  shows_literal c cs literal later false t set truth (suc shown) =
      shows_nothing (suc shown) (suc c ∷ cs) (look 1 cs) (look_one (is_set w i) (is_true w i) cs)

  shows_all : (shown : ℕ) (cs : List ℕ) → Every IsLiteral (clause_of cs) → Shows shown cs (look shown cs)
  shows_all shown [] all = shows_nothing shown [] 1 refl
  shows_all shown (zero ∷ cs) all = shows_end shown cs
  shows_all shown (suc c ∷ cs) all =
      shows_literal c cs all.0 (λ n. shows_all n cs all.1) (is_set w i (suc c)) (is_true w i (suc c)) refl refl shown

-- What `look` returns is what a look at the clause finds.
pub look_looked : (codes w : List ℕ) (i start : ℕ) → length w ≡ work_size → i < max_rows → Coded max_unknowns codes →
    Looked codes w i start (look_at codes w i start)
unfolding look_at
look_looked codes w i start area row coded =
    rw (has_this_row w i area row) (record {
      ends = so.ends;
      rest = so.rest;
      named = λ two. ⊎_elim (λ q. absurd (omega arith)) (λ s. s) (so.named two);
      unset = λ two. ⊎_elim (λ q. absurd (omega arith)) (λ s. s.0) (so.unset two);
      fits = λ two. ⊎_elim (λ q. absurd (omega arith)) (λ s. s.1) (so.unset two);
    })
  where
    so : Shows w i 0 (drop start codes) (look w i 0 (drop start codes))
    so = shows_all w i 0 (drop start codes) (clause_coded max_unknowns codes start coded)

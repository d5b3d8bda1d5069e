-- The clauses are of the variables that are counted. Assumes nothing.
use Prim.Native.Nat.{ℕ, zero, suc, ◌+◌, ◌*◌, ◌<◌, ◌≤◌}
use native.Mathlib.Nat.{mul-suc}
use native.Mathlib.Omega.{arith}
use mathlib.Core.Path.{◌≡◌, refl}
use mathlib.Core.Bool.{Bool, true, false}
use mathlib.Core.List.{List, [], ◌∷◌, ◌++◌}
use mathlib.Core.Logic.{⊎_elim, inl, inr}
use lib.IntN.{ℤ, pos, negsuc}
use lib.ListN.{length}
use Rattle.formula.specs.Formula.{Clause}
use Rattle.expansion.specs.Play.{Row}
use Rattle.formula.specs.Causes.{any}
use Rattle.expansion.proofs.Booleans.{true_or_false}
use Rattle.expansion.proofs.Membership.{In}
use Rattle.expansion.proofs.CopyLaws.{Own}
use Rattle.cnf_rules.specs.Clauses.{row_literal, own_part, left_over, opposite, breaks_one, breaks, some_of, over_rows}
use Rattle.cnf_rules.specs.Right.{Named, EachNamed, AllNamed}
use Rattle.cnf_rules.proofs.Extended.{own_part_named, left_over_named}

all_append : (m : ℕ) (cs ds : List Clause) → AllNamed m cs → AllNamed m ds → AllNamed m (cs ++ ds)
all_append m [] ds p q = q
all_append m (c ∷ cs) ds p q = (p.0, all_append m cs ds p.1 q)

module _ (n m : ℕ) (more : n ≤ m) where
  opposite_named : (z : ℤ) → Named n z → Named m (opposite z)
  opposite_named (pos zero) h = h
  opposite_named (pos (suc v)) h = omega arith
  opposite_named (negsuc v) h = omega arith

  one_named : (t : ℕ) (c : Clause) → t < m → EachNamed n c → AllNamed m (breaks_one t c)
  one_named t [] l h = tt
  one_named t (z ∷ c) l h = ((l, (opposite_named z h.0, tt)), one_named t c l h.1)

  module _ (ts : List Bool) (row : Row) where
    breaks_named : (name : ℕ → ℕ) → ((k : ℕ) → Own ts k → name k < n) → (t : ℕ) (cs : List Clause) → t + length cs ≤ m → AllNamed m (breaks ts name row t cs)
    breaks_named name below t [] l = tt
    breaks_named name below t (c ∷ cs) l =
        let later = breaks_named name below (suc t) cs (omega arith) in
        let one = one_named t (own_part ts name c) (omega arith) (own_part_named ts name n below c) in
        ⊎_elim
        (λ (p : any (row_literal ts row) c ≡ true). rw p later)
        (λ (p : any (row_literal ts row) c ≡ false). rw p (all_append m (breaks_one t (own_part ts name c)) (breaks ts name row (suc t) cs) one later))
        (true_or_false (any (row_literal ts row) c))

    some_named : (t : ℕ) (cs : List Clause) → t + length cs ≤ m → EachNamed m (some_of ts row t cs)
    some_named t [] l = tt
    some_named t (c ∷ cs) l =
        let later = some_named (suc t) cs (omega arith) in
        ⊎_elim
        (λ (p : any (row_literal ts row) c ≡ true). rw p later)
        (λ (p : any (row_literal ts row) c ≡ false). rw p (omega arith, later))
        (true_or_false (any (row_literal ts row) c))

  pub all_true_named : (ts : List Bool) (name : Row → ℕ → ℕ) (cs : List Clause) (t : ℕ) (rows : List Row)
      → ((row : Row) → In row rows → (k : ℕ) → Own ts k → name row k < m) → AllNamed m (over_rows false ts name cs t rows)
  all_true_named ts name cs t [] below = tt
  all_true_named ts name cs t (row ∷ rows) below =
      all_append m (left_over ts (name row) row cs) (over_rows false ts name cs (t + length cs) rows)
      (left_over_named ts (name row) m (below row (inl refl)) row cs)
      (all_true_named ts name cs (t + length cs) rows (λ other l. below other (inr l)))

  pub some_false_named : (ts : List Bool) (name : Row → ℕ → ℕ) (cs : List Clause) (t : ℕ) (rows : List Row)
      → ((row : Row) → In row rows → (k : ℕ) → Own ts k → name row k < n)
      → t + length cs * length rows ≤ m → AllNamed m (over_rows true ts name cs t rows)
  some_false_named ts name cs t [] below l = tt
  some_false_named ts name cs t (row ∷ rows) below l =
      let many = mul-suc (length cs) (length rows) in
      let broken = breaks ts (name row) row t cs in
      let some = some_of ts row t cs in
      let fits : t + length cs ≤ m = omega arith in
      let here : AllNamed m (some ∷ []) = (some_named ts row t cs fits, tt) in
      all_append m (broken ++ (some ∷ [])) (over_rows true ts name cs (t + length cs) rows)
      (all_append m broken (some ∷ []) (breaks_named ts row (name row) (below row (inl refl)) t cs fits) here)
      (some_false_named ts name cs (t + length cs) rows (λ other h. below other (inr h)) (omega arith))

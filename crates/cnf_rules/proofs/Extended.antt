-- From a model to values of the further variables: each is true exactly if its clause is false. Assumes nothing.
use Prim.Native.Nat.{ℕ, zero, suc, ◌+◌, ◌*◌, ◌<◌}
use native.Mathlib.Nat.{mul-suc}
use native.Mathlib.Omega.{arith}
use mathlib.Core.Path.{◌≡◌, refl, subst, ap, ap₂, ◌∙◌}
use mathlib.Core.Bool.{Bool, true, false, not, ◌&&◌, ◌||◌, and-eq-true_iff, true≢false, false≢true}
use mathlib.Core.List.{List, [], ◌∷◌, ◌++◌, append_assoc, map}
use mathlib.Core.Logic.{⊎_elim, inl, inr}
use lib.IntN.{ℤ, pos, negsuc}
use lib.ListN.{length, get_or, length-append, length-map}
use Rattle.formula.specs.Formula.{Clause, universal}
use Rattle.formula.specs.Meaning.{literal, clause, matrix}
use Rattle.formula.specs.Causes.{any}
use Rattle.expansion.specs.Side.{goal}
use Rattle.expansion.specs.Play.{Row, Strategy, play}
use Rattle.expansion.specs.Model.{wins}
use Rattle.expansion.proofs.Booleans.{true_or_false}
use Rattle.expansion.proofs.Membership.{In}
use Rattle.expansion.proofs.CopyLaws.{Own}
use Rattle.cnf_rules.specs.Clauses.{own_literal, row_literal, renamed, own_part, left_over, opposite, breaks_one, breaks, some_of, over_rows}
use Rattle.cnf_rules.specs.Right.{Named, EachNamed, AllNamed}
use Rattle.cnf_rules.proofs.LeftOver.{Agrees, left_over_value, matrix_append}
use Rattle.cnf_rules.proofs.Breaks.{or_false, not_and}

-- Values that stand in a list from place t on.
abbrev pub At : List Bool → ℕ → List Bool → Type 0
At vs t [] = Unit {0}
At vs t (b ∷ bs) = (get_or vs t false ≡ b) × At vs (suc t) bs

at_shift : (v : Bool) (vs : List Bool) (t : ℕ) (bs : List Bool) → At vs t bs → At (v ∷ vs) (suc t) bs
at_shift v vs t [] h = tt
at_shift v vs t (b ∷ bs) h = (h.0, at_shift v vs (suc t) bs h.1)

at_start : (bs : List Bool) → At bs 0 bs
at_start [] = tt
at_start (b ∷ bs) = (refl, at_shift b bs 0 bs (at_start bs))

pub at_behind : (vs bs : List Bool) → At (vs ++ bs) (length vs) bs
at_behind [] bs = at_start bs
at_behind (v ∷ vs) bs = at_shift v (vs ++ bs) (length vs) bs (at_behind vs bs)

at_parts : (vs : List Bool) (t : ℕ) (xs bs : List Bool) → At vs t (xs ++ bs) → At vs t xs × At vs (t + length xs) bs
at_parts vs t [] bs h =
    let e : t ≡ t + 0 = omega arith in
    (tt, subst (λ n. At vs n bs) e h)
at_parts vs t (a ∷ xs) bs h =
    let p = at_parts vs (suc t) xs bs h.1 in
    let e : suc t + length xs ≡ t + suc (length xs) = omega arith in
    ((h.0, p.0), subst (λ n. At vs n bs) e p.1)

-- Which clauses are false, by their own parts.
abbrev marks : List Bool → List Bool → (ℕ → ℕ) → List Clause → List Bool
marks vs ts name cs = map (λ c. not (clause vs (own_part ts name c))) cs

abbrev pub all_marks : List Bool → List Bool → (Row → ℕ → ℕ) → List Clause → List Row → List Bool
all_marks vs ts name cs [] = []
all_marks vs ts name cs (row ∷ rows) = marks vs ts (name row) cs ++ all_marks vs ts name cs rows

pub length_all_marks : (vs ts : List Bool) (name : Row → ℕ → ℕ) (cs : List Clause) (rows : List Row)
    → length (all_marks vs ts name cs rows) ≡ length cs * length rows
length_all_marks vs ts name cs [] = omega arith
length_all_marks vs ts name cs (row ∷ rows) =
    let one : length (marks vs ts (name row) cs) ≡ length cs = length-map cs _ in
    omega (
      arith,
      length-append (marks vs ts (name row) cs) (all_marks vs ts name cs rows),
      one,
      length_all_marks vs ts name cs rows,
      mul-suc (length cs) (length rows),
    )

-- What a row leaves is over the copies.
module _ (ts : List Bool) (name : ℕ → ℕ) (m : ℕ) (below : (k : ℕ) → Own ts k → name k < m) where
  renamed_named : (z : ℤ) → own_literal ts z ≡ true → Named m (renamed name z)
  renamed_named (pos zero) o = absurd (false≢true o)
  renamed_named (pos (suc k)) o = below k o
  renamed_named (negsuc k) o = below k o

  pub own_part_named : (c : Clause) → EachNamed m (own_part ts name c)
  own_part_named [] = tt
  own_part_named (z ∷ c) =
      ⊎_elim
      (λ (o : own_literal ts z ≡ true). rw o (renamed_named z o, own_part_named c))
      (λ (o : own_literal ts z ≡ false). rw o (own_part_named c))
      (true_or_false (own_literal ts z))

  pub left_over_named : (row : Row) (cs : List Clause) → AllNamed m (left_over ts name row cs)
  left_over_named row [] = tt
  left_over_named row (c ∷ cs) =
      ⊎_elim
      (λ (t : any (row_literal ts row) c ≡ true). rw t (left_over_named row cs))
      (λ (t : any (row_literal ts row) c ≡ false). rw t (own_part_named c, left_over_named row cs))
      (true_or_false (any (row_literal ts row) c))

-- `ws` has the values of `vs` at the first m places.
module _ (vs ws : List Bool) (m : ℕ) (alike : (i : ℕ) → i < m → get_or ws i false ≡ get_or vs i false) where
  literal_alike : (z : ℤ) → Named m z → literal ws z ≡ literal vs z
  literal_alike (pos zero) n = refl
  literal_alike (pos (suc v)) n = alike v n
  literal_alike (negsuc v) n = ap not (alike v n)

  opposite_alike : (z : ℤ) → Named m z → literal vs z ≡ false → literal ws (opposite z) ≡ true
  opposite_alike (pos zero) n e = absurd n
  opposite_alike (pos (suc v)) n e = rw (alike v n, e)
  opposite_alike (negsuc v) n e = alike v n ∙ not_false_is (get_or vs v false) e
    where
      not_false_is : (b : Bool) → not b ≡ false → b ≡ true
      not_false_is true e = refl
      not_false_is false e = absurd (true≢false e)

  -- The variable of a clause is off, or the clause is false: what it breaks is then true.
  off_true : (t : ℕ) (c : Clause) → get_or ws t false ≡ false → matrix (breaks_one t c) ws ≡ true
  off_true t [] off = refl
  off_true t (z ∷ c) off = rw off (off_true t c off)

  on_true : (t : ℕ) (c : Clause) → EachNamed m c → clause vs c ≡ false → matrix (breaks_one t c) ws ≡ true
  on_true t [] n e = refl
  on_true t (z ∷ c) n e =
      let both = or_false (literal vs z) (clause vs c) e in
      rw (opposite_alike z n.0 both.0) (with_true (not (get_or ws t false)) (on_true t c n.1 both.1))
    where
      with_true : (a : Bool) {b : Bool} → b ≡ true → (a || true) && b ≡ true
      with_true true e = e
      with_true false e = e

  module _ (ts : List Bool) (name : ℕ → ℕ) (row : Row) where
    breaks_true : (t : ℕ) (cs : List Clause) → ((c : Clause) → EachNamed m (own_part ts name c)) → At ws t (marks vs ts name cs)
        → matrix (breaks ts name row t cs) ws ≡ true
    breaks_true t [] n h = refl
    breaks_true t (c ∷ cs) n h =
        let own = own_part ts name c in
        let later = breaks ts name row (suc t) cs in
        let more = breaks_true (suc t) cs n h.1 in
        let one : matrix (breaks_one t own) ws ≡ true = ⊎_elim
        (λ (e : clause vs own ≡ true). off_true t own (h.0 ∙ ap not e))
        (λ (e : clause vs own ≡ false). on_true t own (n c) e)
        (true_or_false (clause vs own)) in
        ⊎_elim
        (λ (p : any (row_literal ts row) c ≡ true). rw p more)
        (λ (p : any (row_literal ts row) c ≡ false). rw p
        (matrix_append (breaks_one t own) later ws ∙ (and-eq-true_iff (matrix (breaks_one t own) ws) (matrix later ws)).1 (one, more)))
        (true_or_false (any (row_literal ts row) c))

    some_true : (t : ℕ) (cs : List Clause) → At ws t (marks vs ts name cs) → clause ws (some_of ts row t cs) ≡ not (matrix (left_over ts name row cs) vs)
    some_true t [] h = refl
    some_true t (c ∷ cs) h =
        let more = some_true (suc t) cs h.1 in
        ⊎_elim
        (λ (p : any (row_literal ts row) c ≡ true). rw p more)
        (λ (p : any (row_literal ts row) c ≡ false). rw p
        (ap₂ ◌||◌ h.0 more ∙ not_and (clause vs (own_part ts name c)) (matrix (left_over ts name row cs) vs)))
        (true_or_false (any (row_literal ts row) c))

  pub some_false_if_wins : (ts : List Bool) (name : Row → ℕ → ℕ) (cs : List Clause) (σ : Strategy) (t : ℕ) (rows : List Row)
      → ((row : Row) → In row rows → Agrees ts (name row) row σ vs)
      → ((row : Row) → In row rows → (k : ℕ) → Own ts k → name row k < m)
      → At ws t (all_marks vs ts name cs rows)
      → wins ts (goal universal (matrix cs)) σ rows ≡ true → matrix (over_rows true ts name cs t rows) ws ≡ true
  some_false_if_wins ts name cs σ t [] agrees below h e = refl
  some_false_if_wins ts name cs σ t (row ∷ rows) agrees below h e =
      let broken = breaks ts (name row) row t cs in
      let some = some_of ts row t cs in
      let later = over_rows true ts name cs (t + length cs) rows in
      let both = (and-eq-true_iff (not (matrix cs (play ts σ row))) (wins ts (goal universal (matrix cs)) σ rows)).0 e in
      let halves = at_parts ws t (marks vs ts (name row) cs) (all_marks vs ts name cs rows) h in
      let size : length (marks vs ts (name row) cs) ≡ length cs = length-map cs _ in
      let is_some : clause ws some ≡ true =
      some_true ts (name row) row t cs halves.0 ∙ ap not (left_over_value ts (name row) row σ vs (agrees row (inl refl)) cs) ∙ both.0 in
      let is_broken : matrix broken ws ≡ true =
      breaks_true ts (name row) row t cs (own_part_named ts (name row) m (below row (inl refl))) halves.0 in
      let behind : matrix later ws ≡ true =
      some_false_if_wins ts name cs σ (t + length cs) rows (λ other l. agrees other (inr l)) (λ other l. below other (inr l))
      (subst (λ n. At ws (t + n) (all_marks vs ts name cs rows)) size halves.1) both.1 in
      ap (λ l. matrix l ws) (append_assoc broken (some ∷ []) later)
      ∙ matrix_append broken (some ∷ later) ws
      ∙ (and-eq-true_iff (matrix broken ws) (matrix (some ∷ later) ws)).1
      (is_broken, (and-eq-true_iff (clause ws some) (matrix later ws)).1 (is_some, behind))

-- From rows to copies: a strategy that leads another along every row is never behind it by copy number (`never_parts`). At the lowest copy where
-- the two differ take a row with its restriction: before that position the two agree along the row, so the first has the wanted value.
-- Assumes nothing.
use Prim.Native.Nat.{ℕ, zero, suc, ◌+◌, ◌<◌, ◌≤◌}
use native.Mathlib.Nat.{zero-add, add-zero, add-suc, suc-add, eq-or-lt_of_le, le_of_suc-le-suc}
use native.Mathlib.Omega.{arith}
use mathlib.Core.Path.{◌≡◌, refl, sym, ap, ap₂, subst, ◌∙◌}
use mathlib.Core.Bool.{Bool, true, false, ◌&&◌, and-eq-true_iff}
use mathlib.Core.List.{List, [], ◌∷◌, ◌++◌, map}
use mathlib.Core.Logic.{◌⊎◌, inl, inr, ⊎_elim}
use lib.Dec.{eqb}
use lib.ListN.{length, get_or}
use borrow.Author.Tests.{eqb-true, eq-eqb}
use Rattle.expansion.specs.Play.{Row, restriction, Strategy}
use Rattle.expansion.specs.Copies.{Copy, copy_at, same, fresh, copies_at, copies_from, copies, value_of}
use Rattle.expansion.specs.Order.{PartsAt}
use Rattle.expansion.proofs.Booleans.{false_if_not_true, never_both, never_unlike}
use Rattle.expansion.proofs.Membership.{In, Distinct, in_map, in_map_cases, in_append_cases, distinct_map, distinct_append}
use Rattle.expansion.proofs.Membership.{same_refl, same_eq, in_fresh, fresh_in, distinct_fresh}
use Rattle.expansion.proofs.CopyLaws.{Own, values_at}
use Rattle.expansion.proofs.Leading.{number, wanted}

-- No copy stands twice.
module _ (ts : List Bool) (rows : List Row) where
  abbrev restrictions : ℕ → List Row
  restrictions k = map (restriction ts k) rows

  position_at : (k : ℕ) (c : Copy) → In c (copies_at ts rows k) → c.position ≡ k
  position_at k c h = ap (λ (x : Copy). x.position) (in_map_cases (copy_at k) c (fresh [] (restrictions k)) h).1

  position_from : (k : ℕ) (left : List Bool) (c : Copy) → In c (copies_from ts rows k left) → k ≤ c.position
  position_from k [] c h = absurd h
  position_from k (true ∷ left) c h =
      ⊎_elim
      (λ (l : In c (copies_at ts rows k)). omega (arith, position_at k c l))
      (λ (l : In c (copies_from ts rows (suc k) left)). omega (arith, position_from (suc k) left c l))
      (in_append_cases c (copies_at ts rows k) (copies_from ts rows (suc k) left) h)
  position_from k (false ∷ left) c h = omega (arith, position_from (suc k) left c h)

  distinct_copies_from : (k : ℕ) (left : List Bool) → Distinct (copies_from ts rows k left)
  distinct_copies_from k [] = tt
  distinct_copies_from k (true ∷ left) =
      let here : Distinct (copies_at ts rows k) =
      distinct_map (copy_at k) (fresh [] (restrictions k)) (λ r s e. ap (λ (c : Copy). c.restricted) e) (distinct_fresh [] (restrictions k)) in
      distinct_append (copies_at ts rows k) (copies_from ts rows (suc k) left) here (distinct_copies_from (suc k) left)
      (λ c l m. omega (arith, position_at k c l, position_from (suc k) left c m))
  distinct_copies_from k (false ∷ left) = distinct_copies_from (suc k) left

  pub distinct_copies : Distinct (copies ts rows)
  unfolding copies
  distinct_copies = distinct_copies_from zero ts

-- So a copy that is looked up is found at its own place.
abbrev found_at : Copy → Copy → Bool
found_at c d = eqb c.position d.position && same c.restricted d.restricted

found_itself : (c : Copy) → found_at c c ≡ true
found_itself c = rw (eq-eqb c.position c.position refl) (same_refl c.restricted)

found_equal : (c d : Copy) → found_at c d ≡ true → d ≡ c
found_equal c d e =
    let both = (and-eq-true_iff (eqb c.position d.position) (same c.restricted d.restricted)).0 e in
    sym (ap₂ {C = Copy} copy_at (eqb-true c.position d.position both.0) (same_eq c.restricted d.restricted both.1))

found_later : (c : Copy) (cs : List Copy) → Distinct (c ∷ cs) → (d : Copy) → In d cs → found_at c d ≡ false
found_later c cs distinct d h =
    false_if_not_true (found_at c d) (λ e. distinct.0 (subst (λ (x : Copy). In x cs) (found_equal c d e) h))

pub map_in : {A B : Type 0} (f g : A → B) (xs : List A) → ((x : A) → In x xs → f x ≡ g x) → map f xs ≡ map g xs
map_in f g [] h = refl
map_in {B = B} f g (x ∷ xs) h = ap₂ {C = List B} (λ y ys. y ∷ ys) (h x (inl refl)) (map_in f g xs (λ y l. h y (inr l)))

-- The value of a copy under a strategy.
abbrev value_at : Strategy → Copy → Bool
value_at σ c = σ c.position c.restricted

pub values_of_value_of : (cs : List Copy) (vs : List Bool) → Distinct cs → length vs ≡ length cs → values_at cs (value_of cs vs) ≡ vs
values_of_value_of [] [] d l = refl
values_of_value_of [] (v ∷ vs) d l = absurd (omega arith)
values_of_value_of (c ∷ cs) [] d l = absurd (omega arith)
values_of_value_of (c ∷ cs) (v ∷ vs) d l =
    let later : values_at cs (value_of (c ∷ cs) (v ∷ vs)) ≡ values_at cs (value_of cs vs) =
    map_in (value_at (value_of (c ∷ cs) (v ∷ vs))) (value_at (value_of cs vs)) cs (λ x h. rw (found_later c cs d x h)) in
    rw (found_itself c) (ap {B = List Bool} (λ ws. v ∷ ws) (later ∙ values_of_value_of cs vs d.1 (omega arith)))

-- W wants preference i of the copy at place i.
abbrev Prefers : (ℕ → Bool) → List Copy → Strategy → Type 0
Prefers prefer [] W = Unit {0}
Prefers prefer (c ∷ cs) W = (value_at W c ≡ prefer zero) × Prefers (λ i. prefer (suc i)) cs W

prefers_by_number : (prefer : ℕ → Bool) (cs : List Copy) (W : Strategy) → Distinct cs
    → ((c : Copy) → In c cs → value_at W c ≡ prefer (number cs c.position c.restricted)) → Prefers prefer cs W
prefers_by_number prefer [] W d h = tt
prefers_by_number prefer (c ∷ cs) W d h = (
  h c (inl refl) ∙ rw (found_itself c),
  prefers_by_number (λ i. prefer (suc i)) cs W d.1 (λ x l. h x (inr l) ∙ rw (found_later c cs d x l)),
)

prefers_wanted : (prefer : ℕ → Bool) (ts : List Bool) (rows : List Row) → Prefers prefer (copies ts rows) (wanted prefer ts rows)
unfolding wanted
prefers_wanted prefer ts rows = prefers_by_number prefer (copies ts rows) (wanted prefer ts rows) (distinct_copies ts rows) (λ c h. refl)

-- Along a row: at the first own position where σ and τ differ, σ has the value that W wants.
abbrev pub LeadsAlong : Strategy → List Bool → Row → Strategy → Strategy → Type 0
LeadsAlong W ts row σ τ = (k : ℕ) → Own ts k
    → ((j : ℕ) → j < k → Own ts j → σ j (restriction ts j row) ≡ τ j (restriction ts j row))
    → (σ k (restriction ts k row) ≡ τ k (restriction ts k row)) ⊎ (σ k (restriction ts k row) ≡ W k (restriction ts k row))

-- The positions that are left, of which k is the first.
abbrev Left : List Bool → ℕ → List Bool → Type 0
Left ts k left = (i : ℕ) → get_or left i false ≡ get_or ts (k + i) false

left_first : (ts : List Bool) (k : ℕ) (t : Bool) (left : List Bool) → Left ts k (t ∷ left) → get_or ts k false ≡ t
left_first ts k t left here = sym (here zero ∙ ap (λ (n : ℕ). get_or ts n false) (add-zero k))

left_behind : (ts : List Bool) (k : ℕ) (t : Bool) (left : List Bool) → Left ts k (t ∷ left) → Left ts (suc k) left
left_behind ts k t left here i = here (suc i) ∙ ap (λ (n : ℕ). get_or ts n false) (add-suc k i ∙ sym (suc-add k i))

parts_behind : (prefer : ℕ → Bool) (v w : Bool) (vs ws : List Bool) (i : ℕ) → PartsAt prefer (v ∷ vs) (w ∷ ws) (suc i)
    → PartsAt (λ j. prefer (suc j)) vs ws i
parts_behind prefer v w vs ws i p =
    record { agree = λ j h. p.agree (suc j) (omega arith); preferred = p.preferred; unlike = p.unlike }

module _ (W σ τ : Strategy) where
  abbrev Alike : Copy → Type 0
  Alike c = value_at σ c ≡ value_at τ c

  -- At no place do the values of τ part from those of σ to their own advantage.
  abbrev NeverParts : (ℕ → Bool) → List Copy → Type 0
  NeverParts prefer cs = Prefers prefer cs W → (i : ℕ) → PartsAt prefer (values_at cs τ) (values_at cs σ) i → ⊥

  -- Copies of which each is alike or wanted need no order among them.
  never_parts_in_front : (front behind : List Copy) (prefer : ℕ → Bool) → ((c : Copy) → In c front → Alike c ⊎ (value_at σ c ≡ value_at W c))
      → (((c : Copy) → In c front → Alike c) → (p : ℕ → Bool) → NeverParts p behind) → NeverParts prefer (front ++ behind)
  never_parts_in_front [] behind prefer each rest w i p = rest (λ c h. absurd h) prefer w i p
  never_parts_in_front (c ∷ front) behind prefer each rest w zero p =
      let preferred : value_at σ c ≡ prefer zero = ⊎_elim (λ e. e ∙ p.preferred) (λ e. e ∙ w.0) (each c (inl refl)) in
      never_unlike (prefer zero) (value_at σ c) preferred p.unlike
  never_parts_in_front (c ∷ front) behind prefer each rest w (suc i) p =
      let first : (x : Copy) → x ≡ c → Alike x = λ x e. rw e (sym (p.agree zero (omega arith))) in
      let later = parts_behind prefer (value_at τ c) (value_at σ c) (values_at (front ++ behind) τ) (values_at (front ++ behind) σ) i p in
      never_parts_in_front front behind (λ j. prefer (suc j)) (λ x h. each x (inr h)) (λ alike. rest (λ x. ⊎_elim (first x) (alike x))) w.1 i later

  module _ (ts : List Bool) (rows : List Row) (leads : (row : Row) → In row rows → LeadsAlong W ts row σ τ) where
    abbrev AgreeAt : ℕ → Type 0
    AgreeAt k = (row : Row) → In row rows → Own ts k → σ k (restriction ts k row) ≡ τ k (restriction ts k row)

    abbrev AgreeBelow : ℕ → Type 0
    AgreeBelow k = (j : ℕ) → j < k → AgreeAt j

    agree_suc : (k : ℕ) → AgreeBelow k → AgreeAt k → AgreeBelow (suc k)
    agree_suc k below now j l = ⊎_elim (λ (e : j ≡ k). rw e now) (λ (m : j < k). below j m) (eq-or-lt_of_le (le_of_suc-le-suc l))

    alike_or_wanted : (k : ℕ) → AgreeBelow k → Own ts k → (c : Copy) → In c (copies_at ts rows k) → Alike c ⊎ (value_at σ c ≡ value_at W c)
    alike_or_wanted k below own c h =
        let r = in_map_cases (copy_at k) c (fresh [] (restrictions ts rows k)) h in
        let row = in_map_cases (restriction ts k) r.0 rows (fresh_in r.0 [] (restrictions ts rows k) r.2) in
        rw (r.1, row.1) (leads row.0 row.2 k own (λ j l. below j l row.0 row.2))

    agree_at : (k : ℕ) → ((c : Copy) → In c (copies_at ts rows k) → Alike c) → AgreeAt k
    agree_at k alike row h own =
        let r = restriction ts k row in
        let new : In r (fresh [] (restrictions ts rows k)) = in_fresh r [] (restrictions ts rows k) (in_map (restriction ts k) row rows h) (λ e. e) in
        alike (copy_at k r) (in_map (copy_at k) r (fresh [] (restrictions ts rows k)) new)

    never_parts_from : (left : List Bool) (k : ℕ) (prefer : ℕ → Bool) → Left ts k left → AgreeBelow k → NeverParts prefer (copies_from ts rows k left)
    never_parts_from [] k prefer here below w i p = never_unlike (prefer i) false p.preferred p.unlike
    never_parts_from (true ∷ left) k prefer here below w i p =
        never_parts_in_front (copies_at ts rows k) (copies_from ts rows (suc k) left) prefer (alike_or_wanted k below (left_first ts k true left here))
        (λ alike q. never_parts_from left (suc k) q (left_behind ts k true left here) (agree_suc k below (agree_at k alike))) w i p
    never_parts_from (false ∷ left) k prefer here below w i p =
        let now : AgreeAt k = λ row h own. absurd (never_both own (left_first ts k false left here)) in
        never_parts_from left (suc k) prefer (left_behind ts k false left here) (agree_suc k below now) w i p

pub never_parts : (prefer : ℕ → Bool) (ts : List Bool) (rows : List Row) (σ τ : Strategy)
    → ((row : Row) → In row rows → LeadsAlong (wanted prefer ts rows) ts row σ τ)
    → (i : ℕ) → PartsAt prefer (values_at (copies ts rows) τ) (values_at (copies ts rows) σ) i → ⊥
unfolding copies
never_parts prefer ts rows σ τ leads =
    let all : Left ts zero ts = λ j. ap (λ (n : ℕ). get_or ts n false) (sym (zero-add j)) in
    never_parts_from (wanted prefer ts rows) σ τ ts rows leads ts zero prefer all (λ j l. absurd (omega arith)) (prefers_wanted prefer ts rows)

-- Laws of tables: what stands in them, how they grow at the end, and when their rows are all different. Assumes nothing.
use Prim.Native.Nat.{ℕ, zero, suc, ◌≤◌}
use native.Mathlib.Omega.{arith}
use mathlib.Core.Path.{◌≡◌, refl, sym, ap, subst, ◌∙◌}
use mathlib.Core.List.{List, [], ◌∷◌, ◌++◌, map, append-nil, append_assoc}
use mathlib.Core.Logic.{◌⊎◌, inl, inr}
use mathlib.Core.Option.{some, none-ne-some}
use lib.ListN.{length, length-append}
use Rattle.expansion.specs.Play.{Row}
use Rattle.expansion.specs.Copies.{fresh}
use Rattle.expansion.proofs.Membership.{In, Distinct, in_append_left, in_fresh, fresh_in, fresh_unseen, distinct_append_fresh}
use Rattle.rounds.specs.Run.{Entry, Table, rows, under_mark, grown}
use Rattle.rounds.specs.Claim.{Stands, AllDifferent, NewRow}

pub rows_append : (t u : Table) → rows (t ++ u) ≡ rows t ++ rows u
rows_append [] u = refl
rows_append (x ∷ t) u = ap (λ (l : List Row). x.row ∷ l) (rows_append t u)

pub rows_under_mark : (r : ℕ) (new : List Row) → rows (map (under_mark r) new) ≡ new
rows_under_mark r [] = refl
rows_under_mark r (x ∷ new) = ap (λ (l : List Row). x ∷ l) (rows_under_mark r new)

-- In a grown table no row stands twice.
pub distinct_grown : (r : ℕ) (t : Table) (new : List Row) → Distinct (rows t) → Distinct (rows (grown r t new))
distinct_grown r t new distinct =
    let rows_are = rows_append t (map (under_mark r) (fresh (rows t) new)) ∙ ap (λ (l : List Row). rows t ++ l) (rows_under_mark r (fresh (rows t) new)) in
    subst Distinct (sym rows_are) (distinct_append_fresh (rows t) new distinct)

pub rows_grown : (r : ℕ) (t : Table) (new : List Row) → rows (grown r t new) ≡ rows t ++ fresh (rows t) new
rows_grown r t new = rows_append t _ ∙ ap (λ (l : List Row). rows t ++ l) (rows_under_mark r _)

-- A table grows at its end.
abbrev pub Extends : Table → Table → Type 0
Extends t u = (more : Table) × (u ≡ t ++ more)

pub extends_itself : (t : Table) → Extends t t
extends_itself t = ([], sym (append-nil t))

pub extends_further : (t u w : Table) → Extends t u → Extends u w → Extends t w
extends_further t u w p q = (p.0 ++ q.0, q.1 ∙ ap (λ (l : Table). l ++ q.0) p.1 ∙ append_assoc t p.0 q.0)

pub extends_rows : (t u : Table) → Extends t u → (x : Row) → In x (rows t) → In x (rows u)
extends_rows t u p x h = rw (p.1, rows_append) (in_append_left x (rows t) (rows p.0) h)

pub extends_grown : (r : ℕ) (t : Table) (new : List Row) → Extends t (grown r t new)
extends_grown r t new = (map (under_mark r) (fresh (rows t) new), refl)

-- What stands in a table.
pub stands_append : (t more : Table) (i : ℕ) (x : Entry) → Stands t i x → Stands (t ++ more) i x
stands_append [] more i x s = absurd (none-ne-some x s)
stands_append (y ∷ t) more zero x s = s
stands_append (y ∷ t) more (suc i) x s = stands_append t more i x s

pub stands_extends : (t u : Table) (i : ℕ) (x : Entry) → Extends t u → Stands t i x → Stands u i x
stands_extends t u i x p s = rw p.1 (stands_append t p.0 i x s)

-- What stands in a grown table stood there, or came under the round's mark.
pub marks_grown : (r : ℕ) (t : Table) (l : List Row) (i : ℕ) (x : Entry) → Stands (t ++ map (under_mark r) l) i x → Stands t i x ⊎ (x ≡ under_mark r x.row)
marks_grown r [] [] i x s = absurd (none-ne-some x s)
marks_grown r [] (y ∷ l) zero x s = inr (let e : under_mark r y ≡ x = cc in sym e ∙ ap (λ (z : Entry). under_mark r z.row) e)
marks_grown r [] (y ∷ l) (suc i) x s = marks_grown r [] l i x s
marks_grown r (y ∷ t) l zero x s = inl s
marks_grown r (y ∷ t) l (suc i) x s = marks_grown r t l i x s

pub stands_in : (t : Table) (i : ℕ) (x : Entry) → Stands t i x → In x.row (rows t)
stands_in [] i x s = absurd (none-ne-some x s)
stands_in (y ∷ t) zero x s = inl (let e : x ≡ y = cc in rw e)
stands_in (y ∷ t) (suc i) x s = inr (stands_in t i x s)

pub all_different : (t : Table) → Distinct (rows t) → AllDifferent t
all_different [] d i j x y p q e = absurd (none-ne-some x p)
all_different (z ∷ t) d zero zero x y p q e = refl
all_different (z ∷ t) d zero (suc j) x y p q e =
    let f : z.row ≡ y.row = cc in
    absurd (d.0 (rw f (stands_in t j y q)))
all_different (z ∷ t) d (suc i) zero x y p q e =
    let f : z.row ≡ x.row = cc in
    absurd (d.0 (rw f (stands_in t i x p)))
all_different (z ∷ t) d (suc i) (suc j) x y p q e = ap suc (all_different t d.1 i j x y p q e)

-- A row among those that are put behind a table stands there, with their mark.
stands_behind : (r : ℕ) (x : Row) (q : Table) (new : List Row) → In x new → (i : ℕ) × Stands (q ++ map (under_mark r) new) i (under_mark r x)
stands_behind r x [] [] h = absurd h
stands_behind r x [] (y ∷ new) (inl e) = (zero, ap (λ (z : Row). some (under_mark r z)) (sym e))
stands_behind r x [] (y ∷ new) (inr h) =
    let later = stands_behind r x [] new h in
    (suc later.0, later.1)
stands_behind r x (z ∷ q) new h =
    let later = stands_behind r x q new h in
    (suc later.0, later.1)

-- A row that a round yields and that is not in the table t is yielded anew, whatever part q of t the round keeps.
new_to_part : (t q : Table) (new : List Row) → ((x : Row) → In x (rows q) → In x (rows t)) → (x : Row) → In x (fresh (rows t) new) → In x (fresh (rows q) new)
new_to_part t q new part x h = in_fresh x (rows q) new (fresh_in x (rows t) new h) (λ old. fresh_unseen x (rows t) new h (part x old))

-- If there is such a row, it is a new row of the round, in whatever grows from q.
pub grown_new : (r : ℕ) (t q : Table) (new : List Row) (end : Table) → ((x : Row) → In x (rows q) → In x (rows t)) → (fresh (rows t) new ≡ [] → ⊥)
    → Extends (grown r q new) end → NewRow r t (grown r q new) end
grown_new r t q new end part adds p = of_fresh (fresh (rows t) new) refl
  where
    of_fresh : (l : List Row) → fresh (rows t) new ≡ l → NewRow r t (grown r q new) end
    of_fresh [] e = absurd (adds e)
    of_fresh (x ∷ l) e =
        let first : In x (fresh (rows t) new) = rw e (inl refl) in
        let here = stands_behind r x q (fresh (rows q) new) (new_to_part t q new part x first) in
        record {
          place = here.0;
          entry = under_mark r x;
          stands = here.1;
          marked = refl;
          new = λ i y s same. fresh_unseen x (rows t) new first (rw (← same) (stands_in t i y s));
          still = stands_extends (grown r q new) end here.0 (under_mark r x) p here.1;
        }

-- So q grows.
pub adds_to_part : (t q : Table) (new : List Row) → ((x : Row) → In x (rows q) → In x (rows t)) → (fresh (rows t) new ≡ [] → ⊥) → fresh (rows q) new ≡ [] → ⊥
adds_to_part t q new part adds nothing = of_fresh (fresh (rows t) new) refl
  where
    of_fresh : (l : List Row) → fresh (rows t) new ≡ l → ⊥
    of_fresh [] e = adds e
    of_fresh (x ∷ l) e = subst (λ (n : List Row). In x n) nothing (new_to_part t q new part x (rw e (inl refl)))

pub length_grown : (r : ℕ) (t : Table) (new : List Row) → (fresh (rows t) new ≡ [] → ⊥) → suc (length t) ≤ length (grown r t new)
length_grown r t new adds = of_fresh (fresh (rows t) new) refl
  where
    of_fresh : (l : List Row) → fresh (rows t) new ≡ l → suc (length t) ≤ length (grown r t new)
    of_fresh [] e = absurd (adds e)
    of_fresh (x ∷ l) e = rw e (simp length-append (omega arith))
